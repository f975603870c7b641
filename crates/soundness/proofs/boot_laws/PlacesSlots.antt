-- The slots of an image's objects lie inside the objects, after the boot area and apart.
use Rattle.std.proofs.Common.{ℕ, ◌≡◌, ◌∙◌, ◌+◌, ◌-◌, ◌*◌, ◌/◌, ◌%◌, ◌^◌, ◌<◌, ◌≤◌, inl, inr, true, false, Option, Some, None, refl, sym, ap, arith}
use Rattle.std.specs.Prelude.{nat_lt, option_and_then}
use Rattle.std.specs.Option.{option_map_or}
use Rattle.std.proofs.lemmas.Bool.{false≢true, ltb-true, ltb-false}
use Rattle.std.proofs.lemmas.Bool.Decides.{eqb_tells}
use Rattle.std.proofs.lemmas.Nat.{mod-pow-add}
use Rattle.model.proofs.SlotChanges.{bounds-within, within-bounds}
use Rattle.format_laws.specs.Fitting.{IsFitting}
use Rattle.soundness.proofs.boot_laws.PlacesRules.{AreFormed}
use Rattle.soundness.proofs.boot_laws.PlacesObjects.{ObjectStands, object-bounds, object-stands, objects-apart, size_at}
use Rattle.soundness.proofs.boot_laws.PlacesTypes.{HasType, four-bits, has-type, room-fits}
use Rattle.model.specs.Acceptance.WellFormed.{has_slot, is_thread_type, radix_of}
use Rattle.model.specs.Images.Described.{is_object_slot}
use Rattle.model.specs.Images.Image.{Image}
use Rattle.model.specs.Images.Places.{bits_of, boot_slots, cnode_slot, object_at, offset_of, type_at}
use Rattle.model.specs.Kernel.Removal.{slot_count}
use Rattle.model.specs.Kernel.Retype.{NewObject, NewUntyped, NewThread, NewEndpoint, NewNotification, NewCNode, NewFrame, NewPageTable, NewRootTable, object}
use Rattle.model.specs.Kernel.Retype.{object_bits}
use Rattle.model.specs.Kernel.State.{boot_area_slots, buffer_slot, cspace_slot, slot_of, vspace_slot}

-- a multiple of a power of two is one of each lower power
pub lower-power : (n low bits : ℕ) → low ≤ bits → n % 2 ^ bits ≡ 0 → n % 2 ^ low ≡ 0
lower-power n low bits less is =
    let high : ℕ = bits - low in
    let sum : high + low ≡ bits = omega (arith, less) in
    let parts : n % 2 ^ bits ≡ n / 2 ^ low % 2 ^ high * 2 ^ low + n % 2 ^ low = ap (λ (b : ℕ). n % 2 ^ b) (sym sum) ∙ mod-pow-add n high low in
    omega (arith, parts, is)

pub bits-type : (image : Image) (number : ℕ) (typed : HasType (object_at image number)) → bits_of (object_at image number) ≡ object_bits (HasType.kind typed)
bits-type image number typed = ap (λ (t : Option NewObject). option_map_or object_bits t 0) (HasType.is typed)

pub count-type : (image : Image) (number : ℕ) (typed : HasType (object_at image number))
    → slot_count (option_and_then object (type_at image number)) ≡ slot_count (object (HasType.kind typed))
count-type image number typed = ap (λ (t : Option NewObject). slot_count (option_and_then object t)) (HasType.is typed)

module _ (image : Image) (fitting : IsFitting image) (formed : AreFormed image) where
  pub offset-whole : (number : ℕ) → number < image.header.objects → offset_of image number % 16 ≡ 0
  offset-whole number less =
      let typed = has-type image number fitting less in
      let bits : 4 ≤ bits_of (object_at image number) =
      (let four = four-bits typed.kind typed.large in let same = bits-type image number typed in omega (arith, four, same)) in
      lower-power (offset_of image number) 4 (bits_of (object_at image number)) bits (ObjectStands.aligned (object-stands image number fitting formed less))

  -- the 16 bytes of a slot lie in its object
  pub slot-inside : (number slot : ℕ) → number < image.header.objects → is_object_slot image slot number ≡ true
      → (offset_of image number ≤ 16 * slot) × (16 * slot + 16 ≤ offset_of image number + size_at image number)
  slot-inside number slot less is =
      let typed = has-type image number fitting less in
      let count = count-type image number typed in
      let bounds = within-bounds (slot_of (offset_of image number) 0) (slot_count (option_and_then object (type_at image number))) slot is in
      let whole = offset-whole number less in
      let room = room-fits typed.kind in
      let size : size_at image number ≡ 2 ^ object_bits typed.kind = ap (λ (n : ℕ). 2 ^ n) (bits-type image number typed) in
      let low : offset_of image number / 16 + 0 ≤ slot = bounds.0 in
      let high : slot < offset_of image number / 16 + 0 + slot_count (option_and_then object (type_at image number)) = bounds.1 in
      (omega (arith, low, whole), omega (arith, high, count, whole, room, size))

  pub slot-behind-boot : (number slot : ℕ) → number < image.header.objects → is_object_slot image slot number ≡ true →
      boot_area_slots image.header.boot_radix ≤ slot
  slot-behind-boot number slot less is =
      let inside = slot-inside number slot less is in
      let bounds = object-bounds image number (object-stands image number fitting formed less) in
      omega (arith, inside, bounds)

  pub slot-in-memory : (number slot : ℕ) → number < image.header.objects → is_object_slot image slot number ≡ true → slot < 2 ^ image.header.memory_bits / 16
  slot-in-memory number slot less is =
      let inside = slot-inside number slot less is in
      let bounds = object-bounds image number (object-stands image number fitting formed less) in
      omega (arith, inside, bounds)

  -- a slot is one object's
  pub slot-of-one : (i j slot : ℕ) → i < image.header.objects → j < image.header.objects → is_object_slot image slot i ≡ true →
      is_object_slot image slot j ≡ true → i ≡ j
  slot-of-one i j slot inside_i inside_j one two = elim (eqb_tells i j) [
    | inl equal ↦ equal.1
    | inr other ↦
        let a = slot-inside i slot inside_i one in
        let b = slot-inside j slot inside_j two in
        elim (objects-apart image i j fitting formed inside_i inside_j other.1) [
          | inl before ↦ absurd (omega (arith, before, a, b))
          | inr behind ↦ absurd (omega (arith, behind, a, b))
        ]
  ]

  pub boot-slots-suffice : boot_slots image ≤ 2 ^ image.header.boot_radix
  boot-slots-suffice = ltb-false (2 ^ image.header.boot_radix) (boot_slots image) formed.boot_slots

-- ---- the slots of CNodes and threads

has-radix : (t : Option NewObject) (index : ℕ) → option_map_or (λ radix. nat_lt index (2 ^ radix)) (radix_of t) false ≡ true
    → index < slot_count (option_and_then object t)
has-radix None index is = absurd (false≢true is)
has-radix (Some (NewUntyped bits)) index is = absurd (false≢true is)
has-radix (Some NewThread) index is = absurd (false≢true is)
has-radix (Some NewEndpoint) index is = absurd (false≢true is)
has-radix (Some NewNotification) index is = absurd (false≢true is)
has-radix (Some (NewCNode radix)) index is = ltb-true index (2 ^ radix) is
has-radix (Some NewFrame) index is = absurd (false≢true is)
has-radix (Some NewPageTable) index is = absurd (false≢true is)
has-radix (Some NewRootTable) index is = absurd (false≢true is)

three-slots : (t : Option NewObject) → is_thread_type t ≡ true → slot_count (option_and_then object t) ≡ 3
three-slots None is = absurd (false≢true is)
three-slots (Some (NewUntyped bits)) is = absurd (false≢true is)
three-slots (Some NewThread) is = refl
three-slots (Some NewEndpoint) is = absurd (false≢true is)
three-slots (Some NewNotification) is = absurd (false≢true is)
three-slots (Some (NewCNode radix)) is = absurd (false≢true is)
three-slots (Some NewFrame) is = absurd (false≢true is)
three-slots (Some NewPageTable) is = absurd (false≢true is)
three-slots (Some NewRootTable) is = absurd (false≢true is)

slot-at : (image : Image) (number index : ℕ) → index < slot_count (option_and_then object (type_at image number))
    → is_object_slot image (slot_of (offset_of image number) index) number ≡ true
slot-at image number index less =
    bounds-within (slot_of (offset_of image number) 0) (slot_count (option_and_then object (type_at image number))) (slot_of (offset_of image number) index)
    (omega arith) (omega (arith, less))

pub cnode-slot : (image : Image) (cnode index : ℕ) → has_slot image cnode index ≡ true → is_object_slot image (cnode_slot image cnode index) cnode ≡ true
cnode-slot image cnode index is = slot-at image cnode index (has-radix (type_at image cnode) index is)

pub cspace-slot : (image : Image) (tcb : ℕ) → is_thread_type (type_at image tcb) ≡ true → is_object_slot image (cspace_slot (offset_of image tcb)) tcb ≡ true
cspace-slot image tcb is = let three = three-slots (type_at image tcb) is in slot-at image tcb 0 (omega (arith, three))

pub vspace-slot : (image : Image) (tcb : ℕ) → is_thread_type (type_at image tcb) ≡ true → is_object_slot image (vspace_slot (offset_of image tcb)) tcb ≡ true
vspace-slot image tcb is = let three = three-slots (type_at image tcb) is in slot-at image tcb 1 (omega (arith, three))

pub buffer-slot : (image : Image) (tcb : ℕ) → is_thread_type (type_at image tcb) ≡ true → is_object_slot image (buffer_slot (offset_of image tcb)) tcb ≡ true
buffer-slot image tcb is = let three = three-slots (type_at image tcb) is in slot-at image tcb 2 (omega (arith, three))
