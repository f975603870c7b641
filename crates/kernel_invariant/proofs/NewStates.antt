-- The state once one object was made: its room, its record, and its capability.
use Rattle.std.proofs.Common.{ℕ, ◌≡◌, ◌∙◌, ◌+◌, ◌*◌, ◌-◌, ◌/◌, ◌%◌, ◌^◌, ◌<◌, ◌≤◌, ◌⊎◌, inl, inr, true, false, if◌then◌else◌, Option, Some, None, IsSome, List}
use Rattle.std.proofs.Common.{pow_pos, refl, sym, ap, subst, arith}
use Rattle.std.proofs.lemmas.Bool.{cases_lt, leb-true}
use Rattle.std.proofs.lemmas.Nat.{mod-pow-add, pow-add}
use Rattle.kernel_invariant.proofs.RoomsMade.{slots-alone}
use Rattle.kernel_invariant.proofs.Steps.{no-slot}
use Rattle.kernel_invariant.specs.Growing.{Growing}
use Rattle.kernel_invariant.specs.Rooms.{RoomMade}
use Rattle.model.proofs.SlotChanges.{within-bounds}
use Rattle.model.specs.Capabilities.Slots.{IsOpen, Slots, empty_entry, is_within}
use Rattle.model.specs.Kernel.Kinds.{kind_of}
use Rattle.model.specs.Kernel.Removal.{slot_count}
use Rattle.model.specs.Kernel.Retype.{NewObject, NewUntyped, NewThread, NewEndpoint, NewNotification, NewCNode, NewFrame, NewPageTable, NewRootTable}
use Rattle.model.specs.Kernel.Retype.{is_large_enough, is_small_enough, object, object_bits}
use Rattle.model.specs.Kernel.State.{State, with_slots}
use Rattle.model.specs.declared.slot_entries.Entry.{Entry}
use Rattle.objects.proofs.Laws.{follows-kept, not-open, stands-kept}
use Rattle.objects.specs.Changes.{MayStand}
use Rattle.objects.specs.Frames.{IsInRecord, IsRoom, SameKept, has_slots, slot_bytes}
use Rattle.objects.specs.Standing.{Standing}
use Rattle.objects.specs.Tables.{Tables, state_of}
use Rattle.model.specs.Kernel.ObjectTypes.{new_object}
use Rattle.model.specs.declared.object_types.ObjectKind.{ObjectKind}
use Rattle.model.specs.declared.object_types.ObjectKind.TheVariants as kinds

-- ---- places

pub bits-least : (kind : NewObject) → is_large_enough kind ≡ true → 4 ≤ object_bits kind
bits-least (NewUntyped bits) large = leb-true 4 bits large
bits-least NewThread large = omega arith
bits-least NewEndpoint large = omega arith
bits-least NewNotification large = omega arith
bits-least (NewCNode radix) large = omega arith
bits-least NewFrame large = omega arith
bits-least NewPageTable large = omega arith
bits-least NewRootTable large = omega arith

pub sixteen : (kind : NewObject) (place : ℕ) → is_large_enough kind ≡ true → place % 2 ^ object_bits kind ≡ 0 → place % 16 ≡ 0
sixteen kind place large aligned =
    let least = bits-least kind large in
    let wide : object_bits kind ≡ object_bits kind - 4 + 4 = omega (arith, least) in
    let parts = mod-pow-add place (object_bits kind - 4) 4 in
    let same : place % 2 ^ (object_bits kind - 4 + 4) ≡ 0 = ap (λ (n : ℕ). place % 2 ^ n) (sym wide) ∙ aligned in
    omega (arith, parts, same)

pub may-stand : (kind : ObjectKind) (place bits : ℕ) → place % 2 ^ object_bits (kind_of (new_object kind)) ≡ 0 → place < 2 ^ bits
    → is_large_enough (kind_of (new_object kind)) ≡ true → is_small_enough (kind_of (new_object kind)) ≡ true → MayStand bits kind place
may-stand kinds.Thread place bits aligned near large small = (aligned, near)
may-stand (kinds.CNode radix) place bits aligned near large small = (sixteen (NewCNode radix) place large aligned, near, leb-true radix 14 small)
may-stand kinds.Endpoint place bits aligned near large small = (aligned, near)
may-stand kinds.Notification place bits aligned near large small = (aligned, near)
may-stand kinds.Frame place bits aligned near large small = (sixteen NewFrame place large aligned, near)
may-stand kinds.PageTable place bits aligned near large small = (sixteen NewPageTable place large aligned, near)
may-stand kinds.RootTable place bits aligned near large small = (sixteen NewRootTable place large aligned, near)

pub slots-within : (kind : NewObject) → 16 * slot_count (object kind) ≤ 2 ^ object_bits kind
slots-within (NewUntyped bits) = omega (arith, pow_pos bits)
slots-within NewThread = omega arith
slots-within NewEndpoint = omega arith
slots-within NewNotification = omega arith
slots-within (NewCNode radix) = let split = pow-add 2 radix 4 in omega (arith, split)
slots-within NewFrame = omega arith
slots-within NewPageTable = omega arith
slots-within NewRootTable = omega arith

-- the slots that an object with a record begins with
slots-bytes : (kind : NewObject) → has_slots kind ≡ false → 16 * slot_count (object kind) ≡ slot_bytes kind
slots-bytes (NewUntyped bits) plain = refl
slots-bytes NewThread plain = refl
slots-bytes NewEndpoint plain = refl
slots-bytes NewNotification plain = refl
slots-bytes (NewCNode radix) plain = absurd (let clash : true ≡ false = plain in cc)
slots-bytes NewFrame plain = refl
slots-bytes NewPageTable plain = refl
slots-bytes NewRootTable plain = refl

-- ---- the room

module _ (o : Tables) (slots room : Slots) (old made : List ℕ) (kind : NewObject) (place to : ℕ)
    (growing : Growing (state_of o slots old) old place to) (fits : place + 2 ^ object_bits kind ≤ to) (sixteenth : place % 16 ≡ 0)
    (is_made : RoomMade slots room old made kind place) where
  abbrev s : State
  s = state_of o slots old

  own : s.slots ≡ slots
  unfolding state_of
  own = refl

  -- a place outside the object is open afterwards only if it was
  room-elsewhere : (other : ℕ) → (other < place) ⊎ (place + 2 ^ object_bits kind ≤ other) → room (other / 16) ≡ slots (other / 16)
  room-elsewhere other beside =
      ap (λ (f : Slots). f (other / 16)) is_made.slots ∙ slots-alone kind place (other / 16) slots
      ∙ elim (is_within (place / 16) (slot_count (object kind)) (other / 16)) as (λ b. is_within (place / 16) (slot_count (object kind)) (other / 16) ≡ b
      → (if b then Some empty_entry else slots (other / 16)) ≡ slots (other / 16)) [
        | true ↦ λ is.
            let bounds = within-bounds (place / 16) (slot_count (object kind)) (other / 16) is in
            let low = bounds.0 in
            let high = bounds.1 in
            let size = slots-within kind in
            absurd (elim beside [ inl before ↦ omega (arith, before, low, sixteenth) | inr behind ↦ omega (arith, behind, high, size, sixteenth) ])
        | false ↦ λ is. refl
      ] refl

  -- a byte of a frame lies outside the object
  frame-elsewhere : (other byte : ℕ) → s.bytes other ≡ Some byte → (other < place) ⊎ (place + 2 ^ object_bits kind ≤ other)
  frame-elsewhere other byte is = elim (cases_lt other place) [
    | inl before ↦ inl before
    | inr from ↦
        elim (cases_lt other (place + 2 ^ object_bits kind)) [
          | inl inside ↦
              let none = growing.free.bytes other from (omega (arith, inside, fits)) in absurd (let clash : None ≡ Some byte = sym none ∙ is in cc)
          | inr behind ↦ inr behind
        ]
  ]

  -- and so does a record
  record-elsewhere : (other : ℕ) → IsInRecord s.objects other → (other < place) ⊎ (place + 2 ^ object_bits kind ≤ other)
  record-elsewhere other held =
      let low = held.from in
      let high = held.below in
      elim (growing.free.objects held.offset held.kind held.there) [
        | inl before ↦ inl (omega (arith, before, high))
        | inr behind ↦ inr (omega (arith, behind, low, fits))
      ]

  -- what was open is open in the state's slots
  own-open : (slot : ℕ) → IsOpen slots slot → IsOpen s.slots slot
  unfolding state_of
  own-open slot is_open = is_open

  -- a place in an open slot was in one, or the slot is one of the object's
  opened-before : (other : ℕ) → IsOpen room (other / 16) → IsOpen s.slots (other / 16) ⊎ ((place ≤ other) × (other < place + 16 * slot_count (object kind)))
  opened-before other is_open =
      elim (is_within (place / 16) (slot_count (object kind)) (other / 16)) as (λ b. is_within (place / 16) (slot_count (object kind)) (other / 16) ≡ b
      → IsSome (if b then Some empty_entry else slots (other / 16)) →
      IsOpen s.slots (other / 16) ⊎ ((place ≤ other) × (other < place + 16 * slot_count (object kind)))) [
        | true ↦ λ is here.
            let bounds = within-bounds (place / 16) (slot_count (object kind)) (other / 16) is in
            let low = bounds.0 in
            let high = bounds.1 in
            inr (omega (arith, low, sixteenth), omega (arith, high, sixteenth))
        | false ↦ λ is here. inl (own-open (other / 16) here)
      ] refl (subst (λ (e : Option Entry). IsSome e) (ap (λ (f : Slots). f (other / 16)) is_made.slots ∙ slots-alone kind place (other / 16) slots) is_open)

  module _ (stands : Standing o slots old) where
    room-kept : SameKept s old made
    room-kept = record {
      size = is_made.size;
      frames = λ other byte is.
          let beside = frame-elsewhere other byte is in
          is_made.bytes other (room-elsewhere other beside ∙ ap (λ (f : Slots). f (other / 16)) (sym own) ∙ no-slot s old growing.agrees other byte is) beside;
      records = λ other held.
          let beside = record-elsewhere other held in
          is_made.bytes other (room-elsewhere other beside
          ∙ not-open slots (other / 16) (λ is_open. stands.fits.records other (own-open (other / 16) is_open) held)) beside;
    }

    pub room-state : state_of o room made ≡ with_slots s room
    room-state = follows-kept o slots old made room stands room-kept

    pub room-stands : Standing o room made
    room-stands =
        let small = slots-within kind in
        stands-kept o slots old made room stands room-kept
        (λ other is_open. elim (opened-before other is_open) [
          | inl was ↦ stands.fits.frames other was
          | inr its ↦ let high = its.1 in growing.free.bytes other its.0 (omega (arith, high, small, fits))
        ])
        (λ other is_open held. elim (opened-before other is_open) [
          | inl was ↦ stands.fits.records other was held
          | inr its ↦
              let low = its.0 in
              let high = its.1 in
              elim (record-elsewhere other held) [ inl before ↦ omega (arith, before, low) | inr behind ↦ omega (arith, behind, high, small) ]
        ])

    -- and the object finds what it needs there
    pub is-room : IsRoom (state_of o room made) kind place
    is-room = subst (λ (t : State). IsRoom t kind place) (sym room-state) (record {
      slots = λ other from below plain. not-open room (other / 16) (λ is_open. elim (opened-before other is_open) [
        | inl was ↦
            let none = growing.free.slots other (omega (arith, from)) (omega (arith, below, fits)) in
            let clash : false ≡ true = subst (λ (e : Option Entry). IsSome e) none was in absurd cc
        | inr its ↦ let high = its.1 in let bytes = slots-bytes kind plain in omega (arith, from, high, bytes)
      ]);
      frames = λ other from below. growing.free.bytes other from (omega (arith, below, fits));
      records = λ other from below held. elim (record-elsewhere other held)
          [ inl before ↦ omega (arith, before, from) | inr behind ↦ omega (arith, behind, below) ];
    })
