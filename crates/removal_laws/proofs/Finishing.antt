-- What a removal of a sound state closes and wakes is what it leaves without an object.
use Rattle.std.proofs.Common.{ℕ, suc, ◌≡◌, ◌∙◌, ◌==◌, ◌+◌, ◌*◌, ◌/◌, ◌%◌, ◌^◌, ◌<◌, ◌≤◌, ◌&&◌, ◌||◌, inl, inr, Bool, true, false, not, nat_le, nat_lt}
use Rattle.std.proofs.Common.{if◌then◌else◌, Option, Some, None, is_some, option_map, refl, sym, ap, arith}
use Rattle.std.specs.Prelude.{filter, fold}
use Rattle.std.specs.Option.{option_map_or}
use Rattle.std.specs.List.{list_any}
use Rattle.std.proofs.Math.Bool.{and-false, and-true, or-true}
use Rattle.std.proofs.lemmas.Bool.{eq-eqb, le-leb}
use Rattle.std.proofs.lemmas.Bool.Decides.{eqb_tells, leb_tells}
use Rattle.std.proofs.lemmas.Nat.{mod-pow-add, pow-add}
use Rattle.model.specs.Capabilities.CapabilityWords.{IsCapability}
use Rattle.model.specs.declared.capabilities.Cap.{Cap}
use Rattle.model.specs.declared.capabilities.Cap.TheVariants.{Empty, Untyped, Endpoint, Notification, CNode, Frame, PageTable, Tcb, RootTable, InterruptControl}
use Rattle.model.specs.declared.capabilities.Cap.TheVariants.{InterruptHandler}
use Rattle.model.specs.Capabilities.CapabilityKinds.{object_of}
use Rattle.model.specs.Capabilities.Slots.{IsFull, IsOpen, capability_at, is_empty, is_within}
use Rattle.model.specs.Kernel.Kinds.{Names, Piece, kind_of, object_named, piece_of, piece_of_object, used_of}
use Rattle.model.specs.Kernel.Removal.{SlotSet, closes, emptied, ends, is_ending_thread, is_set_back, is_slot_of, kept_entry, slot_count, thread_places}
use Rattle.model.specs.Kernel.Removal.{waits_on_ended, without_slots}
use Rattle.model.specs.Kernel.Retype.{NewObject, object_bits}
use Rattle.model.specs.Kernel.Scheduling.{wake, without_threads}
use Rattle.model.specs.Kernel.Soundness.{HasSlot, IsSound, apart, around, is_blocked_on, of_boot_area, of_object, same, waiting_at, waits_at, within}
use Rattle.model.specs.Kernel.State.{State, Status, Inactive, Runnable, Blocked, AwaitsReply, AwaitsHandler, Object, ThreadObject, EndpointObject}
use Rattle.model.specs.Kernel.State.{NotificationObject, CNodeObject, FrameObject, PageTableObject, RootTableObject, ThreadState, as_thread, boot_area_slots}
use Rattle.model.specs.Kernel.State.{slots_of}
use Rattle.removal_laws.specs.Finishing.{has_slot, is_stranded, settled, waits_nowhere, without_strays}
use Rattle.model.specs.declared.slot_entries.Entry.{Entry}
use Rattle.model.specs.Shared.Lists.{times_in}
use Rattle.removal_laws.proofs.Keeping.{there-out}
use Rattle.removal_laws.proofs.Found.{both, found-at, found-none, found-where, join}

-- the place in what is some pair
abbrev pair_of : NewObject → ℕ → Option (NewObject × ℕ)
pair_of k f = Some (k, f)

offset-of : (k : NewObject) (f : ℕ) (l : NewObject) (o : ℕ) → pair_of k f ≡ pair_of l o → f ≡ o
offset-of k f l o is = ap (λ (p : Option (NewObject × ℕ)). option_map_or (λ q. q.1) p 0) is

-- ---- slots of objects

pub within-bounds : (first count slot : ℕ) → is_within first count slot ≡ true → (first ≤ slot) × (slot < first + count)
within-bounds first count slot is =
    let parts = both (nat_le first slot) (nat_lt slot (first + count)) is in (
      elim (leb_tells first slot) [ inl low ↦ low.1 | inr high ↦ absurd (let clash : false ≡ true = sym high.0 ∙ parts.0 in cc) ],
      elim (leb_tells (slot + 1) (first + count)) [
        | inl low ↦ omega (arith, low.1)
        | inr high ↦
            absurd (let clash : false ≡ true = sym high.0 ∙ ap (λ (n : ℕ). nat_le n (first + count)) (omega arith) ∙ parts.1 in cc)
      ],
    )

pub bounds-within : (first count slot : ℕ) → first ≤ slot → slot < first + count → is_within first count slot ≡ true
bounds-within first count slot low high = join (nat_le first slot) _ (le-leb first slot low) (le-leb (suc slot) (first + count) high)

-- a multiple of an object's size is one of sixteen
sixteen : (offset more : ℕ) → offset % 2 ^ (more + 4) ≡ 0 → offset % 16 ≡ 0
sixteen offset more multiple = let split = mod-pow-add offset more 4 in omega (arith, split, multiple)

-- what names an object has it at a multiple of sixteen bytes
aligned : (c : Cap) (k : NewObject) (o : ℕ) → IsCapability c → object_named c ≡ Some (k, o) → o % 16 ≡ 0
aligned (Endpoint f r b) k o valid is = let e : f ≡ o = offset-of _ _ k o is in omega (arith, e, valid.0.0)
aligned (Notification f r b) k o valid is = let e : f ≡ o = offset-of _ _ k o is in omega (arith, e, valid.0.0)
aligned (CNode f radix g) k o valid is = let e : f ≡ o = offset-of _ _ k o is in let low = sixteen f radix valid.0.0 in omega (arith, e, low)
aligned (Frame f r m) k o valid is = let e : f ≡ o = offset-of _ _ k o is in omega (arith, e, valid.0.0)
aligned (PageTable f m) k o valid is = let e : f ≡ o = offset-of _ _ k o is in omega (arith, e, valid.0.0)
aligned (Tcb f) k o valid is = let e : f ≡ o = offset-of _ _ k o is in omega (arith, e, valid.0)
aligned (RootTable f) k o valid is = let e : f ≡ o = offset-of _ _ k o is in omega (arith, e, valid.0)
aligned Empty k o valid is = absurd (let clash : None ≡ pair_of k o = is in cc)
aligned (Untyped f b w) k o valid is = absurd (let clash : None ≡ pair_of k o = is in cc)
aligned InterruptControl k o valid is = absurd (let clash : None ≡ pair_of k o = is in cc)
aligned (InterruptHandler line) k o valid is = absurd (let clash : None ≡ pair_of k o = is in cc)

-- an object that has slots is as large as these
size-of-slots : (o : Object) → 16 * slot_count (Some o) ≤ 2 ^ object_bits (kind_of o)
size-of-slots (ThreadObject t) = omega arith
size-of-slots (EndpointObject e) = omega arith
size-of-slots (NotificationObject n) = omega arith
size-of-slots (CNodeObject radix) = let split = pow-add 2 radix 4 in omega (arith, split)
size-of-slots FrameObject = omega arith
size-of-slots PageTableObject = omega arith
size-of-slots RootTableObject = omega arith

-- the memory of an object, which is no untyped
piece-named : (c : Cap) (k : NewObject) (o : ℕ) → object_named c ≡ Some (k, o) → piece_of c ≡ Some (record { first = o; size = 2 ^ object_bits k })
piece-named Empty k o is = absurd (let clash : None ≡ pair_of k o = is in cc)
piece-named (Untyped f b w) k o is = absurd (let clash : None ≡ pair_of k o = is in cc)
piece-named (Endpoint f r b) k o is = ap (option_map piece_of_object) is
piece-named (Notification f r b) k o is = ap (option_map piece_of_object) is
piece-named (CNode f radix g) k o is = ap (option_map piece_of_object) is
piece-named (Frame f r m) k o is = ap (option_map piece_of_object) is
piece-named (PageTable f m) k o is = ap (option_map piece_of_object) is
piece-named (Tcb f) k o is = ap (option_map piece_of_object) is
piece-named (RootTable f) k o is = ap (option_map piece_of_object) is
piece-named InterruptControl k o is = absurd (let clash : None ≡ pair_of k o = is in cc)
piece-named (InterruptHandler line) k o is = absurd (let clash : None ≡ pair_of k o = is in cc)

not-used : (c : Cap) (k : NewObject) (o : ℕ) (used : Piece) → object_named c ≡ Some (k, o) → used_of c ≡ Some used → ⊥
not-used (Untyped f b w) k o used is uses = let clash : None ≡ pair_of k o = is in cc
not-used Empty k o used is uses = let clash : None ≡ Some used = uses in cc
not-used (Endpoint f r b) k o used is uses = let clash : None ≡ Some used = uses in cc
not-used (Notification f r b) k o used is uses = let clash : None ≡ Some used = uses in cc
not-used (CNode f radix g) k o used is uses = let clash : None ≡ Some used = uses in cc
not-used (Frame f r m) k o used is uses = let clash : None ≡ Some used = uses in cc
not-used (PageTable f m) k o used is uses = let clash : None ≡ Some used = uses in cc
not-used (Tcb f) k o used is uses = let clash : None ≡ Some used = uses in cc
not-used (RootTable f) k o used is uses = let clash : None ≡ Some used = uses in cc
not-used InterruptControl k o used is uses = let clash : None ≡ Some used = uses in cc
not-used (InterruptHandler line) k o used is uses = let clash : None ≡ Some used = uses in cc

module _ (s : State) (sound : IsSound s) where
  -- an object that has a slot is there, and some capability names it
  abbrev pub Holder : ℕ → ℕ → Type 0
  Holder o y = (k : NewObject) × (a : ℕ) × Names k o (capability_at s.slots a) × (o / 16 ≤ y) × (16 * y + 16 ≤ 16 * (o / 16) + 2 ^ object_bits k)

  holder-of : (o y : ℕ) (object : Option Object) → s.objects o ≡ object → is_within (o / 16) (slot_count object) y ≡ true → Holder o y
  holder-of o y None is inner = let bounds = within-bounds (o / 16) 0 y inner in absurd (omega (arith, bounds.0, bounds.1))
  holder-of o y (Some object) is inner =
      let bounds = within-bounds (o / 16) (slot_count (Some object)) y inner in
      let live = sound.memory.live o (kind_of object) (ap (option_map kind_of) is) in
      (kind_of object, live.0, live.1, bounds.0, omega (arith, bounds.1, size-of-slots object))

  pub holder : (o y : ℕ) → is_slot_of s o y ≡ true → Holder o y
  holder o y inner = holder-of o y (s.objects o) refl inner

  pub holder-aligned : (o y : ℕ) → Holder o y → o % 16 ≡ 0
  holder-aligned o y h = aligned (capability_at s.slots h.1) h.0 o (sound.slots.derivation.valid h.1) h.2

  -- a slot is one object's
  pub one-holder : (o n y : ℕ) → Holder o y → Holder n y → o ≡ n
  one-holder o n y h l = elim (eqb_tells h.1 l.1) [
    | inl here ↦ offset-of h.0 o l.0 n (sym h.2 ∙ ap (λ (a : ℕ). object_named (capability_at s.slots a)) here.1 ∙ l.2)
    | inr other ↦ elim (sound.memory.lies h.1 l.1 _ _ other.1 (piece-named _ h.0 o h.2) (piece-named _ l.0 n l.2)) [
      | apart (inl below) ↦ absurd (omega (arith, below, h.3, h.4, l.3, l.4))
      | apart (inr above) ↦ absurd (omega (arith, above, h.3, h.4, l.3, l.4))
      | same kind offset one two ↦ offset-of h.0 o kind offset (sym h.2 ∙ one) ∙ sym (offset-of l.0 n kind offset (sym l.2 ∙ two))
      | within used is inner below ↦ absurd (not-used _ l.0 n used l.2 is)
      | around used is inner below ↦ absurd (not-used _ h.0 o used h.2 is)
    ]
  ]

  -- no object lies in the boot area
  pub behind-boot : (o y : ℕ) → Holder o y → boot_area_slots s.boot_radix ≤ y
  behind-boot o y h = let place = sound.memory.inside h.1 _ (piece-named _ h.0 o h.2) in omega (arith, place.0, h.3)

  -- and none beyond the end of memory
  -- and all its slots are in memory
  pub in-memory-whole : (o y : ℕ) → Holder o y → y < 2 ^ s.memory_bits / 16
  in-memory-whole o y h = let place = sound.memory.inside h.1 _ (piece-named _ h.0 o h.2) in let low : 16 * y + 16 ≤ 2 ^ s.memory_bits =
      omega (arith, place.1, h.3, h.4) in omega (arith, low)

  pub in-memory : (o y : ℕ) → Holder o y → o / 16 < 2 ^ s.memory_bits / 16
  in-memory o y h = let place = sound.memory.inside h.1 _ (piece-named _ h.0 o h.2) in omega (arith, place.1, h.3, h.4)

-- ---- what a removal leaves of slots of objects

count-threads : (gone : ℕ → Bool) (o : Option Object) → slot_count (option_map (without_threads gone) o) ≡ slot_count o
count-threads gone None = refl
count-threads gone (Some (ThreadObject t)) = refl
count-threads gone (Some (EndpointObject e)) = refl
count-threads gone (Some (NotificationObject n)) = refl
count-threads gone (Some (CNodeObject radix)) = refl
count-threads gone (Some FrameObject) = refl
count-threads gone (Some PageTableObject) = refl
count-threads gone (Some RootTableObject) = refl

pub kept-count : (s : State) (set : SlotSet) (o : ℕ) → slot_count ((emptied s set).objects o) ≡ (if ends s set o then 0 else slot_count (s.objects o))
kept-count s set o = elim (ends s set o) as (λ b. slot_count (if b then None else option_map (without_threads (is_ending_thread s set)) (s.objects o))
    ≡ (if b then 0 else slot_count (s.objects o))) [
      | true ↦ refl
      | false ↦ count-threads (is_ending_thread s set) (s.objects o)
    ]

no-slot : (first slot : ℕ) → is_within first 0 slot ≡ true → ⊥
no-slot first slot is = let bounds = within-bounds first 0 slot is in omega (arith, bounds.0, bounds.1)

-- a slot of what is left was that object's, which has not ended
pub slot-left : (s : State) (set : SlotSet) (o y : ℕ) → is_slot_of (emptied s set) o y ≡ true → (ends s set o ≡ false) × (is_slot_of s o y ≡ true)
slot-left s set o y is =
    let kept : is_within (o / 16) (if ends s set o then 0 else slot_count (s.objects o)) y ≡ true =
    ap (λ (c : ℕ). is_within (o / 16) c y) (sym (kept-count s set o)) ∙ is in
    elim (ends s set o) as (λ b. ends s set o ≡ b → (b ≡ false) × (is_slot_of s o y ≡ true)) [
      | true ↦ λ gone. absurd (no-slot (o / 16) y (ap (λ b. is_within (o / 16) (if b then 0 else slot_count (s.objects o)) y) (sym gone) ∙ kept))
      | false ↦ λ stays. (refl, ap (λ b. is_within (o / 16) (if b then 0 else slot_count (s.objects o)) y) (sym stays) ∙ kept)
    ] refl

slot-stays : (s : State) (set : SlotSet) (o y : ℕ) → ends s set o ≡ false → is_slot_of s o y ≡ true → is_slot_of (emptied s set) o y ≡ true
slot-stays s set o y stays is = ap (λ (c : ℕ). is_within (o / 16) c y) (kept-count s set o ∙ ap (λ b. if b then 0 else slot_count (s.objects o)) stays) ∙ is

-- the object of a capability that passes
pub closing-object : (s : State) (set : SlotSet) (y : ℕ) (o : Option ℕ) → option_map_or (λ offset. ends s set offset && is_slot_of s offset y) o false ≡ true →
    (offset : ℕ) × (o ≡ Some offset) × (ends s set offset ≡ true) × (is_slot_of s offset y ≡ true)
closing-object s set y None is = absurd (let clash : false ≡ true = is in cc)
closing-object s set y (Some offset) is = let parts = both (ends s set offset) (is_slot_of s offset y) is in (offset, refl, parts.0, parts.1)

object-named : (o : ℕ) (found : Option ℕ) → option_map_or (λ named. named == o) found false ≡ true → found ≡ Some o
object-named o None is = absurd (let clash : false ≡ true = is in cc)
object-named o (Some n) is = elim (eqb_tells n o) [
  | inl here ↦ ap (λ m. Some m) here.1
  | inr other ↦
      absurd (let clash : false ≡ true = sym other.0 ∙ is in cc)
]

pub named-full : (o : ℕ) (c : Cap) → object_of c ≡ Some o → not (is_empty c) ≡ true
named-full o Empty is = absurd (let clash : None ≡ Some o = is in cc)
named-full o (Untyped _ _ _) is = refl
named-full o (Endpoint _ _ _) is = refl
named-full o (Notification _ _ _) is = refl
named-full o (CNode _ _ _) is = refl
named-full o (Frame _ _ _) is = refl
named-full o (PageTable _ _) is = refl
named-full o (Tcb _) is = refl
named-full o (RootTable _) is = refl
named-full o InterruptControl is = refl
named-full o (InterruptHandler _) is = refl

pub not-false : (b : Bool) → not b ≡ false → b ≡ true
not-false true is = refl
not-false false is = absurd (let clash : true ≡ false = is in cc)

not-twice : (b : Bool) → not (not b) ≡ b
not-twice true = refl
not-twice false = refl

either-none : (b : Bool) (o : Option Entry) → o ≡ None → (if b then None else o) ≡ None
either-none true o none = refl
either-none false o none = none

module _ (s : State) (sound : IsSound s) (set : SlotSet) (near : (y : ℕ) → IsFull s.slots y → y < 2 ^ s.memory_bits / 16) where
  in-boot : (y : ℕ) → y < boot_area_slots s.boot_radix → closes s set y ≡ false
  in-boot y early = found-none s.memory_bits _
      (λ z. elim (option_map_or (λ offset. ends s set offset && is_slot_of s offset y) (object_of (capability_at s.slots z)) false)
      as (λ b. option_map_or (λ offset. ends s set offset && is_slot_of s offset y) (object_of (capability_at s.slots z)) false ≡ b → (set z && b) ≡ false) [
        | true ↦ λ is.
            let which = closing-object s set y (object_of (capability_at s.slots z)) is in
            let late = behind-boot s sound which.0 y (holder s sound which.0 y which.3) in
            absurd (omega (arith, early, late))
        | false ↦ λ is. and-false (set z)
      ] refl)

  closes-ended : (o y : ℕ) → is_slot_of s o y ≡ true → ends s set o ≡ true → closes s set y ≡ true
  closes-ended o y inner ending =
      let inside = (both _ _ ending).0 in
      let z = found-where s.memory_bits _ inside in
      let parts = both (set z.0) _ z.1 in
      let object = object-named o (object_of (capability_at s.slots z.0)) parts.1 in
      found-at s.memory_bits z.0 (λ m. set m && option_map_or (λ offset. ends s set offset && is_slot_of s offset y) (object_of (capability_at s.slots m))
      false) (near z.0 (named-full o _ object))
      (join (set z.0) _ parts.0 (ap (λ q. option_map_or (λ offset. ends s set offset && is_slot_of s offset y) q false) object
      ∙ join (ends s set o) _ ending inner))

  not-closing : (o y : ℕ) → is_slot_of s o y ≡ true → ends s set o ≡ false → closes s set y ≡ false
  not-closing o y inner stays = found-none s.memory_bits _
      (λ z. elim (option_map_or (λ offset. ends s set offset && is_slot_of s offset y) (object_of (capability_at s.slots z)) false)
      as (λ b. option_map_or (λ offset. ends s set offset && is_slot_of s offset y) (object_of (capability_at s.slots z)) false ≡ b → (set z && b) ≡ false) [
        | true ↦ λ is.
            let which = closing-object s set y (object_of (capability_at s.slots z)) is in
            let one = one-holder s sound which.0 o y (holder s sound which.0 y which.3) (holder s sound o y inner) in
            absurd (let clash : true ≡ false = sym which.2 ∙ ap (ends s set) one ∙ stays in cc)
        | false ↦ λ is. and-false (set z)
      ] refl)

  has-none : (o y : ℕ) → is_slot_of s o y ≡ true → ends s set o ≡ true → has_slot (emptied s set) y ≡ false
  has-none o y inner ending =
      let h = holder s sound o y inner in
      let late : nat_lt y (boot_area_slots s.boot_radix) ≡ false =
      elim (leb_tells (suc y) (boot_area_slots s.boot_radix))
      [ inl low ↦ absurd (omega (arith, low.1, behind-boot s sound o y h)) | inr high ↦ high.0 ] in
      ap (λ b. b || list_any (λ n. is_slot_of (emptied s set) (16 * n) y) (slots_of s)) late
      ∙ found-none s.memory_bits _ (λ n. elim (is_slot_of (emptied s set) (16 * n) y) as (λ b. is_slot_of (emptied s set) (16 * n) y ≡ b → b ≡ false) [
        | true ↦ λ is.
            let left = slot-left s set (16 * n) y is in
            let one = one-holder s sound (16 * n) o y (holder s sound (16 * n) y left.1) h in
            absurd (let clash : false ≡ true = sym left.0 ∙ ap (ends s set) one ∙ ending in cc)
        | false ↦ λ is. refl
      ] refl)

  pub has-one : (o y : ℕ) → is_slot_of s o y ≡ true → ends s set o ≡ false → has_slot (emptied s set) y ≡ true
  has-one o y inner stays =
      let h = holder s sound o y inner in
      let whole : 16 * (o / 16) ≡ o = omega (arith, holder-aligned s sound o y h) in
      ap (λ b. nat_lt y (boot_area_slots s.boot_radix) || b)
      (found-at s.memory_bits (o / 16) (λ n. is_slot_of (emptied s set) (16 * n) y) (in-memory s sound o y h)
      (ap (λ (n : ℕ). is_slot_of (emptied s set) n y) whole ∙ slot-stays s set o y stays inner))
      ∙ or-true (nat_lt y (boot_area_slots s.boot_radix))

  pub closes-strays : (y : ℕ) → HasSlot s y → closes s set y ≡ not (has_slot (emptied s set) y)
  closes-strays y (of_boot_area early) =
      in-boot y early ∙ sym (ap (λ b. not (b || list_any (λ n. is_slot_of (emptied s set) (16 * n) y) (slots_of s)))
      (le-leb (suc y) (boot_area_slots s.boot_radix) early))
  closes-strays y (of_object o inner) = elim (ends s set o) as (λ b. ends s set o ≡ b → closes s set y ≡ not (has_slot (emptied s set) y)) [
    | true ↦ λ ending. closes-ended o y inner ending ∙ sym (ap not (has-none o y inner ending))
    | false ↦ λ stays. not-closing o y inner stays ∙ sym (ap not (has-one o y inner stays))
  ] refl

  -- ---- threads that waited at what ended

  object-left : (q : ℕ) (o : Object) → s.objects q ≡ Some o → is_some ((emptied s set).objects q) ≡ not (ends s set q)
  object-left q o is =
      ap (λ (p : Option Object). is_some (if ends s set q then None else option_map (without_threads (is_ending_thread s set)) p)) is
      ∙ elim (ends s set q) as (λ b. is_some (if b then None else option_map (without_threads (is_ending_thread s set)) (Some o)) ≡ not b)
      [ true ↦ refl | false ↦ refl ]

  -- a thread waits at something that is there
  queue-there : (t : ThreadState) (thread q : ℕ) → s.objects thread ≡ Some (ThreadObject t) → t.status ≡ Blocked q → (o : Object) × (s.objects q ≡ Some o)
  queue-there t thread q is waits =
      let stands : waits_at s thread q ≡ true =
      ap (λ (p : Option Object). option_map_or (λ u. is_blocked_on q u.status) (as_thread p) false) is ∙ ap (is_blocked_on q) waits ∙ eq-eqb q q refl
      in
      let once : times_in (waiting_at (s.objects q)) thread ≡ 1 = sound.threads.queued thread q ∙ ap (λ b. if b then 1 else 0) stands in
      elim (s.objects q) as (λ p. s.objects q ≡ p → (o : Object) × (p ≡ Some o)) [
        | None ↦ λ none. absurd (omega (arith, once, ap (λ (p : Option Object). times_in (waiting_at p) thread) none))
        | Some o ↦ λ some. (o, refl)
      ] refl

  status-stranded : (t : ThreadState) (thread : ℕ) → s.objects thread ≡ Some (ThreadObject t) → (status : Status) → t.status ≡ status →
      waits_on_ended s set status ≡ waits_nowhere (emptied s set) status
  status-stranded t thread is (Blocked q) waits =
      let there = queue-there t thread q is waits in
      sym (ap not (object-left q there.0 there.1) ∙ not-twice (ends s set q))
  status-stranded t thread is Inactive waits = refl
  status-stranded t thread is Runnable waits = refl
  status-stranded t thread is AwaitsReply waits = refl
  status-stranded t thread is AwaitsHandler waits = refl

  stranded-thread : (t : ThreadState) (thread : ℕ) → s.objects thread ≡ Some (ThreadObject t) → (ending : Bool) → ends s set thread ≡ ending
      → (waits_on_ended s set t.status && not ending) ≡ option_map_or (λ u. waits_nowhere (emptied s set) u.status)
      (as_thread (if ending then None else option_map (without_threads (is_ending_thread s set)) (Some (ThreadObject t)))) false
  stranded-thread t thread is true ends_is = and-false (waits_on_ended s set t.status)
  stranded-thread t thread is false ends_is = and-true (waits_on_ended s set t.status) ∙ status-stranded t thread is t.status refl

  stranded-object : (thread : ℕ) (o : Option Object) → s.objects thread ≡ o
      → option_map_or (λ t. waits_on_ended s set t.status && not (ends s set thread)) (as_thread o) false ≡ option_map_or
      (λ u. waits_nowhere (emptied s set) u.status)
      (as_thread (if ends s set thread then None else option_map (without_threads (is_ending_thread s set)) o)) false
  stranded-object thread (Some (ThreadObject t)) is = stranded-thread t thread is (ends s set thread) refl
  stranded-object thread None is = elim (ends s set thread)
      as (λ b. false ≡ option_map_or (λ u. waits_nowhere (emptied s set) u.status) (as_thread (if b then None else None)) false) [ true ↦ refl | false ↦ refl ]
  stranded-object thread (Some (EndpointObject e)) is = elim (ends s set thread)
      as (λ b. false ≡ option_map_or (λ u. waits_nowhere (emptied s set) u.status)
      (as_thread (if b then None else option_map (without_threads (is_ending_thread s set)) (Some (EndpointObject e)))) false) [ true ↦ refl | false ↦ refl ]
  stranded-object thread (Some (NotificationObject n)) is = elim (ends s set thread)
      as (λ b. false ≡ option_map_or (λ u. waits_nowhere (emptied s set) u.status)
      (as_thread (if b then None else option_map (without_threads (is_ending_thread s set)) (Some (NotificationObject n)))) false)
      [ true ↦ refl | false ↦ refl ]
  stranded-object thread (Some (CNodeObject radix)) is = elim (ends s set thread)
      as (λ b. false ≡ option_map_or (λ u. waits_nowhere (emptied s set) u.status) (as_thread (if b then None else Some (CNodeObject radix))) false)
      [ true ↦ refl | false ↦ refl ]
  stranded-object thread (Some FrameObject) is = elim (ends s set thread)
      as (λ b. false ≡ option_map_or (λ u. waits_nowhere (emptied s set) u.status) (as_thread (if b then None else Some FrameObject)) false)
      [ true ↦ refl | false ↦ refl ]
  stranded-object thread (Some PageTableObject) is = elim (ends s set thread)
      as (λ b. false ≡ option_map_or (λ u. waits_nowhere (emptied s set) u.status) (as_thread (if b then None else Some PageTableObject)) false)
      [ true ↦ refl | false ↦ refl ]
  stranded-object thread (Some RootTableObject) is = elim (ends s set thread)
      as (λ b. false ≡ option_map_or (λ u. waits_nowhere (emptied s set) u.status) (as_thread (if b then None else Some RootTableObject)) false)
      [ true ↦ refl | false ↦ refl ]

  set-back-stranded : (thread : ℕ) → is_set_back s set thread ≡ is_stranded (emptied s set) thread
  set-back-stranded thread = stranded-object thread (s.objects thread) refl

  -- ---- the whole

  pub slots-settled : ((y : ℕ) → set y ≡ true → IsOpen s.slots y) → (y : ℕ) →
      (if closes s set y then None else (emptied s set).slots y) ≡ (if not (has_slot (emptied s set) y) then None else (emptied s set).slots y)
  slots-settled opens y = elim (s.slots y) as (λ o. s.slots y ≡ o →
      (if closes s set y then None else (emptied s set).slots y) ≡ (if not (has_slot (emptied s set) y) then None else (emptied s set).slots y)) [
        | None ↦ λ none.
            let out : set y ≡ false = elim (set y) as (λ b. set y ≡ b → b ≡ false)
            [ true ↦ λ member. absurd (let clash : true ≡ false = sym (opens y member) ∙ ap is_some none in cc) | false ↦ λ is. refl ] refl in
            let closed : (emptied s set).slots y ≡ None = there-out s set y out ∙ ap (option_map (kept_entry s set y)) none in
            either-none (closes s set y) ((emptied s set).slots y) closed
            ∙ sym (either-none (not (has_slot (emptied s set) y)) ((emptied s set).slots y) closed)
        | Some h ↦ λ some. ap (λ b. if b then None else (emptied s set).slots y) (closes-strays y ((sound.slots.there y).0 (ap is_some some)))
      ] refl

  pub settles : ((y : ℕ) → set y ≡ true → IsOpen s.slots y) → without_slots s set ≡ settled (emptied s set)
  settles opens =
      (λ i. fold wake (record (emptied s set) { slots = λ y. slots-settled opens y i }) (filter (is_set_back s set) (thread_places s)))
      ∙ (λ i. fold wake (without_strays (emptied s set)) (filter (λ t. set-back-stranded t i) (thread_places s)))
