-- What is left to settle, from one step of a removal to the next.
use Rattle.std.proofs.Common.{ℕ, suc, ◌≡◌, ◌≢◌, ◌∙◌, ◌==◌, ◌+◌, ◌*◌, ◌-◌, ◌/◌, ◌^◌, ◌<◌, ◌≤◌, ◌&&◌, ◌||◌, inl, inr, Bool, true, false, not, nat_le, nat_lt}
use Rattle.std.proofs.Common.{if◌then◌else◌, Option, Some, None, is_some, option_map, List, [], max, min, slice_index, refl, sym, ap, subst, arith}
use Rattle.std.specs.Option.{option_map_or}
use Rattle.std.specs.List.{list_any}
use Rattle.std.proofs.Math.Bool.{and-false, or-true}
use Rattle.std.proofs.Math.Pow.{pow_mono}
use Rattle.std.proofs.lemmas.Bool.{le-leb}
use Rattle.std.proofs.lemmas.Bool.Decides.{eqb_tells, leb_tells}
use Rattle.std.proofs.lemmas.List.{get_or-replicate}
use Rattle.cnode_ops.specs.Unsettled.{Covers, IsWithSlots, Lands, Notes, ObjectsLie, WaitersAreNoted, jumps, nothing, start_at, start_with, stays, with_waiting}
use Rattle.cnode_ops.proofs.Waiters.{waiters-after, waiters-first}
use Rattle.cnode_ops.specs.declared.settling.Unsettled.{Unsettled}
use Rattle.model.specs.Capabilities.CapabilityKinds.{names_object, object_of}
use Rattle.model.specs.Capabilities.Slots.{IsOpen, Slots, capability_at}
use Rattle.model.specs.Kernel.Removal.{SlotSet, emptied, ends, ends_filled, is_ending_thread, is_slot_of, slot_count, some_outside}
use Rattle.model.specs.Kernel.Scheduling.{without_threads}
use Rattle.model.specs.Kernel.Soundness.{HasSlot, IsSound, of_boot_area, of_object, waiting_at}
use Rattle.model.specs.Kernel.State.{State, Object, ThreadObject, EndpointObject, NotificationObject, CNodeObject, FrameObject, PageTableObject}
use Rattle.model.specs.Kernel.State.{RootTableObject, boot_area_slots, slots_of, with_slots}
use Rattle.model.specs.declared.capabilities.Cap.{Cap}
use Rattle.model.specs.declared.slot_entries.Entry.{Entry}
use Rattle.removal_laws.specs.Finishing.{MaySettle, has_slot, slots_from, without_strays}
use Rattle.removal_laws.specs.Steps.{ended, ends_thread, object_ended, slots_ended}
use Rattle.removal_laws.proofs.Laws.{IsPassed, both, bounds-within, found-at, found-none, found-where, holder, holder-aligned, in-memory, join, may-settle}
use Rattle.removal_laws.proofs.Laws.{open-near, or-cases, within-bounds}

-- ---- steps that end nothing

-- all of this is said of objects, and of the same slots throughout
lie-slots : (s : State) (now : Slots) → ObjectsLie s → ObjectsLie (with_slots s now)
lie-slots s now lie = record { few = lie.few; aligned = lie.aligned; inside = lie.inside; boot = lie.boot; apart = lie.apart }

pub notes-slots : (s t : State) (left : Unsettled) (now : Slots) → t ≡ with_slots s now → Notes s left t left
notes-slots s t left now is = subst (λ (u : State). Notes s left u left) (sym is) (record {
  lie = lie-slots s now;
  covered = λ slots covers. record {
    lie = lie-slots s now covers.lie;
    strays = covers.strays;
    reach = covers.reach;
    noted = covers.noted;
    starts = covers.starts;
    boot = covers.boot;
    inside = covers.inside;
    waiters = record { queued = covers.waiters.queued; awake = covers.waiters.awake };
  };
})

pub notes-same : (s t : State) (left : Unsettled) → t ≡ s → Notes s left t left
notes-same s t left is = subst (λ (u : State). Notes s left u left) (sym is) (record { lie = λ lie. lie; covered = λ slots covers. covers })

pub notes-then : (s t u : State) (one two three : Unsettled) → Notes s one t two → Notes t two u three → Notes s one u three
notes-then s t u one two three first second = record {
  lie = λ lie. second.lie (first.lie lie);
  covered = λ slots covers. second.covered slots (first.covered slots covers);
}

-- ---- an object ends

count-threads : (gone : ℕ → Bool) (o : Option Object) → slot_count (option_map (without_threads gone) o) ≡ slot_count o
count-threads gone None = refl
count-threads gone (Some (ThreadObject t)) = refl
count-threads gone (Some (EndpointObject e)) = refl
count-threads gone (Some (NotificationObject n)) = refl
count-threads gone (Some (CNodeObject radix)) = refl
count-threads gone (Some FrameObject) = refl
count-threads gone (Some PageTableObject) = refl
count-threads gone (Some RootTableObject) = refl

module _ (s : State) (offset : ℕ) (slots_now : Slots) where
  abbrev after : State
  after = with_slots (object_ended s offset) slots_now

  count-after : (other : ℕ) → slot_count (after.objects other) ≡ (if offset == other then 0 else slot_count (s.objects other))
  count-after other = elim (offset == other) as (λ b. slot_count (if b then None else option_map (without_threads (ends_thread s offset)) (s.objects other))
      ≡ (if b then 0 else slot_count (s.objects other))) [
        | true ↦ refl
        | false ↦ count-threads (ends_thread s offset) (s.objects other)
      ]

  -- who still has slots has as many as before, and is another
  left-over : (other : ℕ) → slot_count (after.objects other) ≢ 0 → (slot_count (after.objects other) ≡ slot_count (s.objects other)) × (offset ≢ other)
  left-over other some = elim (eqb_tells offset other) [
    | inl here ↦ absurd (some (count-after other ∙ ap (λ b. if b then 0 else slot_count (s.objects other)) here.0))
    | inr away ↦ (count-after other ∙ ap (λ b. if b then 0 else slot_count (s.objects other)) away.0, away.1)
  ]

  had : (other : ℕ) → slot_count (after.objects other) ≢ 0 → slot_count (s.objects other) ≢ 0
  had other some none = some ((left-over other some).0 ∙ none)

  at-most : (n : ℕ) → slots_from after n ≤ slots_from s n
  at-most n = elim (eqb_tells (slots_from after n) 0) [
    | inl none ↦ omega (arith, none.1)
    | inr some ↦ omega (arith, (left-over (16 * n) some.1).0)
  ]

  lie-after : ObjectsLie s → ObjectsLie after
  lie-after lie = record {
    few = lie.few;
    aligned = λ other some. lie.aligned other (had other some);
    inside = λ n some. omega (arith, lie.inside n (had (16 * n) some), at-most n);
    boot = λ n some. lie.boot n (had (16 * n) some);
    apart = λ n m less some_n some_m. omega (arith, lie.apart n m less (had (16 * n) some_n) (had (16 * m) some_m), at-most n);
  }

  -- a slot of an object that has not ended is still its own
  still-slot : (n slot : ℕ) → offset ≢ 16 * n → is_slot_of s (16 * n) slot ≡ true → is_slot_of after (16 * n) slot ≡ true
  still-slot n slot other is =
      let same : slot_count (after.objects (16 * n)) ≡ slot_count (s.objects (16 * n)) = elim (eqb_tells offset (16 * n)) [
        | inl here ↦ absurd (other here.1)
        | inr away ↦ count-after (16 * n) ∙ ap (λ b. if b then 0 else slot_count (s.objects (16 * n))) away.0
      ] in
      let bounds = within-bounds (16 * n / 16) (slots_from s n) slot is in
      bounds-within (16 * n / 16) (slots_from after n) slot bounds.0 (omega (arith, bounds.1, same))

  -- a slot loses its object only if that is the one which ended
  lost : ObjectsLie s → (slot : ℕ) → has_slot s slot ≡ true → has_slot after slot ≡ false → (n : ℕ) × (offset ≡ 16 * n) × (is_slot_of s (16 * n) slot ≡ true)
  lost lie slot had_one has_none =
      elim (or-cases (nat_lt slot (boot_area_slots s.boot_radix)) (list_any (λ n. is_slot_of s (16 * n) slot) (slots_of s)) had_one) [
        | inl early ↦ absurd (let clash : true ≡ false = sym (ap (λ b. b || list_any (λ n. is_slot_of after (16 * n) slot) (slots_of s)) early) ∙ has_none in
            cc)
        | inr inner ↦
            let owner = found-where s.memory_bits (λ n. is_slot_of s (16 * n) slot) inner in
            elim (eqb_tells offset (16 * owner.0)) [
              | inl here ↦ (owner.0, here.1, owner.1)
              | inr away ↦ absurd (let clash : true ≡ false = sym (still-there owner.0 away.1 owner.1) ∙ has_none in cc)
            ]
      ]
    where
      still-there : (n : ℕ) → offset ≢ 16 * n → is_slot_of s (16 * n) slot ≡ true → has_slot after slot ≡ true
      still-there n other is =
          let bounds = within-bounds (16 * n / 16) (slots_from s n) slot is in
          let place = lie.inside n (λ none. absurd (omega (arith, bounds.0, bounds.1, none))) in
          ap (λ b. nat_lt slot (boot_area_slots s.boot_radix) || b)
          (found-at s.memory_bits n (λ m. is_slot_of after (16 * m) slot) (omega (arith, place, bounds.0, bounds.1)) (still-slot n slot other is))
          ∙ or-true (nat_lt slot (boot_area_slots s.boot_radix))

  -- an object without slots leaves all as it was
  has-still : ObjectsLie s → slot_count (s.objects offset) ≡ 0 → (slot : ℕ) → has_slot after slot ≡ false → has_slot s slot ≡ false
  has-still lie none slot is = elim (has_slot s slot) as (λ b. has_slot s slot ≡ b → b ≡ false) [
    | true ↦ λ had_one.
        let owner = lost lie slot had_one is in
        let bounds = within-bounds (16 * owner.0 / 16) (slots_from s owner.0) slot owner.2 in
        absurd (omega (arith, bounds.0, bounds.1, none, ap (λ (o : ℕ). slot_count (s.objects o)) owner.1))
    | false ↦ λ _. refl
  ] refl

  covers-none : (slots : Slots) (left : Unsettled) (waits : Bool) → (waits ≡ false → waiting_at (s.objects offset) ≡ []) → slot_count (s.objects offset) ≡ 0 →
      Covers slots s left
      → Covers slots after (with_waiting left waits)
  covers-none slots left waits nobody_waits none covers = record {
    lie = lie-after covers.lie;
    strays = λ slot opens is. covers.strays slot opens (has-still covers.lie none slot is);
    reach = λ n less. omega (arith, covers.reach n less, at-most n);
    noted = λ slot opens is. covers.noted slot opens (has-still covers.lie none slot is);
    starts = λ block n few early less. omega (arith, covers.starts block n few early less, at-most n);
    boot = covers.boot;
    inside = covers.inside;
    waiters = waiters-after s offset slots_now left.waited waits nobody_waits covers.waiters;
  }

  -- a block that has one of the slots of an object starts there at the latest, and no block starts later than before
  touched : (first last block : ℕ) → first / 16384 ≤ block → block ≤ last / 16384 → (nat_le (first / 16384) block && nat_lt block (last / 16384 + 1)) ≡ true
  touched first last block low high = join (nat_le (first / 16384) block) _ (le-leb (first / 16384) block low)
      (le-leb (suc block) (last / 16384 + 1) (omega (arith, high)))

  earlier : (start first last block : ℕ) → start_with start first last block ≤ start
  earlier start first last block = elim (nat_le (first / 16384) block && nat_lt block (last / 16384 + 1))
      as (λ b. (if b then min start (max first (16384 * block)) else start) ≤ start) [ true ↦ omega arith | false ↦ omega arith ]

  -- and one with slots leaves these as strays
  module _ (slots : Slots) (left new : Unsettled) (first count : ℕ) (place : offset ≡ 16 * first) (is : slots_from s first ≡ count) (some : count ≢ 0)
      (more : IsWithSlots left first count new)
      (covers : Covers slots s left) where
    abbrev last : ℕ
    last = first + (count - 1)

    there : slots_from s first ≢ 0
    there none = some (sym is ∙ none)

    -- a slot that loses its object is one of these
    own-slot : (slot : ℕ) → has_slot s slot ≡ true → has_slot after slot ≡ false → (first ≤ slot) × (slot < first + count)
    own-slot slot had_one has_none =
        let owner = lost covers.lie slot had_one has_none in
        let bounds = within-bounds (16 * owner.0 / 16) (slots_from s owner.0) slot owner.2 in
        let same : owner.0 ≡ first = omega (arith, owner.1, place) in
        (omega (arith, bounds.0, same), omega (arith, bounds.1, same, is, ap (slots_from s) same))

    noted-more : (slot : ℕ) → IsOpen slots slot → has_slot after slot ≡ false → start_at new.starts slot ≤ slot
    noted-more slot opens has_none = elim (has_slot s slot) as (λ b. has_slot s slot ≡ b → start_at new.starts slot ≤ slot) [
      | true ↦ λ had_one.
          let own = own-slot slot had_one has_none in
          let here = more.starts_are (slot / 16384) in
          let touches = touched first last (slot / 16384) (omega (arith, own.0)) (omega (arith, own.1, some)) in
          omega (
            arith,
            here,
            ap (λ b. if b then min (slice_index left.starts (slot / 16384)) (max first (16384 * (slot / 16384))) else
                slice_index left.starts (slot / 16384)) touches,
            own.0,
          )
      | false ↦ λ none. omega (
        arith,
        covers.noted slot opens none,
        more.starts_are (slot / 16384),
        earlier (slice_index left.starts (slot / 16384)) first last (slot / 16384),
      )
    ] refl

    -- no object that is left reaches over a slot of these, or over the first of a block
    apart-from : (n start : ℕ) → n < start → first ≤ start → start ≤ last → n + slots_from after n ≤ start
    apart-from n start less low high = elim (eqb_tells (slots_from after n) 0) [
      | inl none ↦ omega (arith, none.1, less)
      | inr living ↦ elim (leb_tells (suc n) first) [
        | inl before ↦ omega (arith, covers.lie.apart n first before.1 (had (16 * n) living.1) there, at-most n, low)
        | inr behind ↦ elim (eqb_tells n first) [
          | inl here ↦ absurd ((left-over (16 * n) living.1).1 (omega (arith, place, here.1)))
          | inr other ↦ absurd (omega (arith, covers.lie.apart first n (omega (arith, behind.1, other.1)) there (had (16 * n) living.1), is, less, high, some))
        ]
      ]
    ]

    starts-more : (block n : ℕ) → block < 64 → slice_index new.starts block < 16384 * block + 16384 → n < slice_index new.starts block →
        n + slots_from after n ≤ slice_index new.starts block
    starts-more block n few early less =
        let was : ℕ = slice_index left.starts block in
        let here = more.starts_are block in
        elim (nat_le (first / 16384) block && nat_lt block (last / 16384 + 1)) as
        (λ b. (nat_le (first / 16384) block && nat_lt block (last / 16384 + 1)) ≡ b → n + slots_from after n ≤ slice_index new.starts block) [
          | false ↦ λ out.
              let same : slice_index new.starts block ≡ was = here ∙ ap (λ b. if b then min was (max first (16384 * block)) else was) out in
              omega (arith, covers.starts block n few (omega (arith, early, same)) (omega (arith, less, same)), at-most n, same)
          | true ↦ λ touches.
              let same : slice_index new.starts block ≡ min was (max first (16384 * block)) = here
              ∙ ap (λ b. if b then min was (max first (16384 * block)) else was) touches in
              let parts = both (nat_le (first / 16384) block) _ touches in
              let high : block ≤ last / 16384 = elim (leb_tells (suc block) (last / 16384 + 1)) [
                | inl low ↦ omega (arith, low.1)
                | inr late ↦ absurd (let clash : false ≡ true = sym late.0 ∙ parts.1 in cc)
              ] in
              elim (leb_tells was (max first (16384 * block))) [
                | inl old ↦ omega (
                  arith,
                  covers.starts block n few (omega (arith, early, same, old.1)) (omega (arith, less, same, old.1)),
                  at-most n,
                  same,
                  old.1,
                )
                | inr own ↦ omega (
                  arith,
                  apart-from n (max first (16384 * block)) (omega (arith, less, same, own.1)) (omega arith) (omega (arith, high)),
                  same,
                  own.1,
                )
              ]
        ] refl

  covers-more : (slots : Slots) (left new : Unsettled) (waits : Bool) (first count : ℕ) → (waits ≡ false → waiting_at (s.objects offset) ≡ []) →
      offset ≡ 16 * first → slots_from s first ≡ count
      → count ≢ 0 → IsWithSlots left first count new → Covers slots s left → Covers slots after (with_waiting new waits)
  covers-more slots left new waits first count nobody_waits place is some more covers = record {
    lie = lie-after covers.lie;
    strays = λ slot opens has_none. elim (has_slot s slot) as (λ b. has_slot s slot ≡ b → (new.first ≤ slot) × (slot < new.end)) [
      | true ↦ λ had_one.
          let own = own-slot slots left new first count place is some more covers slot had_one has_none in
          (omega (arith, own.0, more.first_is), omega (arith, own.1, more.end_is))
      | false ↦ λ none. let within = covers.strays slot opens none in (omega (arith, within.0, more.first_is), omega (arith, within.1, more.end_is))
    ] refl;
    reach = λ n less. elim (eqb_tells (slots_from after n) 0) [
      | inl none ↦ omega (arith, none.1, less)
      | inr living ↦
          let apart = covers.lie.apart n first (omega (arith, less, more.first_is)) (had (16 * n) living.1)
          (there slots left new first count place is some more covers) in
          let before = covers.reach n (omega (arith, less, more.first_is)) in
          omega (arith, apart, before, at-most n, more.first_is)
    ];
    noted = noted-more slots left new first count place is some more covers;
    starts = starts-more slots left new first count place is some more covers;
    boot = omega (arith, covers.boot, covers.lie.boot first (there slots left new first count place is some more covers), more.first_is);
    inside = omega (arith, covers.inside, covers.lie.inside first (there slots left new first count place is some more covers), is, more.end_is);
    waiters = subst (λ b. WaitersAreNoted after (b || waits)) (sym more.waited_is)
        (waiters-after s offset slots_now left.waited waits nobody_waits covers.waiters);
  }

-- where an object starts that has slots
place-of : (s : State) (offset count : ℕ) → ObjectsLie s → slot_count (s.objects offset) ≡ count → count ≢ 0 → offset ≡ 16 * (offset / 16)
place-of s offset count lie is some = omega (arith, lie.aligned offset (λ none. some (sym is ∙ none)))

-- the slots that are noted lie in memory
pub noted-fits : (s : State) (offset count : ℕ) → ObjectsLie s → slot_count (s.objects offset) ≡ count → count ≢ 0 → offset / 16 + count ≤ 2 ^ 20
noted-fits s offset count lie is some =
    let place = place-of s offset count lie is some in
    let same : slots_from s (offset / 16) ≡ count = ap (λ (o : ℕ). slot_count (s.objects o)) (sym place) ∙ is in
    let fits = lie.inside (offset / 16) (λ none. some (sym same ∙ none)) in
    let size : 2 ^ s.memory_bits ≤ 2 ^ 24 = pow_mono lie.few in
    omega (arith, fits, same, size)

notes-after : (s : State) (offset count : ℕ) (waits : Bool) (slots_now : Slots) (left new : Unsettled) → slot_count (s.objects offset) ≡ count →
    (waits ≡ false → waiting_at (s.objects offset) ≡ [])
    → (count ≡ 0 → new ≡ left) → (count ≢ 0 → IsWithSlots left (offset / 16) count new)
    → Notes s left (with_slots (object_ended s offset) slots_now) (with_waiting new waits)
notes-after s offset count waits slots_now left new is nobody_waits unnoted noted = record {
  lie = lie-after s offset slots_now;
  covered = λ slots covers. elim (eqb_tells count 0) [
    | inl none ↦
        subst (λ (l : Unsettled). Covers slots (with_slots (object_ended s offset) slots_now) (with_waiting l waits)) (sym (unnoted none.1))
        (covers-none s offset slots_now slots left waits nobody_waits (is ∙ none.1) covers)
    | inr some ↦
        let place = place-of s offset count covers.lie is some.1 in
        covers-more s offset slots_now slots left new waits (offset / 16) count nobody_waits place (ap (λ (o : ℕ). slot_count (s.objects o)) (sym place) ∙ is)
        some.1 (noted some.1) covers
  ];
}

-- what `end` leaves
pub notes-ended : (s t : State) (removed : Cap) (offset count : ℕ) (waits : Bool) (left new last : Unsettled) → object_of removed ≡ Some offset →
    count ≡ slot_count (s.objects offset)
    → (waits ≡ false → waiting_at (s.objects offset) ≡ []) → t ≡ ended s removed → (count ≡ 0 → new ≡ left) →
    (count ≢ 0 → IsWithSlots left (offset / 16) count new)
    → last ≡ with_waiting new waits → Notes s left t last
notes-ended s t removed offset count waits left new last object is nobody_waits ends unnoted noted last_is =
    let whole : t ≡ with_slots (object_ended s offset) (slots_ended removed s.slots) =
    ends ∙ ap (λ (o : Option ℕ). option_map_or (λ other. with_slots (object_ended s other) (slots_ended removed s.slots)) o s) object
    in
    subst (λ (u : State). Notes s left u last) (sym whole)
    (subst (λ (l : Unsettled). Notes s left (with_slots (object_ended s offset) (slots_ended removed s.slots)) l) (sym last_is)
    (notes-after s offset count waits (slots_ended removed s.slots) left new (sym is) nobody_waits unnoted noted))

-- ---- at the start

module _ (s : State) (sound : IsSound s) where
  first-slot : (o : ℕ) → slot_count (s.objects o) ≢ 0 → is_slot_of s o (o / 16) ≡ true
  first-slot o some = bounds-within (o / 16) (slot_count (s.objects o)) (o / 16) (omega arith) (omega (arith, some))

  -- what is open belongs to something
  none-stray : (slot : ℕ) → HasSlot s slot → has_slot s slot ≡ true
  none-stray slot (of_boot_area early) = ap (λ b. b || list_any (λ n. is_slot_of s (16 * n) slot) (slots_of s))
      (le-leb (suc slot) (boot_area_slots s.boot_radix) early)
  none-stray slot (of_object o inner) =
      let h = holder s sound o slot inner in
      let whole : 16 * (o / 16) ≡ o = omega (arith, holder-aligned s sound o slot h) in
      ap (λ b. nat_lt slot (boot_area_slots s.boot_radix) || b)
      (found-at s.memory_bits (o / 16) (λ n. is_slot_of s (16 * n) slot) (in-memory s sound o slot h) (ap (λ (n : ℕ). is_slot_of s n slot) whole ∙ inner))
      ∙ or-true (nat_lt slot (boot_area_slots s.boot_radix))

  -- nothing that is removed leaves the slots that objects have
  abbrev nobody : SlotSet
  nobody _ = false

  ends-none : (o : ℕ) → ends s nobody o ≡ false
  ends-none o = ap (λ b. b && not (some_outside s nobody (names_object o)))
      (found-none s.memory_bits (λ slot. nobody slot && names_object o (capability_at s.slots slot)) (λ slot. refl))

  count-none : (o : ℕ) → slot_count ((emptied s nobody).objects o) ≡ slot_count (s.objects o)
  count-none o =
      ap (λ b. slot_count (if b then None else option_map (without_threads (is_ending_thread s nobody)) (s.objects o))) (ends-none o)
      ∙ count-threads (is_ending_thread s nobody) (s.objects o)

  may : MaySettle (emptied s nobody)
  may = may-settle s sound nobody (λ y is. absurd (let clash : false ≡ true = is in cc))
      (found-none s.memory_bits (λ slot. nobody slot && option_map_or (ends_filled s nobody) (object_of (capability_at s.slots slot)) false) (λ slot. refl))

  has : (n : ℕ) → slots_from s n ≢ 0 → slots_from (emptied s nobody) n ≢ 0
  has n some zero_is = some (sym (count-none (16 * n)) ∙ zero_is)

  pub sound-lie : ObjectsLie s
  sound-lie = record {
    few = sound.shape.most_bits;
    aligned = λ o some. holder-aligned s sound o (o / 16) (holder s sound o (o / 16) (first-slot o some));
    inside = λ n some. omega (arith, may.inside n (has n some), count-none (16 * n));
    boot = λ n some. may.boot n (has n some);
    apart = λ n m less some_n some_m. omega (arith, may.apart n m less (has n some_n) (has m some_m), count-none (16 * n));
  }

  pub covers-first : (slots : Slots) (count : ℕ) → s.slots ≡ slots → count ≡ 2 ^ s.memory_bits / 16 → Covers slots s (nothing count)
  covers-first slots count same is = record {
    lie = sound-lie;
    strays = λ slot opens none.
        absurd (let clash : true ≡ false = sym (none-stray slot ((sound.slots.there slot).0 (subst (λ (n : Slots). IsOpen n slot) (sym same) opens))) ∙ none in
        cc);
    reach = λ n less. elim (eqb_tells (slots_from s n) 0) [
      | inl none ↦ omega (arith, none.1, less)
      | inr some ↦ omega (arith, sound-lie.inside n some.1, is)
    ];
    noted = λ slot opens none.
        absurd (let clash : true ≡ false = sym (none-stray slot ((sound.slots.there slot).0 (subst (λ (n : Slots). IsOpen n slot) (sym same) opens))) ∙ none in
        cc);
    starts = λ block n few early less. absurd (omega (arith, early, few, get_or-replicate {A = ℕ} 64 block 1048576 0 few));
    boot =
        let last = open-near s sound (boot_area_slots s.boot_radix - 1)
        ((sound.slots.there (boot_area_slots s.boot_radix - 1)).1 (of_boot_area (omega arith))) in
        omega (arith, last, is);
    inside = omega arith;
    waiters = waiters-first s sound;
  }

-- ---- at the end

module _ (s : State) (left : Unsettled) (covers : Covers s.slots s left) where
  lt-false : (a b : ℕ) → b ≤ a → nat_lt a b ≡ false
  lt-false a b le = elim (leb_tells (suc a) b) [ inl low ↦ absurd (omega (arith, low.1, le)) | inr high ↦ high.0 ]

  closed-anyway : (b : Bool) (o : Option Entry) → o ≡ None → (if b then None else o) ≡ None
  closed-anyway true o nothing_is = refl
  closed-anyway false o nothing_is = nothing_is

  -- before the first nothing is to be closed
  pub passed-covered : MaySettle s → IsPassed s s left.first
  passed-covered may = record {
    may = may;
    state = λ i. record s { slots = λ y. each y i };
    behind = covers.reach;
    boot = covers.boot;
  }
    where
      each : (y : ℕ) → s.slots y ≡ (if nat_lt y left.first && not (has_slot s y) then None else s.slots y)
      each y = elim (leb_tells (suc y) left.first) [
        | inr high ↦ sym (ap (λ b. if b && not (has_slot s y) then None else s.slots y) high.0)
        | inl low ↦ elim (has_slot s y) as (λ h. has_slot s y ≡ h → s.slots y ≡ (if nat_lt y left.first && not h then None else s.slots y)) [
          | true ↦ λ has. sym (ap (λ b. if b then None else s.slots y) (and-false (nat_lt y left.first)))
          | false ↦ λ none. elim (s.slots y) as (λ o. s.slots y ≡ o → o ≡ (if nat_lt y left.first && true then None else o)) [
            | None ↦ λ nothing_there. sym (closed-anyway (nat_lt y left.first && true) None refl)
            | Some h ↦ λ some. absurd (omega (arith, low.1, (covers.strays y (ap is_some some) none).0))
          ] refl
        ] refl
      ]

  -- and nothing from the end on
  pub passed-end : (w : State) (at : ℕ) → IsPassed s w at → left.end ≤ at → w ≡ without_strays s
  passed-end w at passed late = passed.state ∙ (λ i. record s { slots = λ y. rest y i })
    where
      rest : (y : ℕ) → (if nat_lt y at && not (has_slot s y) then None else s.slots y) ≡ (if not (has_slot s y) then None else s.slots y)
      rest y = elim (leb_tells (suc y) at) [
        | inl low ↦ ap (λ b. if b && not (has_slot s y) then None else s.slots y) low.0
        | inr high ↦ ap (λ b. if b && not (has_slot s y) then None else s.slots y) high.0
            ∙ elim (has_slot s y) as (λ h. has_slot s y ≡ h → s.slots y ≡ (if not h then None else s.slots y)) [
              | true ↦ λ has. refl
              | false ↦ λ none. elim (s.slots y) as (λ o. s.slots y ≡ o → o ≡ None) [
                | None ↦ λ nothing_there. refl
                | Some h ↦ λ some. absurd (omega (arith, high.1, late, (covers.strays y (ap is_some some) none).1))
              ] refl
            ] refl
      ]

  -- blocks are passed by that have nothing to be closed before the start of the next one
  pub passed-lands : (w : State) (at next : ℕ) → IsPassed s w at → Lands left.starts at next → IsPassed s w next
  passed-lands w at next passed stays = passed
  passed-lands w at next passed (jumps block start few is early least none) = record {
    may = passed.may;
    state = passed.state ∙ (λ i. record s { slots = λ y. rest y i });
    behind = λ n less. omega (arith, covers.starts block n few (omega (arith, early, is)) (omega (arith, less, is)), is);
    boot = omega (arith, passed.boot, least);
  }
    where
      unstray : (y : ℕ) → at ≤ y → y < start → (if not (has_slot s y) then None else s.slots y) ≡ s.slots y
      unstray y low high = elim (has_slot s y) as (λ h. has_slot s y ≡ h → (if not h then None else s.slots y) ≡ s.slots y) [
        | true ↦ λ has. refl
        | false ↦ λ has. elim (s.slots y) as (λ o. s.slots y ≡ o → None ≡ o) [
          | None ↦ λ nothing_there. refl
          | Some h ↦ λ held. absurd (omega (arith, covers.noted y (ap is_some held) has, none y low high))
        ] refl
      ] refl

      rest : (y : ℕ) → (if nat_lt y at && not (has_slot s y) then None else s.slots y) ≡ (if nat_lt y start && not (has_slot s y) then None else s.slots y)
      rest y = elim (leb_tells (suc y) at) [
        | inl low ↦ ap (λ b. if b && not (has_slot s y) then None else s.slots y) (low.0 ∙ sym (le-leb (suc y) start (omega (arith, low.1, least))))
        | inr high ↦ elim (leb_tells (suc y) start) [
          | inr above ↦ ap (λ b. if b && not (has_slot s y) then None else s.slots y) (high.0 ∙ sym above.0)
          | inl inner ↦
              ap (λ b. if b && not (has_slot s y) then None else s.slots y) high.0
              ∙ sym (ap (λ b. if b && not (has_slot s y) then None else s.slots y) inner.0 ∙ unstray y (omega (arith, high.1)) inner.1)
        ]
      ]

  -- a step stays in memory
  pub passed-near : (at : ℕ) → at < left.end → (16 * (at + 1) ≤ 2 ^ s.memory_bits) × (at < 2 ^ 20)
  passed-near at early =
      let size : 2 ^ s.memory_bits ≤ 2 ^ 24 = pow_mono covers.lie.few in
      let here : at < 2 ^ s.memory_bits / 16 = omega (arith, early, covers.inside) in
      (omega (arith, here), omega (arith, here, size))

  pub passed-fits : (at own : ℕ) → own ≡ slots_from s at → at < left.end → at + max own 1 < 2 ^ 32
  passed-fits at own is early =
      let size : 2 ^ s.memory_bits ≤ 2 ^ 24 = pow_mono covers.lie.few in
      let here = passed-near at early in
      elim (eqb_tells own 0) [
        | inl none ↦ omega (arith, none.1, here.1)
        | inr some ↦ omega (arith, covers.lie.inside at (λ zero_is. some.1 (is ∙ zero_is)), is, size)
      ]

pub lands-least : (starts : List ℕ) (at next : ℕ) → Lands starts at next → at ≤ next
lands-least starts at next stays = omega arith
lands-least starts at next (jumps block start few is early least none) = least

-- the first block that has a start, from the one of a slot on
pub lands-next : (starts : List ℕ) (at block next : ℕ) → block < 64 → slice_index starts block < 16384 * block + 16384 →
    next ≡ max (slice_index starts block) at
    → ((slot : ℕ) → at ≤ slot → slot < 16384 * block → slot < start_at starts slot) → Lands starts at next
lands-next starts at block next few early is none = elim (leb_tells (slice_index starts block) at) [
  | inl low ↦ subst (λ (n : ℕ). Lands starts at n) (let same : at ≡ next = omega (arith, low.1, is) in same) stays
  | inr high ↦ subst (λ (n : ℕ). Lands starts at n) (let same : slice_index starts block ≡ next = omega (arith, high.1, is) in same)
      (jumps block (slice_index starts block) few refl early (omega (arith, high.1)) (λ slot low less. elim (leb_tells (suc slot) (16384 * block)) [
        | inl before ↦ none slot low before.1
        | inr here ↦
            let same : slot / 16384 ≡ block = omega (arith, here.1, less, early) in
            omega (arith, less, ap (slice_index starts) same)
      ]))
]

-- what is left covers the open slots that no step closed
pub covers-now : (s : State) (slots now : Slots) (left : Unsettled) → ((slot : ℕ) → IsOpen now slot → IsOpen slots slot) → Covers slots s left →
    Covers now s left
covers-now s slots now left opens covers = record {
  lie = covers.lie;
  strays = λ slot is. covers.strays slot (opens slot is);
  reach = covers.reach;
  noted = λ slot is. covers.noted slot (opens slot is);
  starts = covers.starts;
  boot = covers.boot;
  inside = covers.inside;
  waiters = covers.waiters;
}
