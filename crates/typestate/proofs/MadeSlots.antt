-- New capabilities in empty slots of a thread's CNode are changes of its noted slots.
use Rattle.std.proofs.Common.{get_or, ℕ, zero, suc, ◌≡◌, ◌∙◌, ◌+◌, ◌-◌, ◌/◌, ◌^◌, ◌<◌, ◌≤◌, ◌&&◌, inl, inr, true, false, not, nat_lt, if◌then◌else◌, Option}
use Rattle.std.proofs.Common.{Some, None, option_and_then, List, ◌∷◌, map, refl, sym, ap, subst, arith}
use Rattle.std.specs.Option.{option_map_or}
use Rattle.std.specs.List.{range_with_len}
use Rattle.std.proofs.lemmas.Bool.{eq-eqb, ne_eqb}
use Rattle.std.proofs.lemmas.Bool.Decides.{eqb_tells, nat_tests}
use Rattle.std.proofs.lemmas.List.Folds.{list_any_none}
use Rattle.model.specs.declared.capabilities.Cap.TheVariants.{Empty, Untyped}
use Rattle.model.specs.declared.invocations.UntypedMemory.{UntypedMemory}
use Rattle.model.specs.declared.slot_entries.Entry.{Entry}
use Rattle.model.specs.Acceptance.CallRules.{may_make}
use Rattle.model.specs.Acceptance.NotedKernel.{boot_parent, key_of, noted_after, noted_of, noted_slots, slot_of_key}
use Rattle.model.specs.Acceptance.NotedStates.{NotedSlot, SlotKey, is_own, is_same_key, number_of, slot_at, with_noted}
use Rattle.model.specs.Acceptance.ThreadRules.{reached}
use Rattle.model.specs.Acceptance.WellFormed.{has_slot}
use Rattle.model.specs.Capabilities.Slots.{Slots, empty_entry, is_empty, is_within, recapped}
use Rattle.model.specs.Images.Image.{Image, Thread}
use Rattle.model.specs.Kernel.Removal.{slot_count}
use Rattle.model.specs.Kernel.Retype.{NewObject, NewObjects, first_capability, object, place_of_new, with_first_capabilities, with_new_slots}
use Rattle.model.specs.Kernel.State.{slot_of}
use Rattle.typestate.specs.declared.window.Window.{Window}
use Rattle.typestate.specs.Differences.{changed, left_by}
use Rattle.typestate.specs.Pools.{IsOwnWindow, pool_used, slot_made, slots_made}
use Rattle.typestate.specs.Spaces.{AreOwn, StandsApart}
use Rattle.typestate.proofs.HeldCaps.{recap-back}
use Rattle.typestate.proofs.MadeTypes.{first-full, no-slots}
use Rattle.typestate.proofs.NamedKeys.{own-named, same-own-key}
use Rattle.typestate.proofs.Puts.{put-own}
use Rattle.typestate.proofs.Rising.{RiseFrom, changes-rise}
use Rattle.typestate.proofs.SlotLists.{noted-at}
use Rattle.typestate.proofs.Standing.{after-at, after-is, back-of, found-own}

-- ---- a list of changes with keys of their own

module _ (f : ℕ → NotedSlot) where
  -- a key that is none of theirs
  pub changes-miss : (base : List NotedSlot) (key : SlotKey) (a n : ℕ) → ((i : ℕ) → a ≤ i → i < a + n → is_same_key (f i).key key ≡ false)
      → slot_at (changed base (map f (range_with_len a n))) key ≡ slot_at base key
  changes-miss base key a zero apart = refl
  changes-miss base key a (suc n) apart =
      changes-miss (with_noted base (f a)) key (a + 1) n (λ i from below. apart i (omega (arith, from)) (omega (arith, below)))
      ∙ noted-at base (f a) key
      ∙ ap (λ b. if b then left_by (f a) else slot_at base key) (apart a (omega arith) (omega arith))

  -- the key of one of them
  pub changes-hit : (base : List NotedSlot) (a n i : ℕ) → a ≤ i → i < a + n → is_empty (f i).capability ≡ false
      → ((j : ℕ) → i < j → j < a + n → is_same_key (f j).key (f i).key ≡ false)
      → slot_at (changed base (map f (range_with_len a n))) (f i).key ≡ Some (f i)
  changes-hit base a zero i from below full apart = absurd (omega (arith, from, below))
  changes-hit base a (suc n) i from below full apart = elim (eqb_tells a i) [
    | inl same ↦
        subst (λ k. slot_at (changed (with_noted base (f k)) (map f (range_with_len (a + 1) n))) (f i).key ≡ Some (f i)) (sym same.1)
        (changes-miss (with_noted base (f i)) (f i).key (a + 1) n (λ j lower upper. apart j (omega (arith, lower, same.1)) (omega (arith, upper)))
        ∙ noted-at base (f i) (f i).key
        ∙ ap (λ b. if b then left_by (f i) else slot_at base (f i).key) (eq-eqb (number_of (f i).key) (number_of (f i).key) refl)
        ∙ ap (λ b. if b then None else Some (f i)) full)
    | inr other ↦ changes-hit (with_noted base (f a)) (a + 1) n i (let apart-now = other.1 in omega (arith, from, apart-now)) (omega (arith, below)) full
        (λ j lower upper. apart j lower (omega (arith, upper)))
  ]

-- ---- slots one after another

nowhere : (first slot : ℕ) → is_within first 0 slot ≡ false
nowhere first slot = grind (arith, nat_tests)

within-from : (first count slot : ℕ) → is_within first count slot ≡ true → (first ≤ slot) × (slot - first < count)
within-from first count slot is = (grind (arith, nat_tests), grind (arith, nat_tests))

within-at : (first count i : ℕ) → i < count → is_within first count (first + i) ≡ true
within-at first count i less = grind (arith, nat_tests)

module _ (image : Image) (t : Thread) (stand : StandsApart image t) (slots : List NotedSlot) (are : AreOwn image t slots) (rises : RiseFrom 0 slots)
    (held : NotedSlot) (is : slot_at slots held.key ≡ Some held) (memory : UntypedMemory)
    (pool : held.capability ≡ Untyped memory.offset memory.bits memory.watermark) (mark : ℕ)
    (new : NewObject) (may : may_make (Some new) ≡ true) (w : Window) (own : IsOwnWindow image t w) (index count offset : ℕ)
    (fits : index + count ≤ 2 ^ w.radix) where
  abbrev cnodes : List ℕ
  cnodes = reached image t

  abbrev all : Slots
  all = noted_slots image t slots

  abbrev first : SlotKey
  first = record { cnode = w.cnode; index = index }

  abbrev made : ℕ → NotedSlot
  made i = slot_made first held.key new offset i

  abbrev objects : NewObjects
  objects = record { kind = new; first = offset; count = count }

  abbrev W : ℕ
  W = slot_of w.offset index

  abbrev P : ℕ
  P = slot_of_key image held.key

  abbrev used : Slots
  used = recapped all P (Untyped memory.offset memory.bits mark)

  abbrev after : Slots
  after = with_first_capabilities objects W P (with_new_slots objects used)

  abbrev base : List NotedSlot
  base = with_noted slots (pool_used held memory mark)

  abbrev listed : List NotedSlot
  listed = changed slots (pool_used held memory mark ∷ slots_made first held.key new offset count)

  -- ---- the keys

  held-own : is_own image cnodes held.key ≡ true
  held-own = (found-own image t slots held.key held are is).key

  made-own : (i : ℕ) → i < count → is_own image cnodes (made i).key ≡ true
  made-own i less =
      let small : nat_lt (index + i) (2 ^ w.radix) ≡ true =
      (let bound : index + i < 2 ^ w.radix = omega (arith, less, fits) in grind (arith, nat_tests, bound)) in
      ap (λ b. b && has_slot image w.cnode (index + i)) own.mine
      ∙ ap (λ (o : Option ℕ). option_map_or (λ radix. nat_lt (index + i) (2 ^ radix)) o false) own.is.size ∙ small

  made-place : (i : ℕ) → slot_of_key image (made i).key ≡ W + i
  made-place i =
      ap (λ n. n / 16 + (index + i)) (sym own.is.place) ∙ omega arith

  -- ---- no slot is opened

  none-new : (slot : ℕ) → with_new_slots objects used slot ≡ used slot
  none-new slot = ap (λ b. if b then Some empty_entry else used slot)
      (list_any_none (λ at. is_within (slot_of at 0) (slot_count (object new)) slot) (map (place_of_new objects) (range_with_len 0 count))
      (λ k d less. ap (λ n. is_within (slot_of (get_or (map (place_of_new objects) (range_with_len 0 count)) k d) 0) n slot) (no-slots new may)
      ∙ nowhere _ slot))

  -- ---- at each key

  pool-back : noted_after image t used ≡ base
  pool-back =
      recap-back image t stand slots are held (Untyped memory.offset memory.bits mark) rises is (sym (ap (boot_parent image t) pool)) refl

  same-noted : (a b : Slots) (key : SlotKey) → a (slot_of_key image key) ≡ b (slot_of_key image key) → noted_of image cnodes a key ≡ noted_of image cnodes b key
  same-noted a b key same =
      ap (λ (o : Option Entry). if not (is_empty (option_map_or (λ h. h.capability) o Empty)) then
      Some (let s : NotedSlot = record {
        key = key;
        capability = option_map_or (λ h. h.capability) o Empty;
        parent =
            option_and_then (key_of image cnodes) (option_map_or (λ h. h.parent) o None);
      } in s) else None) same

  other-key : (key : SlotKey) → is_own image cnodes key ≡ true → is_within W count (slot_of_key image key) ≡ false →
      noted_of image cnodes after key ≡ slot_at listed key
  other-key key mine out =
      let x = slot_of_key image key in
      same-noted after used key
      (ap (λ b. if b then Some (let e : Entry = record { capability = first_capability new (place_of_new objects (x - W)); parent = Some P } in e)
      else with_new_slots objects used x) out ∙ none-new x)
      ∙ sym (after-at image t stand used key mine) ∙ ap (λ l. slot_at l key) pool-back
      ∙ sym (changes-miss made base key 0 count (λ i _ below. ne_eqb (number_of (made i).key) (number_of key) (λ same.
      let less : i < count = omega (arith, below) in
      let one : (made i).key ≡ key = same-own-key image t stand (made i).key key (made-own i less) mine same in
      absurd (let clash : true ≡ false = sym (within-at W count i less) ∙ ap (is_within W count) (sym (made-place i) ∙ ap (slot_of_key image) one) ∙ out in
      cc))))

  made-key : (i : ℕ) → i < count → noted_of image cnodes after (made i).key ≡ slot_at listed (made i).key
  made-key i less =
      let held-entry : Entry = record { capability = (made i).capability; parent = Some P } in
      let x = slot_of_key image (made i).key in
      let here : after x ≡ Some held-entry =
      ap (λ b. if b then Some (let e : Entry = record { capability = first_capability new (place_of_new objects (x - W)); parent = Some P } in e) else
      with_new_slots objects used x)
      (ap (is_within W count) (made-place i) ∙ within-at W count i less)
      ∙ ap (λ n. Some (let e : Entry = record { capability = first_capability new (place_of_new objects n); parent = Some P } in e))
      (ap (λ y. y - W) (made-place i) ∙ omega arith) in
      back-of image t stand after (made i).key held-entry here
      ∙ ap (λ b. if not b then Some (let s : NotedSlot = record { key = (made i).key; capability = (made i).capability; parent = key_of image cnodes P } in s)
      else None) (first-full new (place_of_new objects i))
      ∙ ap (λ (p : Option SlotKey). Some (let s : NotedSlot = record { key = (made i).key; capability = (made i).capability; parent = p } in s))
      (own-named image t stand held.key held-own)
      ∙ sym (changes-hit made base 0 count i (omega arith) (omega (arith, less)) (first-full new (place_of_new objects i))
      (λ j lower upper. ne_eqb (number_of (made j).key) (number_of (made i).key) (λ same.
      absurd (omega (arith, same, lower)))))

  at-key : (key : SlotKey) → is_own image cnodes key ≡ true → noted_of image cnodes after key ≡ slot_at listed key
  at-key key mine = elim (is_within W count (slot_of_key image key))
      as (λ b. is_within W count (slot_of_key image key) ≡ b → noted_of image cnodes after key ≡ slot_at listed key) [
        | false ↦ λ out. other-key key mine out
        | true ↦ λ within.
            let parts = within-from W count (slot_of_key image key) within in
            let i = slot_of_key image key - W in
            let place : slot_of_key image (made i).key ≡ slot_of_key image key = (let from = parts.0 in made-place i ∙ omega (arith, from)) in
            let named : Some (made i).key ≡ Some key = sym (own-named image t stand (made i).key (made-own i parts.1)) ∙ ap (key_of image cnodes) place
            ∙ own-named image t stand key mine in
            let one : (made i).key ≡ key = cc in
            subst (λ (k : SlotKey). noted_of image cnodes after k ≡ slot_at listed k) one (made-key i parts.1)
      ] refl

  -- ---- the whole

  changes-own : (n a : ℕ) (l : List NotedSlot) → a + n ≤ count → ((key : SlotKey) (r : NotedSlot) → slot_at l key ≡ Some r → is_own image cnodes r.key ≡ true)
      → (key : SlotKey) (r : NotedSlot) → slot_at (changed l (map made (range_with_len a n))) key ≡ Some r → is_own image cnodes r.key ≡ true
  changes-own zero a l few mine key r found = mine key r found
  changes-own (suc n) a l few mine key r found =
      changes-own n (a + 1) (with_noted l (made a)) (omega (arith, few)) (put-own image t stand l (made a) mine (made-own a (omega (arith, few)))) key r found

  pub made-back : noted_after image t after ≡ listed
  made-back =
      after-is image t stand after listed (changes-rise slots (pool_used held memory mark ∷ slots_made first held.key new offset count) rises)
      (changes-own count 0 base (omega arith)
      (put-own image t stand slots (pool_used held memory mark) (λ key r found. (found-own image t slots key r are found).key) held-own))
      at-key
