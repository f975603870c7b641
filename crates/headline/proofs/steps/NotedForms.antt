-- What notes are made of has its form: parents with indices of 32 bits.
use Rattle.std.proofs.Common.{ℕ, ◌≡◌, ◌∙◌, ◌==◌, ◌+◌, ◌-◌, ◌^◌, ◌≤◌, ◌&&◌, Bool, true, false, not, nat_le, nat_lt, if◌then◌else◌, find, filter, filter_map, map}
use Rattle.std.proofs.Common.{Option, Some, None, option_map, option_and_then, List, [], ◌∷◌, refl, sym, ap, arith}
use Rattle.std.specs.Option.{option_map_or}
use Rattle.std.specs.List.{cons_option, list_all}
use Rattle.std.proofs.Math.Pow.{pow_mono}
use Rattle.std.proofs.lemmas.Bool.{and_parts, lt-ltb, ltb-true}
use Rattle.format_laws.specs.Fitting.{IsFitting}
use Rattle.model.specs.declared.entries.CapabilityEntry.{CapabilityEntry}
use Rattle.model.specs.Acceptance.NotedKernel.{key_of, keys_of, noted_after, noted_of, slot_of_key, slots_of_cnode, stands_in}
use Rattle.model.specs.Acceptance.NotedStates.{NotedSlot, SlotKey, image_slots, listed_slot, number_of, put_in, with_noted, without_key}
use Rattle.model.specs.Acceptance.ThreadRules.{is_member, reached}
use Rattle.model.specs.Acceptance.WellFormed.{radix_of}
use Rattle.model.specs.Capabilities.Slots.{Slots, capability_at, is_empty, is_full, parent_at}
use Rattle.model.specs.Images.Image.{Image, Thread}
use Rattle.model.specs.Images.Places.{cnode_slot, type_at}
use Rattle.headline.specs.steps.Formed.{is_low}
use Rattle.headline.proofs.steps.SameSlots.{radix-small}

-- ---- slots

abbrev pub AreLow : List NotedSlot → Type 0
AreLow slots = list_all is_low slots ≡ true

filter-low : (keep : NotedSlot → Bool) (slots : List NotedSlot) → AreLow slots → AreLow (filter keep slots)
filter-low keep [] all = refl
filter-low keep (s ∷ rest) all =
    let parts = and_parts (is_low s) (list_all is_low rest) all in
    let behind = filter-low keep rest parts.1 in
    elim (keep s) as (λ b. list_all is_low (if b then s ∷ filter keep rest else filter keep rest) ≡ true) [
      | true ↦ ap (λ b. b && list_all is_low (filter keep rest)) parts.0 ∙ behind
      | false ↦ behind
    ]

put-low : (slot : NotedSlot) (others : List NotedSlot) → is_low slot ≡ true → AreLow others → AreLow (put_in slot others)
unfolding put_in
put-low slot [] one all = ap (λ b. b && true) one
put-low slot (o ∷ rest) one all =
    let parts = and_parts (is_low o) (list_all is_low rest) all in
    elim (nat_lt (number_of slot.key) (number_of o.key)) as (λ b. list_all is_low (if b then slot ∷ o ∷ rest else o ∷ put_in slot rest) ≡ true) [
      | true ↦ ap (λ b. b && list_all is_low (o ∷ rest)) one ∙ all
      | false ↦ ap (λ b. b && list_all is_low (put_in slot rest)) parts.0 ∙ put-low slot rest one parts.1
    ]

pub noted-low : (slots : List NotedSlot) (c : NotedSlot) → AreLow slots → is_low c ≡ true → AreLow (with_noted slots c)
noted-low slots c all low =
    let others = filter-low (λ s. not (number_of s.key == number_of c.key)) slots all in
    elim (is_empty c.capability) as (λ b. list_all is_low (if b then without_key c.key slots else put_in c (without_key c.key slots)) ≡ true) [
      | true ↦ others
      | false ↦ put-low c (without_key c.key slots) low others
    ]

listed-low : (image : Image) (capabilities : List CapabilityEntry) → AreLow (map (listed_slot image) capabilities)
listed-low image [] = refl
listed-low image (c ∷ rest) = listed-low image rest

pub image-low : (image : Image) (t : Thread) → AreLow (image_slots image t)
unfolding image_slots
image-low image t = listed-low image (filter (λ c. is_member c.cnode (reached image t)) image.capabilities)

-- ---- slots of the kernel, noted

pub find-passes : {A : Type 0} (test : A → Bool) (xs : List A) (x : A) → find test xs ≡ Some x → test x ≡ true
find-passes test [] x is = absurd (let clash : None ≡ Some x = is in cc)
find-passes test (y ∷ ys) x is = elim (test y) as (λ b. test y ≡ b → (if b then Some y else find test ys) ≡ Some x → test x ≡ true) [
  | true ↦ λ passes here. let same : y ≡ x = cc in ap test (sym same) ∙ passes
  | false ↦ λ _ later. find-passes test ys x later
] refl is

few-slots : (image : Image) → IsFitting image → (cnode : ℕ) → slots_of_cnode image cnode ≤ 2 ^ 14
few-slots image fitting cnode = elim (radix_of (type_at image cnode))
    as (λ o. radix_of (type_at image cnode) ≡ o → option_map_or (λ radix. 2 ^ radix) o 0 ≤ 2 ^ 14) [
      | None ↦ λ _. omega arith
      | Some radix ↦ λ is. let small : radix ≤ 14 = radix-small image fitting cnode radix is in pow_mono small
    ] refl

low-index : (first count slot : ℕ) → count ≤ 2 ^ 14 → (nat_le first slot && nat_lt slot (first + count)) ≡ true → nat_lt (slot - first) (2 ^ 32) ≡ true
low-index first count slot few inside =
    let ends = and_parts (nat_le first slot) (nat_lt slot (first + count)) inside in
    let less = ltb-true slot (first + count) ends.1 in
    lt-ltb (slot - first) (2 ^ 32) (omega (arith, few, less))

module _ (image : Image) (fitting : IsFitting image) (cnodes : List ℕ) (slots : Slots) where
  key-low : (slot : ℕ) → option_map_or (λ (key : SlotKey). nat_lt key.index (2 ^ 32)) (key_of image cnodes slot) true ≡ true
  key-low slot = elim (find (stands_in image slot) cnodes) as (λ o. find (stands_in image slot) cnodes ≡ o
      → option_map_or (λ (key : SlotKey). nat_lt key.index (2 ^ 32))
      (option_map (λ cnode. let k : SlotKey = record { cnode = cnode; index = slot - cnode_slot image cnode 0 } in k) o) true ≡ true) [
        | None ↦ λ _. refl
        | Some cnode ↦ λ is. low-index (cnode_slot image cnode 0) (slots_of_cnode image cnode) slot (few-slots image fitting cnode)
            (find-passes (stands_in image slot) cnodes cnode is)
      ] refl

  parent-low : (parent : Option ℕ) → option_map_or (λ (key : SlotKey). nat_lt key.index (2 ^ 32)) (option_and_then (key_of image cnodes) parent) true ≡ true
  parent-low None = refl
  parent-low (Some slot) = key-low slot

  left-low : (keys : List SlotKey) → AreLow (filter_map (noted_of image cnodes slots) keys)
  left-low [] = refl
  left-low (key ∷ rest) =
      let held : NotedSlot = record {
        key = key;
        capability = capability_at slots (slot_of_key image key);
        parent =
            option_and_then (key_of image cnodes) (parent_at slots (slot_of_key image key));
      } in
      let behind = left-low rest in
      elim (is_full slots (slot_of_key image key))
      as (λ b. list_all is_low (cons_option (if b then Some held else None) (filter_map (noted_of image cnodes slots) rest)) ≡ true) [
        | true ↦ ap (λ b. b && list_all is_low (filter_map (noted_of image cnodes slots) rest)) (parent-low (parent_at slots (slot_of_key image key))) ∙ behind
        | false ↦ behind
      ]

pub after-low : (image : Image) (t : Thread) (slots : Slots) → IsFitting image → AreLow (noted_after image t slots)
unfolding noted_after
after-low image t slots fitting = left-low image fitting (reached image t) slots (keys_of image (reached image t))
