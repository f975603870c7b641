-- Slots that the rules compare as the same are the same.
use Rattle.std.proofs.Common.{ℕ, zero, suc, ◌≡◌, ◌∙◌, ◌^◌, ◌<◌, ◌≤◌, ◌&&◌, ◌||◌, inl, inr, true, false, not, nat_lt, Option, Some, None, List, [], ◌∷◌, length}
use Rattle.std.proofs.Common.{get_or, refl, sym, ap, arith}
use Rattle.std.specs.Option.{option_map_or}
use Rattle.std.specs.List.{list_all, list_any}
use Rattle.std.proofs.Math.Pow.{pow_mono}
use Rattle.std.proofs.lemmas.Bool.{and_parts, cases_lt, eqb-true, ltb-true, not-false, or_cases, or_parts}
use Rattle.std.proofs.lemmas.Option.{slice_get-get_or}
use Rattle.headline.proofs.facts.Laws.{capabilities-equal, same-low-key}
use Rattle.format_laws.specs.Fitting.{IsFitting}
use Rattle.format_laws.proofs.Laws.{between-bounds}
use Rattle.image_reading.proofs.Laws.{test-decides}
use Rattle.model.specs.declared.entries.ObjectEntry.{ObjectEntry}
use Rattle.model.specs.Acceptance.NotedStates.{NotedSlot, PointState, SlotKey, are_same_slots, has_stray_slots, is_foreign, is_own, is_same_key, is_same_parent}
use Rattle.model.specs.Acceptance.NotedStates.{is_same_slot, is_stray, leads_to_boot, notes_outside, number_of, record_of}
use Rattle.model.specs.Acceptance.ThreadRules.{is_member, reached}
use Rattle.model.specs.Acceptance.WellFormed.{has_slot, radix_of}
use Rattle.model.specs.Capabilities.CapabilityFields.{is_capability, same_words}
use Rattle.model.specs.Capabilities.CapabilityWords.{words_of}
use Rattle.model.specs.Images.Image.{Image, Thread, size_fits}
use Rattle.model.specs.Images.Places.{object_at, type_at}
use Rattle.model.specs.Kernel.Retype.{type_of}
use Rattle.headline.specs.steps.Formed.{AreFormed, IsFormed, is_low}

-- ---- keys, capabilities, parents

parent-back : (a b : Option SlotKey) → option_map_or (λ key. nat_lt key.index (2 ^ 32)) a true ≡ true →
    option_map_or (λ key. nat_lt key.index (2 ^ 32)) b true ≡ true → is_same_parent a b ≡ true → a ≡ b
parent-back None None low few same = refl
parent-back None (Some b) low few same = absurd (let clash : false ≡ true = same in cc)
parent-back (Some a) None low few same = absurd (let clash : false ≡ true = same in cc)
parent-back (Some a) (Some b) low few same =
    ap (λ (k : SlotKey). Some k) (same-low-key a b (ltb-true a.index (2 ^ 32) low) (ltb-true b.index (2 ^ 32) few) (eqb-true (number_of a) (number_of b) same))

slot-back : (a b : NotedSlot) → IsFormed a → IsFormed b → is_same_slot a b ≡ true → a ≡ b
slot-back a b one other same =
    let outer = and_parts (is_same_key a.key b.key && same_words (words_of a.capability) (words_of b.capability)) (is_same_parent a.parent b.parent) same in
    let inner = and_parts (is_same_key a.key b.key) (same_words (words_of a.capability) (words_of b.capability)) outer.0 in
    let key = same-low-key a.key b.key one.index other.index (eqb-true (number_of a.key) (number_of b.key) inner.0) in
    let capability = capabilities-equal a.capability b.capability one.valid other.valid inner.1 in
    let parent = parent-back a.parent b.parent one.low other.low outer.1 in
    λ i. record { key = key i; capability = capability i; parent = parent i }

pub slots-back : (slots others : List NotedSlot) → AreFormed slots → AreFormed others → are_same_slots slots others ≡ true → slots ≡ others
slots-back [] [] one other same = refl
slots-back [] (b ∷ bs) one other same = absurd (let clash : false ≡ true = same in cc)
slots-back (a ∷ as_) [] one other same = absurd (let clash : false ≡ true = same in cc)
slots-back (a ∷ as_) (b ∷ bs) one other same =
    let parts = and_parts (is_same_slot a b) (are_same_slots as_ bs) same in
    let first = slot-back a b one.0 other.0 parts.0 in
    let rest = slots-back as_ bs one.1 other.1 parts.1 in
    λ i. first i ∷ rest i

-- ---- CNodes have at most 2^14 slots

cnode-size : (size : ℕ) → size_fits 5 size ≡ true → size ≤ 14
cnode-size size is = elim (or_cases _ false is) [
  | inl sized ↦ elim (or_cases _ _ sized) [
    | inl fits ↦ (between-bounds 1 14 size fits).1
    | inr clash ↦ absurd (let no : false ≡ true = (and_parts _ false clash).1 in cc)
  ]
  | inr none ↦ absurd (let clash : false ≡ true = none in cc)
]

radix-size : (kind size radix : ℕ) → kind ≤ 8 → size_fits kind size ≡ true → radix_of (type_of kind size) ≡ Some radix → radix ≤ 14
radix-size zero size radix high fits is = absurd (let clash : None ≡ Some radix = is in cc)
radix-size (suc zero) size radix high fits is = absurd (let clash : None ≡ Some radix = is in cc)
radix-size (suc (suc zero)) size radix high fits is = absurd (let clash : None ≡ Some radix = is in cc)
radix-size (suc (suc (suc zero))) size radix high fits is = absurd (let clash : None ≡ Some radix = is in cc)
radix-size (suc (suc (suc (suc zero)))) size radix high fits is = absurd (let clash : None ≡ Some radix = is in cc)
radix-size (suc (suc (suc (suc (suc zero))))) size radix high fits is =
    let same : size ≡ radix = (let both : Some size ≡ Some radix = is in cc) in
    let most = cnode-size size fits in
    omega (arith, same, most)
radix-size (suc (suc (suc (suc (suc (suc zero)))))) size radix high fits is = absurd (let clash : None ≡ Some radix = is in cc)
radix-size (suc (suc (suc (suc (suc (suc (suc zero))))))) size radix high fits is = absurd (let clash : None ≡ Some radix = is in cc)
radix-size (suc (suc (suc (suc (suc (suc (suc (suc zero)))))))) size radix high fits is = absurd (let clash : None ≡ Some radix = is in cc)
radix-size (suc (suc (suc (suc (suc (suc (suc (suc (suc kind))))))))) size radix high fits is = absurd (omega (arith, high))

beyond : (objects : List ObjectEntry) (number : ℕ) (none : ObjectEntry) → length objects ≤ number → get_or objects number none ≡ none
beyond [] number none most = refl
beyond (o ∷ rest) zero none most = absurd (omega (arith, most))
beyond (o ∷ rest) (suc number) none most = beyond rest number none (omega (arith, most))

pub radix-small : (image : Image) → IsFitting image → (number radix : ℕ) → radix_of (type_at image number) ≡ Some radix → radix ≤ 14
radix-small image fitting number radix is = elim (cases_lt number (length image.objects)) [
  | inl less ↦
      let o = object_at image number in
      let fits = fitting.object number o (slice_get-get_or image.objects number (record { untyped = 0; kind = 0; size = 0 }) less) in
      radix-size o.kind o.size radix fits.high fits.size is
  | inr most ↦
      let nothing = beyond image.objects number (record { untyped = 0; kind = 0; size = 0 }) most in
      absurd (let clash : None ≡ Some radix = sym (ap (λ (o : ObjectEntry). radix_of (type_of o.kind o.size)) nothing) ∙ is in cc)
]

own-index : (image : Image) (cnodes : List ℕ) (key : SlotKey) → IsFitting image → is_own image cnodes key ≡ true → key.index < 2 ^ 32
own-index image cnodes key fitting own =
    let parts = and_parts (is_member key.cnode cnodes) (has_slot image key.cnode key.index) own in
    elim (radix_of (type_at image key.cnode)) as (λ o. radix_of (type_at image key.cnode) ≡ o →
    option_map_or (λ radix. nat_lt key.index (2 ^ radix)) o false ≡ true → key.index < 2 ^ 32) [
      | None ↦ λ _ clash. absurd (let no : false ≡ true = clash in cc)
      | Some radix ↦ λ is inside.
          let small : radix ≤ 14 = radix-small image fitting key.cnode radix is in
          let most : 2 ^ radix ≤ 2 ^ 14 = pow_mono small in
          let less = ltb-true key.index (2 ^ radix) inside in
          omega (arith, less, most)
    ] refl parts.1

-- ---- slots that are not stray

module _ (image : Image) (t : Thread) (fitting : IsFitting image) (all : List NotedSlot) where
  formed-each : (slots : List NotedSlot) → list_any (is_stray image t (reached image t) all) slots ≡ false → list_all is_low slots ≡ true → AreFormed slots
  formed-each [] none low = tt
  formed-each (s ∷ rest) none low =
      let now = or_parts (is_stray image t (reached image t) all s) (list_any (is_stray image t (reached image t) all) rest) none in
      let held = and_parts (is_low s) (list_all is_low rest) low in
      let outer = or_parts (not (is_own image (reached image t) s.key) || is_foreign image t (reached image t) s.capability || not (is_capability s.capability))
      (not (leads_to_boot (length all) all s.parent)) now.0 in
      let valid = or_parts (not (is_own image (reached image t) s.key) || is_foreign image t (reached image t) s.capability) (not (is_capability s.capability))
      outer.0 in
      let inner = or_parts (not (is_own image (reached image t) s.key)) (is_foreign image t (reached image t) s.capability) valid.0 in
      let one : IsFormed s = record {
        index = own-index image (reached image t) s.key fitting (not-false (is_own image (reached image t) s.key) inner.0);
        valid = test-decides s.capability (not-false (is_capability s.capability) valid.1);
        low = held.0;
      } in
      (one, formed-each rest now.1 held.1)

pub not-stray-formed : (image : Image) (t : Thread) (point : ℕ) (state : PointState) → IsFitting image → list_all is_low state.slots ≡ true
    → has_stray_slots image t point state ≡ false → AreFormed state.slots
unfolding has_stray_slots
not-stray-formed image t point state fitting low none =
    formed-each image t fitting state.slots state.slots
    (or_parts (list_any (is_stray image t (reached image t) state.slots) state.slots)
    (option_map_or (notes_outside image (reached image t)) (record_of t point) false) none).0 low
