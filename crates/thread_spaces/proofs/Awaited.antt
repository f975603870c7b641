-- In a round all capabilities that lead on are awaited, so that those between two that are followed may be passed.
use Rattle.std.proofs.Common.{ℕ, zero, suc, ◌≡◌, ◌∙◌, ◌==◌, ◌+◌, ◌<◌, ◌≤◌, ◌⊎◌, inl, inr, ◌&&◌, drop, Bool, true, false, not, if◌then◌else◌, Some, List, []}
use Rattle.std.proofs.Common.{◌∷◌, ◌++◌, length, refl, sym, ap, subst, arith}
use Rattle.std.specs.Prelude.{fold, slice_get}
use Rattle.std.specs.List.{All}
use Rattle.std.specs.Ordering.{is_eq, nat_cmp}
use Rattle.std.specs.declared.cmp.Ordering.TheVariants.{Less}
use Rattle.std.proofs.lemmas.Bool.{and_parts, cases_lt, eq-eqb, le-ltb, lt-ltb, or_cases, or_left, or_right}
use Rattle.std.proofs.lemmas.Bool.Decides.{nat_tests}
use Rattle.std.proofs.lemmas.List.Elements.{All-head, All-tail}
use Rattle.std.proofs.lemmas.Option.{same_Some}
use Rattle.model.specs.declared.entries.CapabilityEntry.{CapabilityEntry}
use Rattle.model.specs.Acceptance.ThreadRules.{is_cnode_source, is_member, with_named}
use Rattle.model.specs.Images.Image.{Image}
use Rattle.image_reading.specs.image_entries.Keys.{AreListedIn}
use Rattle.thread_spaces.specs.Reaching.{AwaitsAll, AwaitsListed, AwaitsMore, Begins, Follows, IsWithin, awaits, is_among, leads_on}
use Rattle.thread_spaces.specs.declared.reach.Round.{Round}
use Rattle.thread_spaces.proofs.Rounds.{drop-next, member-cases, named-puts, part-one}

-- ---- numbers

same-number : (a b : ℕ) → is_eq (nat_cmp a b) ≡ true → a ≡ b
same-number a b is = grind (arith, nat_tests)

itself : (a : ℕ) → is_eq (nat_cmp a a) ≡ true
itself a = grind (arith, nat_tests)

among-cases : (k n : ℕ) (rest : List ℕ) → is_among (k ∷ rest) n ≡ true → (n ≡ k) ⊎ (is_among rest n ≡ true)
among-cases k n rest is = elim (or_cases (is_eq (nat_cmp n k)) (is_among rest n) is) [
  | inl here ↦ inl (same-number n k here)
  | inr later ↦ inr later
]

first-among : (k : ℕ) (rest : List ℕ) → is_among (k ∷ rest) k ≡ true
first-among k rest = or_left (is_eq (nat_cmp k k)) (is_among rest k) (itself k)

abbrev IsAbove : ℕ → ℕ → Type 0
IsAbove k n = nat_cmp k n ≡ Less

all-above : (k : ℕ) (rest : List ℕ) → All (IsAbove k) rest → (n : ℕ) → is_among rest n ≡ true → k < n
all-above k [] all n is = absurd (let clash : false ≡ true = is in cc)
all-above k (m ∷ rest) all n is = elim (among-cases m n rest is) [
  | inl same ↦ subst (λ x. k < x) (sym same) (less k m (All-head (IsAbove k) m rest all))
  | inr later ↦ all-above k rest (All-tail (IsAbove k) m rest all) n later
]
  where
    less : (a b : ℕ) → nat_cmp a b ≡ Less → a < b
    less a b is = grind (arith, nat_tests)

none-among : (numbers : List ℕ) (n : ℕ) → numbers ≡ [] → is_among numbers n ≡ false
none-among numbers n none = ap (λ (l : List ℕ). is_among l n) none

pub none-left : (numbers : List ℕ) → (0 < length numbers → false ≡ true) → numbers ≡ []
none-left [] none = refl
none-left (n ∷ rest) none = absurd (let clash : false ≡ true = none (omega arith) in cc)

-- ---- what a round awaits

awaits-before : (r : Round) (n : ℕ) → n < r.place → awaits r n ≡ is_among r.passed.keys n
awaits-before r n less = ap (λ b. is_among (if b then r.passed.keys else r.ahead.keys) n) (lt-ltb n r.place less)

awaits-behind : (r : Round) (n : ℕ) → r.place ≤ n → awaits r n ≡ is_among r.ahead.keys n
awaits-behind r n most = ap (λ b. is_among (if b then r.passed.keys else r.ahead.keys) n) (le-ltb n r.place most)

pub none-within : (image : Image) (r : Round) → r.ahead.keys ≡ [] → r.passed.keys ≡ [] → IsWithin image r
none-within image r ahead passed = record {
  ahead = λ n there. absurd (let clash : false ≡ true = sym (none-among r.ahead.keys n ahead) ∙ there in cc);
  passed = λ n there. absurd (let clash : false ≡ true = sym (none-among r.passed.keys n passed) ∙ there in cc);
}

-- ---- those of one CNode

-- so far
abbrev pub AwaitsUpTo : Image → ℕ → ℕ → Round → Type 0
AwaitsUpTo image cnode end r = (n : ℕ) (c : CapabilityEntry) → slice_get image.capabilities n ≡ Some c → c.cnode ≡ cnode → n < end →
    is_cnode_source image c.source ≡ true → awaits r n ≡ true

module _ (image : Image) (cnode first end : ℕ) (listed : AreListedIn cnode image.capabilities first end) where
  others : (c : CapabilityEntry) → c.cnode ≡ cnode → (c.cnode == cnode) ≡ false → ⊥
  others c is not = absurd (let clash : true ≡ false = sym (eq-eqb c.cnode cnode is) ∙ not in cc)

  pub up-to-first : (r : Round) → AwaitsUpTo image cnode first r
  up-to-first r n c at is less leads = absurd (others c is (listed.before n c less at))

  pub up-to-end : (i : ℕ) (r : Round) → end ≤ i → AwaitsUpTo image cnode i r → AwaitsListed image cnode r
  up-to-end i r past so_far = record {
    all = λ n c at is leads. elim (cases_lt n i) [
      | inl less ↦ so_far n c at is less leads
      | inr behind ↦ absurd (others c is (listed.behind n c (omega (arith, past, behind)) at))
    ];
  }

pub up-to-next : (image : Image) (cnode i : ℕ) (r s : Round) → AwaitsMore r s
    → ((c : CapabilityEntry) → slice_get image.capabilities i ≡ Some c → is_cnode_source image c.source ≡ true → awaits s i ≡ true) →
    AwaitsUpTo image cnode i r → AwaitsUpTo image cnode (i + 1) s
up-to-next image cnode i r s more one so_far n c at is less leads = elim (cases_lt n i) [
  | inl before ↦ more.keeps n (so_far n c at is before leads)
  | inr behind ↦
      let last : i ≡ n = omega (arith, less, behind) in
      subst (λ k. awaits s k ≡ true) last (one c (subst (λ k. slice_get image.capabilities k ≡ Some c) (sym last) at) leads)
]

-- ---- capabilities that lead on

module _ (image : Image) (found : List ℕ) where
  stays : (c : CapabilityEntry) → leads_on image found c ≡ false → with_named image found c ≡ found
  stays c none = ap (λ b. if b then found ++ c.source ∷ [] else found) none

  pub none-behind : (xs : List CapabilityEntry) (a : ℕ) → ((n : ℕ) (c : CapabilityEntry) → a ≤ n → slice_get xs n ≡ Some c → leads_on image found c ≡ false)
      → fold (with_named image) found (drop a xs) ≡ found
  none-behind [] zero none = refl
  none-behind [] (suc a) none = refl
  none-behind (x ∷ xs) zero none =
      ap (λ (f : List ℕ). fold (with_named image) f xs) (stays x (none 0 x (omega arith) refl))
      ∙ none-behind xs zero (λ n c most at. none (suc n) c (omega arith) at)
  none-behind (x ∷ xs) (suc a) none = none-behind xs a (λ n c most at. none (suc n) c (omega (arith, most)) at)

  none-between : (xs : List CapabilityEntry) (a b : ℕ) → a ≤ b →
      ((n : ℕ) (c : CapabilityEntry) → a ≤ n → n < b → slice_get xs n ≡ Some c → leads_on image found c ≡ false)
      → fold (with_named image) found (drop a xs) ≡ fold (with_named image) found (drop b xs)
  none-between xs zero zero less none = refl
  none-between [] zero (suc b) less none = refl
  none-between (x ∷ xs) zero (suc b) less none =
      ap (λ (f : List ℕ). fold (with_named image) f xs) (stays x (none 0 x (omega arith) (omega arith) refl))
      ∙ none-between xs zero b (omega arith) (λ n c most before at. none (suc n) c (omega arith) (omega (arith, before)) at)
  none-between xs (suc a) zero less none = absurd (omega (arith, less))
  none-between [] (suc a) (suc b) less none = refl
  none-between (x ∷ xs) (suc a) (suc b) less none = none-between xs a b (omega (arith, less))
      (λ n c most before at. none (suc n) c (omega (arith, most)) (omega (arith, before)) at)

  is-false : (b : Bool) → (b ≡ true → ⊥) → b ≡ false
  is-false true not = absurd (not refl)
  is-false false not = refl

  -- where none is ahead, none from the place on leads on
  pub none-ahead : (r : Round) → r.ahead.keys ≡ [] → AwaitsAll image found r → (n : ℕ) (c : CapabilityEntry) → r.place ≤ n →
      slice_get image.capabilities n ≡ Some c → leads_on image found c ≡ false
  none-ahead r none all n c most at = is-false (leads_on image found c) (λ leads.
      let clash : true ≡ false = sym (all.all n c at leads) ∙ awaits-behind r n most ∙ none-among r.ahead.keys n none in
      absurd (let no : true ≡ false = clash in cc))

  -- ---- one that is followed

  module _ (r s : Round) (k : ℕ) (rest : List ℕ) (within : IsWithin image r) (all : AwaitsAll image found r) (first : r.ahead.keys ≡ k ∷ rest)
      (above : All (IsAbove k) rest)
      (place : s.place ≡ k + 1) (ahead : s.ahead.keys ≡ rest) (passed : s.passed.keys ≡ r.passed.keys) where
    was-ahead : (n : ℕ) → is_among (k ∷ rest) n ≡ true → is_among r.ahead.keys n ≡ true
    was-ahead n is = ap (λ (l : List ℕ). is_among l n) first ∙ is

    pub popped-inside : (r.place ≤ k) × (k < length image.capabilities)
    popped-inside = within.ahead k (was-ahead k (first-among k rest))

    pub popped-within : IsWithin image s
    popped-within = record {
      ahead = λ n there.
          let here : is_among rest n ≡ true = sym (ap (λ (l : List ℕ). is_among l n) ahead) ∙ there in
          let was = within.ahead n (was-ahead n (or_right (is_eq (nat_cmp n k)) (is_among rest n) here)) in
          (subst (λ p. p ≤ n) (sym place) (let less = all-above k rest above n here in omega (arith, less)), was.1);
      passed = λ n there. within.passed n (sym (ap (λ (l : List ℕ). is_among l n) passed) ∙ there);
    }

    popped-awaits : (n : ℕ) → awaits r n ≡ true → (n ≡ k) ⊎ (awaits s n ≡ true)
    popped-awaits n is = elim (cases_lt n r.place) [
      | inl before ↦ inr (
          awaits-before s n (subst (λ p. n < p) (sym place) (let inside = popped-inside.0 in omega (arith, before, inside)))
          ∙ ap (λ (l : List ℕ). is_among l n) passed ∙ sym (awaits-before r n before) ∙ is
          )
      | inr behind ↦ elim (among-cases k n rest (sym (ap (λ (l : List ℕ). is_among l n) first) ∙ sym (awaits-behind r n behind) ∙ is)) [
        | inl same ↦ inl same
        | inr later ↦ inr (
            awaits-behind s n (subst (λ p. p ≤ n) (sym place) (let less = all-above k rest above n later in omega (arith, less)))
            ∙ ap (λ (l : List ℕ). is_among l n) ahead ∙ later
            )
      ]
    ]

    -- those before it lead nowhere
    none-before : (n : ℕ) (c : CapabilityEntry) → r.place ≤ n → n < k → slice_get image.capabilities n ≡ Some c → leads_on image found c ≡ false
    none-before n c most less at = is-false (leads_on image found c) (λ leads.
        elim (among-cases k n rest (sym (ap (λ (l : List ℕ). is_among l n) first) ∙ sym (awaits-behind r n most) ∙ all.all n c at leads)) [
          | inl same ↦ absurd (omega (arith, same, less))
          | inr later ↦ absurd (let past = all-above k rest above n later in omega (arith, past, less))
        ])

    module _ (after : List ℕ) (t : Round) (more : AwaitsMore s t) (follows : Follows image k found after t) where
      pub followed-place : t.place ≡ k + 1
      followed-place = more.same ∙ place

      -- what is left of the round finds the same
      pub followed-rest : (total : List ℕ) → fold (with_named image) found (drop r.place image.capabilities) ≡ total →
          fold (with_named image) after (drop t.place image.capabilities) ≡ total
      followed-rest total so_far =
          ap (λ (n : ℕ). fold (with_named image) after (drop n image.capabilities)) followed-place
          ∙ ap (λ (f : List ℕ). fold (with_named image) f (drop (k + 1) image.capabilities)) follows.is
          ∙ sym (ap (fold (with_named image) found) (drop-next image.capabilities k follows.entry follows.there))
          ∙ sym (none-between image.capabilities r.place k popped-inside.0 none-before) ∙ so_far

      pub followed-all : AwaitsAll image after t
      followed-all = record { all = λ n c at leads. by_found n c at leads (is_member c.cnode found) refl }
        where
          stays-out : (n : ℕ) → is_member n after ≡ false → is_member n found ≡ false
          stays-out n out = is-false (is_member n found) (λ there.
              let still : is_member n after ≡ true = ap (λ (l : List ℕ). is_member n l) follows.is ∙ part-one image found follows.entry n there in
              absurd (let clash : true ≡ false = sym still ∙ out in cc))

          not-false : (b : Bool) → not b ≡ true → b ≡ false
          not-false true is = absurd (let clash : false ≡ true = is in cc)
          not-false false is = refl

          all-three : (a b d : Bool) → a ≡ true → b ≡ true → d ≡ false → (a && b && not d) ≡ true
          all-three true true false one two three = refl
          all-three false b d one two three = absurd (let clash : false ≡ true = one in cc)
          all-three true false d one two three = absurd (let clash : false ≡ true = two in cc)
          all-three true true true one two three = absurd (let clash : true ≡ false = three in cc)

          found-new : (c : CapabilityEntry) → is_member c.cnode after ≡ true → is_member c.cnode found ≡ false → (leads_on image found follows.entry ≡ true)
              × (c.cnode ≡ follows.entry.source)
          found-new c there out = by_test (leads_on image found follows.entry) refl
            where
              here : (b : Bool) → leads_on image found follows.entry ≡ b → is_member c.cnode (if b then found ++ follows.entry.source ∷ [] else found) ≡ true
              here b is =
                  ap (λ d. is_member c.cnode (if d then found ++ follows.entry.source ∷ [] else found)) (sym is)
                  ∙ sym (ap (λ (l : List ℕ). is_member c.cnode l) follows.is) ∙ there

              by_test : (b : Bool) → leads_on image found follows.entry ≡ b → (leads_on image found follows.entry ≡ true) × (c.cnode ≡ follows.entry.source)
              by_test true is = elim (member-cases image c.cnode found follows.entry.source (here true is)) [
                | inl before ↦ absurd (let clash : true ≡ false = sym before ∙ out in cc)
                | inr new ↦ (is, new)
              ]
              by_test false is = absurd (let clash : true ≡ false = sym (here false is) ∙ out in cc)

          by_found : (n : ℕ) (c : CapabilityEntry) → slice_get image.capabilities n ≡ Some c → leads_on image after c ≡ true → (b : Bool) →
              is_member c.cnode found ≡ b → awaits t n ≡ true
          by_found n c at leads true there =
              let parts = and_parts (is_member c.cnode after && is_cnode_source image c.source) (not (is_member c.source after)) leads in
              let source = (and_parts (is_member c.cnode after) (is_cnode_source image c.source) parts.0).1 in
              let out = not-false (is_member c.source after) parts.1 in
              let led = all-three (is_member c.cnode found) (is_cnode_source image c.source) (is_member c.source found) there source (stays-out c.source out) in
              elim (popped-awaits n (all.all n c at led)) [
                | inl same ↦
                    let one : follows.entry ≡ c = same_Some follows.entry c (sym follows.there ∙ ap (slice_get image.capabilities) (sym same) ∙ at) in
                    let put : is_member c.source (with_named image found c) ≡ true = named-puts image found c there source in
                    let in_after : is_member c.source after ≡ true = ap (λ (l : List ℕ). is_member c.source l) (follows.is ∙ ap (with_named image found) one)
                    ∙ put in
                    absurd (let clash : true ≡ false = sym in_after ∙ out in cc)
                | inr still ↦ more.keeps n still
              ]
          by_found n c at leads false out =
              let parts = and_parts (is_member c.cnode after && is_cnode_source image c.source) (not (is_member c.source after)) leads in
              let inner = and_parts (is_member c.cnode after) (is_cnode_source image c.source) parts.0 in
              let new = found-new c inner.0 out in
              (follows.listed new.0).all n c at new.1 inner.1

  -- ---- from round to round

  pub next-begins : (r s : Round) → r.ahead.keys ≡ [] → s.place ≡ 0 → s.ahead.keys ≡ r.passed.keys → s.passed.keys ≡ r.ahead.keys → IsWithin image r →
      AwaitsAll image found r → Begins image found s
  next-begins r s none place ahead passed within all = record {
    first = place;
    within = record {
      ahead = λ n there. (subst (λ p. p ≤ n) (sym place) (omega arith), within.passed n (sym (ap (λ (l : List ℕ). is_among l n) ahead) ∙ there));
      passed = λ n there. absurd (let clash : false ≡ true = sym (none-among s.passed.keys n (passed ∙ none)) ∙ there in cc);
    };
    awaits_all = record {
      all = λ n c at leads. elim (cases_lt n r.place) [
        | inl before ↦
            awaits-behind s n (subst (λ p. p ≤ n) (sym place) (omega arith)) ∙ ap (λ (l : List ℕ). is_among l n) ahead
            ∙ sym (awaits-before r n before) ∙ all.all n c at leads
        | inr behind ↦ absurd (let clash : true ≡ false = sym leads ∙ none-ahead r none all n c behind at in cc)
      ];
    };
  }

  -- what a round that begins finds
  pub round-begun : (r : Round) → Begins image found r → fold (with_named image) found (drop r.place image.capabilities) ≡ fold (with_named image) found
      image.capabilities
  round-begun r begins = ap (λ (n : ℕ). fold (with_named image) found (drop n image.capabilities)) begins.first

  -- where none is awaited, nothing more is found
  pub none-more : (r : Round) → r.ahead.keys ≡ [] → Begins image found r → fold (with_named image) found image.capabilities ≡ found
  none-more r none begins =
      none-behind image.capabilities 0 (λ n c most at. none-ahead r none begins.awaits_all n c (subst (λ p. p ≤ n) (sym begins.first) most) at)

pub first-begins : (image : Image) (root : ℕ) (before found : List ℕ) (r s : Round) → before ≡ [] →
    found ≡ (if is_member root before then before else before ++ root ∷ []) → r.place ≡ 0
    → AwaitsMore r s → IsWithin image s → AwaitsListed image root s → Begins image found s
first-begins image root before found r s none put place more within listed = record {
  first = more.same ∙ place;
  within = within;
  awaits_all = record {
    all = λ n c at leads.
        let parts = and_parts (is_member c.cnode found && is_cnode_source image c.source) (not (is_member c.source found)) leads in
        let inner = and_parts (is_member c.cnode found) (is_cnode_source image c.source) parts.0 in
        let one : is_member c.cnode (root ∷ []) ≡ true =
        sym (ap (λ (l : List ℕ). is_member c.cnode l) (put ∙ ap (λ (l : List ℕ). if is_member root l then l else l ++ root ∷ []) none)) ∙ inner.0 in
        listed.all n c at (only c.cnode one) inner.1;
  };
}
  where
    only : (n : ℕ) → is_member n (root ∷ []) ≡ true → n ≡ root
    only n is = elim (member-cases image n [] root is) [
      | inl none ↦ absurd (let clash : false ≡ true = none in cc)
      | inr same ↦ same
    ]
