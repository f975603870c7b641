-- What CNodes are reached: those that are found by following the capabilities of each CNode once.
use Rattle.std.proofs.Common.{◌≡◌, ◌∙◌, inl, inr, ◌⊎◌, ℕ, zero, suc, ◌+◌, ◌-◌, ◌<◌, ◌≤◌, ◌==◌, ◌&&◌, not, Bool, true, false, List, [], ◌∷◌, ◌++◌, Some, length}
use Rattle.std.proofs.Common.{drop, map, refl, sym, ap, subst, arith, length-append}
use Rattle.std.specs.Prelude.{fold, if◌then◌else◌, nat_eq, slice_get}
use Rattle.std.specs.Cmp.{IsEquivalence}
use Rattle.std.specs.List.{IsDistinct, list_any}
use Rattle.std.proofs.lemmas.Bool.{and_parts, cases_lt, eq-eqb, eqb-true, false≢true, or_cases, or_left, or_right}
use Rattle.std.proofs.lemmas.List.{length-map}
use Rattle.std.proofs.lemmas.Map.Keys.{IsDistinct-from_apart, IsDistinct-push}
use Rattle.std.proofs.lemmas.Map.Made.{length-le_from_is_member}
use Rattle.std.proofs.lemmas.Option.{none-some, same_Some, slice_get_within}
use Rattle.model.specs.declared.entries.CapabilityEntry.{CapabilityEntry}
use Rattle.model.specs.Acceptance.ThreadRules.{is_cnode_source, is_member, reached, reached_within, with_named}
use Rattle.model.specs.Images.Image.{Image, Thread}
use Rattle.image_reading.specs.image_entries.Keys.{AreListedIn}
use Rattle.image_reading.proofs.Laws.{any-here, key-at}
use Rattle.wellformed.specs.Answering.{with_listed, with_number}
use Rattle.wellformed.proofs.Named.{member-with, same-number}
use Rattle.wellformed.proofs.RulesLeft.{rest-next}

-- ---- lists

same-bool : (a b : Bool) → (a ≡ true → b ≡ true) → (b ≡ true → a ≡ true) → a ≡ b
same-bool true b there back = sym (there refl)
same-bool false true there back = back refl
same-bool false false there back = refl

any-place : {A : Type 0} (test : A → Bool) (xs : List A) → list_any test xs ≡ true → (k : ℕ) × (x : A) × (slice_get xs k ≡ Some x) × (test x ≡ true)
any-place test [] some = absurd (false≢true some)
any-place test (x ∷ xs) some = elim (or_cases (test x) (list_any test xs) some) [
  | inl here ↦ (0, x, refl, here)
  | inr later ↦ let found = any-place test xs later in (suc found.0, found.1, found.2, found.3)
]

member-place : (n : ℕ) (xs : List ℕ) → is_member n xs ≡ true → (k : ℕ) × (slice_get xs k ≡ Some n)
member-place n xs there =
    let found = any-place (nat_eq n) xs there in
    (found.0, found.2 ∙ ap (λ (m : ℕ). Some m) (sym (eqb-true n found.1 found.3)))

member-at : (n k : ℕ) (xs : List ℕ) → slice_get xs k ≡ Some n → is_member n xs ≡ true
member-at n k xs at = any-here (nat_eq n) xs k n at (eq-eqb n n refl)

-- a test finds something among the same members
pub any-members : (test : ℕ → Bool) (xs ys : List ℕ) → ((n : ℕ) → is_member n xs ≡ is_member n ys) → list_any test xs ≡ list_any test ys
any-members test xs ys same = same-bool (list_any test xs) (list_any test ys) (go xs ys same) (go ys xs (λ n. sym (same n)))
  where
    go : (xs ys : List ℕ) → ((n : ℕ) → is_member n xs ≡ is_member n ys) → list_any test xs ≡ true → list_any test ys ≡ true
    go xs ys same some =
        let found = any-place test xs some in
        let other = member-place found.1 ys (sym (same found.1) ∙ member-at found.1 found.0 xs found.2) in
        any-here test ys other.0 found.1 other.1 found.3

append-old : (xs : List ℕ) (y k n : ℕ) → slice_get xs k ≡ Some n → slice_get (xs ++ y ∷ []) k ≡ Some n
append-old [] y k n at = absurd (none-some n at)
append-old (x ∷ xs) y zero n at = at
append-old (x ∷ xs) y (suc k) n at = append-old xs y k n at

append-cases : (xs : List ℕ) (y k n : ℕ) → slice_get (xs ++ y ∷ []) k ≡ Some n → (slice_get xs k ≡ Some n) ⊎ ((length xs ≤ k) × (n ≡ y))
append-cases [] y zero n at = inr (omega arith, sym (same_Some y n at))
append-cases [] y (suc k) n at = absurd (none-some n at)
append-cases (x ∷ xs) y zero n at = inl at
append-cases (x ∷ xs) y (suc k) n at = elim (append-cases xs y k n at) [
  | inl old ↦ inl old
  | inr new ↦ inr ((let past = new.0 in omega (arith, past)), new.1)
]

numbers : IsEquivalence {K = ℕ} nat_eq
numbers = record {
  refl = λ x. eq-eqb x x refl;
  symm = λ x y. same-number x y;
  congr = λ x y z same. ap (λ (k : ℕ). nat_eq k z) (eqb-true x y same);
}

-- ---- folds

fold-keeps : {S A : Type 0} (P : S → Type 0) (step : S → A → S) (xs : List A) → ((k : ℕ) (x : A) (s : S) → slice_get xs k ≡ Some x → P s → P (step s x)) →
    (s : S) → P s → P (fold step s xs)
fold-keeps P step [] keeps s holds = holds
fold-keeps P step (x ∷ xs) keeps s holds = fold-keeps P step xs (λ k y t at. keeps (suc k) y t at) (step s x) (keeps 0 x s refl holds)

-- what a step makes true, and all keep
fold-makes : {S A : Type 0} (Q P : S → Type 0) (step : S → A → S) (xs : List A) (k : ℕ) (x : A) → slice_get xs k ≡ Some x →
    ((s : S) (y : A) → Q s → Q (step s y)) → ((s : S) (y : A) → P s → P (step s y))
    → ((s : S) → Q s → P (step s x)) → (s : S) → Q s → P (fold step s xs)
fold-makes Q P step [] k x at keeps_q keeps_p makes s holds = absurd (none-some x at)
fold-makes Q P step (y ∷ ys) zero x at keeps_q keeps_p makes s holds =
    fold-keeps P step ys (λ k z t there. keeps_p t z) (step s y) (subst (λ z. P (step s z)) (sym (same_Some y x at)) (makes s holds))
fold-makes Q P step (y ∷ ys) (suc k) x at keeps_q keeps_p makes s holds = fold-makes Q P step ys k x at keeps_q keeps_p makes (step s y) (keeps_q s y holds)

-- ---- numbers that are put in

more-with : (n m : ℕ) (set : List ℕ) → is_member n set ≡ true → is_member n (with_number m set) ≡ true
more-with n m set there = member-with n m set ∙ or_left (is_member n set) (m == n) there

put-with : (n : ℕ) (set : List ℕ) → is_member n (with_number n set) ≡ true
put-with n set = member-with n n set ∙ or_right (is_member n set) (n == n) (eq-eqb n n refl)

-- adding a CNode only where it is not there is adding it
module _ (image : Image) where
  as-with : (found : List ℕ) (c : CapabilityEntry) → with_named image found c
      ≡ (if is_member c.cnode found && is_cnode_source image c.source then with_number c.source found else found)
  as-with found c = by_tests (is_member c.cnode found && is_cnode_source image c.source) (is_member c.source found)
    where
      by_tests : (b m : Bool) → (if b && not m then found ++ c.source ∷ [] else found) ≡ (if b then (if m then found else found ++ c.source ∷ []) else found)
      by_tests true true = refl
      by_tests true false = refl
      by_tests false m = refl

  named-keeps : (n : ℕ) (found : List ℕ) (c : CapabilityEntry) → is_member n found ≡ true → is_member n (with_named image found c) ≡ true
  named-keeps n found c there = ap (λ (l : List ℕ). is_member n l) (as-with found c) ∙ by_test (is_member c.cnode found && is_cnode_source image c.source)
    where
      by_test : (b : Bool) → is_member n (if b then with_number c.source found else found) ≡ true
      by_test true = more-with n c.source found there
      by_test false = there

  named-puts : (found : List ℕ) (c : CapabilityEntry) → is_cnode_source image c.source ≡ true → is_member c.cnode found ≡ true →
      is_member c.source (with_named image found c) ≡ true
  named-puts found c leads there =
      ap (λ (l : List ℕ). is_member c.source l) (as-with found c)
      ∙ ap (λ (b : Bool). is_member c.source (if b && is_cnode_source image c.source then with_number c.source found else found)) there
      ∙ ap (λ (b : Bool). is_member c.source (if b then with_number c.source found else found)) leads ∙ put-with c.source found

  -- ---- rounds

  round-keeps : (n : ℕ) (found : List ℕ) → is_member n found ≡ true → is_member n (fold (with_named image) found image.capabilities) ≡ true
  round-keeps n found there = fold-keeps (λ s. is_member n s ≡ true) (with_named image) image.capabilities (λ k c s at. named-keeps n s c) found there

  round-puts : (found : List ℕ) (k : ℕ) (c : CapabilityEntry) → slice_get image.capabilities k ≡ Some c → is_cnode_source image c.source ≡ true →
      is_member c.cnode found ≡ true
      → is_member c.source (fold (with_named image) found image.capabilities) ≡ true
  round-puts found k c at leads there =
      fold-makes (λ s. is_member c.cnode s ≡ true) (λ s. is_member c.source s ≡ true) (with_named image) image.capabilities k c at
      (λ s y. named-keeps c.cnode s y) (λ s y. named-keeps c.source s y) (λ s. named-puts s c leads) found there

  last-outside : (rounds : ℕ) (found : List ℕ) → reached_within (suc rounds) image found ≡ fold (with_named image) (reached_within rounds image found)
      image.capabilities
  unfolding reached_within
  last-outside zero found = refl
  last-outside (suc rounds) found = last-outside rounds (fold (with_named image) found image.capabilities)

  more-rounds : (n rounds more : ℕ) (found : List ℕ) → is_member n (reached_within rounds image found) ≡ true →
      is_member n (reached_within (more + rounds) image found) ≡ true
  more-rounds n rounds zero found there = let none : 0 + rounds ≡ rounds = omega arith in ap (λ (k : ℕ). is_member n (reached_within k image found)) none
      ∙ there
  more-rounds n rounds (suc more) found there =
      let one : suc more + rounds ≡ suc (more + rounds) = omega arith in
      ap (λ (k : ℕ). is_member n (reached_within k image found)) one
      ∙ ap (λ (l : List ℕ). is_member n l) (last-outside (more + rounds) found)
      ∙ round-keeps n (reached_within (more + rounds) image found) (more-rounds n rounds more found there)

  within-more : (n few many : ℕ) (found : List ℕ) → few ≤ many → is_member n (reached_within few image found) ≡ true →
      is_member n (reached_within many image found) ≡ true
  within-more n few many found le there =
      let all : many - few + few ≡ many = omega (arith, le) in
      sym (ap (λ (k : ℕ). is_member n (reached_within k image found)) all) ∙ more-rounds n few (many - few) found there

  -- what is closed under the capabilities has all that is reached from its numbers
  abbrev IsClosed : List ℕ → Type 0
  IsClosed set = (k : ℕ) (c : CapabilityEntry) → slice_get image.capabilities k ≡ Some c → is_member c.cnode set ≡ true →
      is_cnode_source image c.source ≡ true → is_member c.source set ≡ true

  abbrev IsPartOf : List ℕ → List ℕ → Type 0
  IsPartOf set found = (n : ℕ) → is_member n found ≡ true → is_member n set ≡ true

  named-inside : (set : List ℕ) → IsClosed set → (k : ℕ) (c : CapabilityEntry) (found : List ℕ) → slice_get image.capabilities k ≡ Some c → IsPartOf set found →
      IsPartOf set (with_named image found c)
  named-inside set closed k c found at inside n there =
      by_test (is_member c.cnode found && is_cnode_source image c.source) refl (ap (λ (l : List ℕ). is_member n l) (sym (as-with found c)) ∙ there)
    where
      by_test : (b : Bool) → (is_member c.cnode found && is_cnode_source image c.source) ≡ b →
          is_member n (if b then with_number c.source found else found) ≡ true → is_member n set ≡ true
      by_test true is there = elim (or_cases (is_member n found) (c.source == n) (sym (member-with n c.source found) ∙ there)) [
        | inl old ↦ inside n old
        | inr new ↦
            let parts = and_parts (is_member c.cnode found) (is_cnode_source image c.source) is in
            let same : c.source ≡ n = eqb-true c.source n new in
            sym (ap (λ (m : ℕ). is_member m set) same) ∙ closed k c at (inside c.cnode parts.0) parts.1
      ]
      by_test false is there = inside n there

  rounds-inside : (set : List ℕ) → IsClosed set → (rounds : ℕ) (found : List ℕ) → IsPartOf set found → IsPartOf set (reached_within rounds image found)
  unfolding reached_within
  rounds-inside set closed zero found inside = inside
  rounds-inside set closed (suc rounds) found inside =
      rounds-inside set closed rounds (fold (with_named image) found image.capabilities)
      (fold-keeps (IsPartOf set) (with_named image) image.capabilities (named-inside set closed) found inside)

  -- ---- the capabilities of one CNode

  -- a capability of the CNode leads to this one
  record IsNamedBy (cnode n : ℕ) : Type 0 where
    place : ℕ
    entry : CapabilityEntry
    there : slice_get image.capabilities place ≡ Some entry
    listed : entry.cnode ≡ cnode
    leads : is_cnode_source image entry.source ≡ true
    is : n ≡ entry.source

  record IsGrown (cnode : ℕ) (old new : List ℕ) : Type 0 where
    longer : length old ≤ length new
    stays : (k n : ℕ) → slice_get old k ≡ Some n → slice_get new k ≡ Some n
    fresh : (k n : ℕ) → slice_get new k ≡ Some n → (slice_get old k ≡ Some n) ⊎ ((length old ≤ k) × IsNamedBy cnode n)
    apart : IsDistinct nat_eq new

  module _ (cnode : ℕ) where
    grows : (old : List ℕ) (k : ℕ) (c : CapabilityEntry) (s : List ℕ) → slice_get image.capabilities k ≡ Some c → IsGrown cnode old s →
        IsGrown cnode old (with_listed image cnode s c)
    grows old k c s at grown = by_test (c.cnode == cnode && is_cnode_source image c.source) refl
      where
        put : (c.cnode == cnode && is_cnode_source image c.source) ≡ true → (m : Bool) → is_member c.source s ≡ m →
            IsGrown cnode old (if m then s else s ++ c.source ∷ [])
        put is true there = grown
        put is false not_there = record {
          longer = (let one = length-append s (c.source ∷ []) in let before = grown.longer in omega (arith, one, before));
          stays = λ j n here. append-old s c.source j n (grown.stays j n here);
          fresh = λ j n here. elim (append-cases s c.source j n here) [
            | inl before ↦ grown.fresh j n before
            | inr new ↦
                let parts = and_parts (c.cnode == cnode) (is_cnode_source image c.source) is in
                inr (
                  (let past = new.0 in let before = grown.longer in omega (arith, past, before)),
                  record { place = k; entry = c; there = at; listed = eqb-true c.cnode cnode parts.0; leads = parts.1; is = new.1 },
                )
          ];
          apart = IsDistinct-push numbers s c.source grown.apart not_there;
        }

        by_test : (b : Bool) → (c.cnode == cnode && is_cnode_source image c.source) ≡ b → IsGrown cnode old (if b then with_number c.source s else s)
        by_test true is = put is (is_member c.source s) refl
        by_test false is = grown

    all-grown : (old : List ℕ) → IsDistinct nat_eq old → IsGrown cnode old (fold (with_listed image cnode) old image.capabilities)
    all-grown old apart = fold-keeps (IsGrown cnode old) (with_listed image cnode) image.capabilities (grows old) old (record {
      longer = omega arith;
      stays = λ k n at. at;
      fresh = λ k n at. inl at;
      apart = apart;
    })

    listed-keeps : (n : ℕ) (found : List ℕ) (c : CapabilityEntry) → is_member n found ≡ true → is_member n (with_listed image cnode found c) ≡ true
    listed-keeps n found c there = by_test (c.cnode == cnode && is_cnode_source image c.source)
      where
        by_test : (b : Bool) → is_member n (if b then with_number c.source found else found) ≡ true
        by_test true = more-with n c.source found there
        by_test false = there

    all-put : (old : List ℕ) (k : ℕ) (c : CapabilityEntry) → slice_get image.capabilities k ≡ Some c → c.cnode ≡ cnode → is_cnode_source image c.source ≡ true
        → is_member c.source (fold (with_listed image cnode) old image.capabilities) ≡ true
    all-put old k c at listed leads =
        fold-makes (λ s. c.cnode ≡ cnode) (λ s. is_member c.source s ≡ true) (with_listed image cnode) image.capabilities k c at
        (λ s y here. here) (λ s y. listed-keeps c.source s y)
        (λ s here.
        ap (λ (b : Bool). is_member c.source (if b && is_cnode_source image c.source then with_number c.source s else s)) (eq-eqb c.cnode cnode here)
        ∙ ap (λ (b : Bool). is_member c.source (if b then with_number c.source s else s)) leads ∙ put-with c.source s) old listed

    -- ---- as a loop goes over them

    listed-other : (found : List ℕ) (c : CapabilityEntry) → (c.cnode == cnode) ≡ false → with_listed image cnode found c ≡ found
    listed-other found c other = ap (λ (b : Bool). if b && is_cnode_source image c.source then with_number c.source found else found) other

    skips : (xs : List CapabilityEntry) (n : ℕ) (found : List ℕ) →
        ((k : ℕ) (c : CapabilityEntry) → k < n → slice_get xs k ≡ Some c → (c.cnode == cnode) ≡ false)
        → fold (with_listed image cnode) found (drop n xs) ≡ fold (with_listed image cnode) found xs
    skips xs zero found others = refl
    skips [] (suc n) found others = refl
    skips (x ∷ xs) (suc n) found others =
        skips xs n found (λ k c less at. others (suc k) c (omega (arith, less)) at)
        ∙ sym (ap (λ (f : List ℕ). fold (with_listed image cnode) f xs) (listed-other found x (others 0 x (omega arith) refl)))

    rest-idle : (xs : List CapabilityEntry) (n : ℕ) (found : List ℕ) →
        ((k : ℕ) (c : CapabilityEntry) → n ≤ k → slice_get xs k ≡ Some c → (c.cnode == cnode) ≡ false)
        → fold (with_listed image cnode) found (drop n xs) ≡ found
    rest-idle [] zero found others = refl
    rest-idle (x ∷ xs) zero found others =
        ap (λ (f : List ℕ). fold (with_listed image cnode) f xs) (listed-other found x (others 0 x (omega arith) refl))
        ∙ rest-idle xs zero found (λ k c most at. others (suc k) c (omega arith) at)
    rest-idle [] (suc n) found others = refl
    rest-idle (x ∷ xs) (suc n) found others = rest-idle xs n found (λ k c most at. others (suc k) c (omega (arith, most)) at)

    module _ (first end : ℕ) (listed : AreListedIn cnode image.capabilities first end) where
      pub follow-first : (found : List ℕ) → fold (with_listed image cnode) found (drop first image.capabilities) ≡ fold (with_listed image cnode) found
          image.capabilities
      follow-first found = skips image.capabilities first found (λ k c less at. listed.before k c less at)

      pub follow-next : (n : ℕ) (c : CapabilityEntry) (found new total : List ℕ) → first ≤ n → n < end → slice_get image.capabilities n ≡ Some c
          → new ≡ (if is_cnode_source image c.source then with_number c.source found else found) →
          fold (with_listed image cnode) found (drop n image.capabilities) ≡ total
          → fold (with_listed image cnode) new (drop (n + 1) image.capabilities) ≡ total
      follow-next n c found new total most less at put so_far =
          ap (λ (f : List ℕ). fold (with_listed image cnode) f (drop (n + 1) image.capabilities)) put
          ∙ sym (ap (λ (b : Bool). fold (with_listed image cnode) (if b && is_cnode_source image c.source then with_number c.source found else found)
          (drop (n + 1) image.capabilities))
          (eq-eqb c.cnode cnode (listed.there n c most less at)))
          ∙ sym (ap (λ (l : List CapabilityEntry). fold (with_listed image cnode) found l) (rest-next image.capabilities n c at)) ∙ so_far

      pub follow-end : (n : ℕ) (found total : List ℕ) → end ≤ n → fold (with_listed image cnode) found (drop n image.capabilities) ≡ total → found ≡ total
      follow-end n found total past so_far =
          sym (rest-idle image.capabilities n found (λ k c most at. listed.behind k c (omega (arith, past, most)) at)) ∙ so_far

  -- ---- the whole search

  abbrev sources : List ℕ
  sources = map (λ c. c.source) image.capabilities

  -- The CNodes that are found, of which the capabilities of so many have been followed.
  pub record AreFound (root done : ℕ) (found : List ℕ) : Type 0 where
    pub starts : is_member root found ≡ true
    pub apart : IsDistinct nat_eq found
    pub named : (n : ℕ) → is_member n found ≡ true → is_member n (root ∷ sources) ≡ true
    pub within : (k n : ℕ) → slice_get found k ≡ Some n → is_member n (reached_within k image (root ∷ [])) ≡ true
    pub followed : (k n : ℕ) → k < done → slice_get found k ≡ Some n → (j : ℕ) (c : CapabilityEntry) → slice_get image.capabilities j ≡ Some c → c.cnode ≡ n
        → is_cnode_source image c.source ≡ true → is_member c.source found ≡ true

  one-found : (root : ℕ) → AreFound root 0 (root ∷ [])
  unfolding reached_within
  one-found root = record {
    starts = member-at root 0 (root ∷ []) refl;
    apart = IsDistinct-from_apart nat_eq (root ∷ []) (λ i j d less inside. absurd (omega (arith, less, inside)));
    named = λ n there. elim (or_cases (n == root) false there) [
      | inl here ↦ or_left (n == root) (is_member n sources) here
      | inr past ↦ absurd (false≢true past)
    ];
    within = λ k n at. start k n at;
    followed = λ k n less at. absurd (omega (arith, less));
  }
    where
      start : (k n : ℕ) → slice_get (root ∷ []) k ≡ Some n → is_member n (reached_within k image (root ∷ [])) ≡ true
      start zero n at = member-at n 0 (root ∷ []) at
      start (suc k) n at = absurd (none-some n at)

  pub none-followed : (root : ℕ) (empty found : List ℕ) → empty ≡ [] → found ≡ with_number root empty → AreFound root 0 found
  none-followed root empty found none put =
      let start : found ≡ root ∷ [] = put ∙ ap (λ (e : List ℕ). with_number root e) none in
      subst (λ (l : List ℕ). AreFound root 0 l) (sym start) (one-found root)

  pub one-followed : (root place cnode : ℕ) (old new : List ℕ) → slice_get old place ≡ Some cnode → new ≡ fold (with_listed image cnode) old image.capabilities
      → AreFound root place old → AreFound root (place + 1) new
  one-followed root place cnode old new at put found = subst (λ (l : List ℕ). AreFound root (place + 1) l) (sym put) all
    where
      grown : IsGrown cnode old (fold (with_listed image cnode) old image.capabilities)
      grown = all-grown cnode old found.apart

      there-still : (n : ℕ) → is_member n old ≡ true → is_member n (fold (with_listed image cnode) old image.capabilities) ≡ true
      there-still n there = let place = member-place n old there in member-at n place.0 _ (grown.stays place.0 n place.1)

      all : AreFound root (place + 1) (fold (with_listed image cnode) old image.capabilities)
      all = record {
        starts = there-still root found.starts;
        apart = grown.apart;
        named = λ n there.
            let here = member-place n _ there in
            elim (grown.fresh here.0 n here.1) [
              | inl before ↦ found.named n (member-at n here.0 old before)
              | inr new ↦
                  let by = new.1 in
                  or_right (n == root) (is_member n sources)
                  (member-at n by.place sources (key-at (λ c. c.source) image.capabilities by.place by.entry by.there ∙ ap (λ (m : ℕ). Some m) (sym by.is)))
            ];
        within = λ k n here. elim (grown.fresh k n here) [
          | inl before ↦ found.within k n before
          | inr new ↦
              let by = new.1 in
              let past = new.0 in
              let inside = slice_get_within old place cnode at in
              let reached_cnode : is_member by.entry.cnode (reached_within place image (root ∷ [])) ≡ true =
              ap (λ (m : ℕ). is_member m (reached_within place image (root ∷ []))) by.listed ∙ found.within place cnode at in
              let reached_source : is_member n (reached_within (suc place) image (root ∷ [])) ≡ true =
              ap (λ (m : ℕ). is_member m (reached_within (suc place) image (root ∷ []))) by.is
              ∙ ap (λ (l : List ℕ). is_member by.entry.source l) (last-outside place (root ∷ []))
              ∙ round-puts (reached_within place image (root ∷ [])) by.place by.entry by.there by.leads reached_cnode in
              within-more n (suc place) k (root ∷ []) (omega (arith, past, inside)) reached_source
        ];
        followed = λ k n less here j c there listed leads. elim (cases_lt k place) [
          | inl before ↦
              let inside = slice_get_within old place cnode at in
              elim (grown.fresh k n here) [
                | inl old_one ↦ there-still c.source (found.followed k n before old_one j c there listed leads)
                | inr new ↦ absurd (let past = new.0 in omega (arith, past, inside, before))
              ]
          | inr last ↦
              let same : k ≡ place = omega (arith, less, last) in
              let one : n ≡ cnode = same_Some n cnode (sym here ∙ ap (slice_get (fold (with_listed image cnode) old image.capabilities)) same
              ∙ grown.stays place cnode at) in
              all-put cnode old j c there (listed ∙ one) leads
        ];
      }

  -- there are not more CNodes than capabilities, but for the root
  pub few-found : (root done : ℕ) (found : List ℕ) → AreFound root done found → length found ≤ length image.capabilities + 1
  few-found root done found is =
      let few = length-le_from_is_member numbers found (root ∷ sources) is.apart is.named in
      let many = length-map image.capabilities (λ c. c.source) in
      omega (arith, few, many)

  pub all-reached : (t : Thread) (root done : ℕ) (found : List ℕ) → root ≡ t.header.cnode → length found ≤ done → AreFound root done found → (n : ℕ) →
      is_member n found ≡ is_member n (reached image t)
  unfolding reached
  all-reached t root done found same most is n =
      same-bool (is_member n found) (is_member n (reached_within (length image.capabilities) image (root ∷ [])))
      (λ there.
      let here = member-place n found there in
      let inside = slice_get_within found here.0 n here.1 in
      let few = few-found root done found is in
      within-more n here.0 (length image.capabilities) (root ∷ []) (omega (arith, inside, few)) (is.within here.0 n here.1))
      (rounds-inside found closed (length image.capabilities) (root ∷ []) starts n)
      ∙ ap (λ (r : ℕ). is_member n (reached_within (length image.capabilities) image (r ∷ []))) same
    where
      closed : IsClosed found
      closed k c at there leads =
          let here = member-place c.cnode found there in
          let inside = slice_get_within found here.0 c.cnode here.1 in
          is.followed here.0 c.cnode (omega (arith, inside, most)) here.1 k c at refl leads

      starts : IsPartOf found (root ∷ [])
      starts m there = elim (or_cases (m == root) false there) [
        | inl here ↦ ap (λ (r : ℕ). is_member r found) (eqb-true m root here) ∙ is.starts
        | inr past ↦ absurd (false≢true past)
      ]
