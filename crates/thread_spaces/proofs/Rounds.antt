-- Rounds over the listed capabilities: each finds CNodes after those that are found, and what finds none is the last.
use Rattle.std.proofs.Common.{ℕ, zero, suc, ◌≡◌, ◌∙◌, ◌+◌, ◌-◌, ◌<◌, ◌≤◌, ◌⊎◌, inl, inr, ◌&&◌, ◌||◌, drop, Bool, true, false, not, if◌then◌else◌, Some, None}
use Rattle.std.proofs.Common.{List, [], ◌∷◌, ◌++◌, length, refl, sym, ap, subst, arith}
use Rattle.std.specs.Prelude.{fold, is_some, nat_eq, slice_get}
use Rattle.std.proofs.lemmas.Option.{none-some, same_Some}
use Rattle.std.proofs.lemmas.Bool.{eq-eqb, eqb-true, or_cases, or_left, or_right}
use Rattle.model.specs.declared.entries.CapabilityEntry.{CapabilityEntry}
use Rattle.model.specs.Acceptance.ThreadRules.{is_cnode_source, is_member, reached, reached_within, with_named}
use Rattle.model.specs.Acceptance.WellFormed.{radix_of}
use Rattle.model.specs.Images.Image.{Image, Thread}
use Rattle.model.specs.Images.Places.{is_handler, type_at}

module _ (image : Image) where
  pub last-round : (rounds : ℕ) (found : List ℕ) → fold (with_named image) found image.capabilities ≡ found → reached_within rounds image found ≡ found
  unfolding reached_within
  last-round zero found same = refl
  last-round (suc rounds) found same = ap (reached_within rounds image) same ∙ last-round rounds found same

  pub one-round : (rounds : ℕ) (found : List ℕ) → reached_within (suc rounds) image found ≡ reached_within rounds image
      (fold (with_named image) found image.capabilities)
  unfolding reached_within
  one-round rounds found = refl

  pub no-round : (found : List ℕ) → reached_within 0 image found ≡ found
  unfolding reached_within
  no-round found = refl

  -- ---- what is found are CNodes

  abbrev pub IsRadixed : ℕ → Type 0
  IsRadixed number = is_some (radix_of (type_at image number)) ≡ true

  abbrev AreCNodes : List ℕ → Type 0
  AreCNodes found = (number : ℕ) → is_member number found ≡ true → IsRadixed number

  pub member-cases : (number : ℕ) (found : List ℕ) (more : ℕ) → is_member number (found ++ more ∷ []) ≡ true → (is_member number found ≡ true) ⊎ (number ≡ more)
  member-cases number [] more is = elim (or_cases (nat_eq number more) false is) [
    | inl same ↦ inr (eqb-true number more same)
    | inr none ↦ absurd (let clash : false ≡ true = none in cc)
  ]
  member-cases number (x ∷ rest) more is = elim (or_cases (nat_eq number x) (is_member number (rest ++ more ∷ [])) is) [
    | inl same ↦ inl (ap (λ b. b || is_member number rest) same)
    | inr later ↦ elim (member-cases number rest more later) [
      | inl before ↦ inl (or-second (nat_eq number x) (is_member number rest) before)
      | inr last ↦ inr last
    ]
  ]
    where
      or-second : (a b : Bool) → b ≡ true → (a || b) ≡ true
      or-second true b is = refl
      or-second false b is = is

  source-radixed : (source : ℕ) → is_cnode_source image source ≡ true → IsRadixed source
  source-radixed source is =
      elim (is_handler image source) as (λ b. is_some (radix_of (if b then None else type_at image source)) ≡ true → IsRadixed source) [
        | true ↦ λ clash. absurd (let no : false ≡ true = clash in cc)
        | false ↦ λ there. there
      ] is

  cnodes-one : (found : List ℕ) (c : CapabilityEntry) → AreCNodes found → AreCNodes (with_named image found c)
  cnodes-one found c are =
      elim (is_member c.cnode found && is_cnode_source image c.source && not (is_member c.source found)) as
      (λ b. (is_member c.cnode found && is_cnode_source image c.source && not (is_member c.source found)) ≡ b →
      AreCNodes (if b then found ++ c.source ∷ [] else found)) [
        | true ↦ λ is number there. elim (member-cases number found c.source there) [
          | inl before ↦ are number before
          | inr same ↦ subst IsRadixed (sym same)
              (source-radixed c.source (second-of (is_member c.cnode found) (is_cnode_source image c.source) (not (is_member c.source found)) is))
        ]
        | false ↦ λ _. are
      ] refl
    where
      second-of : (a b c : Bool) → (a && b && c) ≡ true → b ≡ true
      second-of true true c is = refl
      second-of true false c is = is
      second-of false b c is = absurd (let no : false ≡ true = is in cc)

  cnodes-all : (capabilities : List CapabilityEntry) (found : List ℕ) → AreCNodes found → AreCNodes (fold (with_named image) found capabilities)
  cnodes-all [] found are = are
  cnodes-all (c ∷ rest) found are = cnodes-all rest (with_named image found c) (cnodes-one found c are)

  cnodes-within : (rounds : ℕ) (found : List ℕ) → AreCNodes found → AreCNodes (reached_within rounds image found)
  unfolding reached_within
  cnodes-within zero found are = are
  cnodes-within (suc rounds) found are = cnodes-within rounds (fold (with_named image) found image.capabilities) (cnodes-all image.capabilities found are)

  pub reached-radixed : (t : Thread) → IsRadixed t.header.cnode → (number : ℕ) → is_member number (reached image t) ≡ true → IsRadixed number
  unfolding reached
  reached-radixed t root = cnodes-within (length image.capabilities) (t.header.cnode ∷ []) (λ number is. only number is)
    where
      only : (number : ℕ) → is_member number (t.header.cnode ∷ []) ≡ true → IsRadixed number
      only number is = elim (or_cases (nat_eq number t.header.cnode) false is) [
        | inl same ↦ subst IsRadixed (sym (eqb-true number t.header.cnode same)) root
        | inr none ↦ absurd (let clash : false ≡ true = none in cc)
      ]

-- ---- what is found stays found

member-with : (xs : List ℕ) (y n : ℕ) → is_member n xs ≡ true → is_member n (xs ++ y ∷ []) ≡ true
member-with (x ∷ xs) y n there = elim (or_cases (nat_eq n x) (is_member n xs) there) [
  | inl here ↦ ap (λ b. b || is_member n (xs ++ y ∷ [])) here
  | inr later ↦ or_right (nat_eq n x) (is_member n (xs ++ y ∷ [])) (member-with xs y n later)
]
member-with [] y n there = absurd (let clash : false ≡ true = there in cc)

member-last : (xs : List ℕ) (y : ℕ) → is_member y (xs ++ y ∷ []) ≡ true
member-last [] y = or_left (nat_eq y y) false (eq-eqb y y refl)
member-last (x ∷ xs) y = or_right (nat_eq y x) (is_member y (xs ++ y ∷ [])) (member-last xs y)

module _ (image : Image) where
  pub part-one : (found : List ℕ) (c : CapabilityEntry) (n : ℕ) → is_member n found ≡ true → is_member n (with_named image found c) ≡ true
  part-one found c n there =
      elim (is_member c.cnode found && is_cnode_source image c.source && not (is_member c.source found))
      as (λ b. is_member n (if b then found ++ c.source ∷ [] else found) ≡ true) [
        | true ↦ member-with found c.source n there
        | false ↦ there
      ]

  pub named-puts : (found : List ℕ) (c : CapabilityEntry) → is_member c.cnode found ≡ true → is_cnode_source image c.source ≡ true →
      is_member c.source (with_named image found c) ≡ true
  named-puts found c there leads =
      ap (λ b. is_member c.source (if b && is_cnode_source image c.source && not (is_member c.source found) then found ++ c.source ∷ [] else found)) there
      ∙ ap (λ b. is_member c.source (if true && b && not (is_member c.source found) then found ++ c.source ∷ [] else found)) leads
      ∙ elim (is_member c.source found) as (λ b. is_member c.source found ≡ b → is_member c.source (if not b then found ++ c.source ∷ [] else found) ≡ true) [
        | true ↦ λ is. is
        | false ↦ λ _. member-last found c.source
      ] refl

-- ---- step by step

pub drop-next : {A : Type 0} (xs : List A) (n : ℕ) (x : A) → slice_get xs n ≡ Some x → drop n xs ≡ x ∷ drop (n + 1) xs
drop-next [] n x at = absurd (none-some x at)
drop-next (y ∷ ys) zero x at = ap (λ z. z ∷ ys) (same_Some y x at)
drop-next (y ∷ ys) (suc n) x at = drop-next ys n x at ∙ ap (λ (m : ℕ). x ∷ drop m (y ∷ ys)) (let next : suc (n + 1) ≡ suc n + 1 = omega arith in next)

module _ (image : Image) (t : Thread) where
  abbrev pub IsLeft : ℕ → List ℕ → Type 0
  IsLeft i found = reached_within (length image.capabilities - i) image found ≡ reached image t

  pub round-first : (root : ℕ) (before found : List ℕ) → root ≡ t.header.cnode → before ≡ [] →
      found ≡ (if is_member root before then before else before ++ root ∷ []) → IsLeft 0 found
  unfolding reached
  round-first root before found root_is none is =
      let all : length image.capabilities - 0 ≡ length image.capabilities = omega arith in
      ap (λ (n : ℕ). reached_within n image found) all
      ∙ ap (reached_within (length image.capabilities) image)
      (is ∙ ap (λ (xs : List ℕ). if is_member root xs then xs else xs ++ root ∷ []) none ∙ ap (λ (n : ℕ). let one : List ℕ = n ∷ [] in one) root_is)

  pub round-next : (i : ℕ) (found after : List ℕ) → i < length image.capabilities → after ≡ fold (with_named image) found image.capabilities → IsLeft i found →
      IsLeft (i + 1) after
  round-next i found after less is left =
      let more : length image.capabilities - i ≡ suc (length image.capabilities - (i + 1)) = omega (arith, less) in
      ap (reached_within (length image.capabilities - (i + 1)) image) is ∙ sym (one-round image (length image.capabilities - (i + 1)) found)
      ∙ ap (λ (n : ℕ). reached_within n image found) (sym more) ∙ left

  pub round-last : (i : ℕ) (found : List ℕ) → fold (with_named image) found image.capabilities ≡ found → IsLeft i found → found ≡ reached image t
  round-last i found fixed left = sym (last-round image (length image.capabilities - i) found fixed) ∙ left

  pub rounds-end : (i : ℕ) (found : List ℕ) → length image.capabilities ≤ i → IsLeft i found → found ≡ reached image t
  rounds-end i found most left =
      let none : length image.capabilities - i ≡ 0 = omega (arith, most) in
      sym (no-round image found) ∙ ap (λ (n : ℕ). reached_within n image found) (sym none) ∙ left
