-- Two slots change places: names go there and back as before.
use Rattle.std.proofs.Common.{ℕ, ◌≡◌, ◌∙◌, ◌==◌, inl, inr, true, false, cond, if◌then◌else◌, is_some, Option, Some, None, List, refl, sym, ap, arith}
use Rattle.std.specs.Map.{lookup}
use Rattle.std.specs.Option.{option_map_or}
use Rattle.std.specs.Ordering.{is_eq, nat_cmp}
use Rattle.std.proofs.lemmas.Bool.{eq-eqb, ne_eqb}
use Rattle.std.proofs.lemmas.Bool.Decides.{eqb_tells, nat_tests}
use Rattle.typestate.specs.Names.{renamed, turned_number}

-- ---- what a map holds

eq-test : (a b : ℕ) → is_eq (nat_cmp a b) ≡ (b == a)
eq-test a b = grind (arith, nat_tests)

abbrev at : List (ℕ × ℕ) → ℕ → Option ℕ
at entries n = lookup (λ k. is_eq (nat_cmp n k)) entries

-- what stands for itself may be noted
pub held-same : (old new : List (ℕ × ℕ)) (number n : ℕ) → at old number ≡ None → at new n ≡ cond (is_eq (nat_cmp number n)) (Some number) (at old n) →
    renamed new n ≡ renamed old n
held-same old new number n none put = elim (eqb_tells n number) [
  | inl same ↦
      ap (λ o. option_map_or (λ (m : ℕ). m) o n) (put ∙ ap (λ b. cond b (Some number) (at old n)) (eq-test number n ∙ same.0)) ∙ sym same.1
      ∙ sym (ap (λ o. option_map_or (λ (m : ℕ). m) o n) (ap (at old) same.1 ∙ none))
  | inr other ↦ ap (λ o. option_map_or (λ (m : ℕ). m) o n) (put ∙ ap (λ b. cond b (Some number) (at old n)) (eq-test number n ∙ other.0))
]

pub held-kept : (old new : List (ℕ × ℕ)) (number value n : ℕ) → at new n ≡ cond (is_eq (nat_cmp number n)) (Some value) (at old n) → is_some (at old n) ≡ true →
    is_some (at new n) ≡ true
held-kept old new number value n put is = ap is_some put
    ∙ (elim (is_eq (nat_cmp number n)) as (λ b. is_some (cond b (Some value) (at old n)) ≡ true) [ true ↦ refl | false ↦ is ])

pub same-inverse : (there back there2 back2 : ℕ → ℕ) → ((n : ℕ) → there2 n ≡ there n) → ((n : ℕ) → back2 n ≡ back n) →
    ((n : ℕ) → (there (back n) ≡ n) × (back (there n) ≡ n))
    → (n : ℕ) → (there2 (back2 n) ≡ n) × (back2 (there2 n) ≡ n)
same-inverse there back there2 back2 one other inverse n =
    (one (back2 n) ∙ ap there (other n) ∙ (inverse n).0, other (there2 n) ∙ ap back (one n) ∙ (inverse n).1)

-- ---- two slots

module _ (there back there2 back2 : ℕ → ℕ) (one other : ℕ) (first : (n : ℕ) → there (back n) ≡ n) (second : (n : ℕ) → back (there n) ≡ n)
    (set : (n : ℕ) → there2 n ≡ (if back other == n then one else if back one == n then other else there n))
    (put : (n : ℕ) → back2 n ≡ (if other == n then back one else if one == n then back other else back n)) where
  at-other : there2 (back other) ≡ one
  at-other = set (back other) ∙ ap (λ b. if b then one else if back one == back other then other else there (back other))
      (eq-eqb (back other) (back other) refl)

  -- the name of the one goes to the other, where they are the same too
  at-one : there2 (back one) ≡ other
  at-one = set (back one) ∙ (elim (eqb_tells (back other) (back one)) [
    | inl same ↦
        let is : one ≡ other = sym (first one) ∙ ap there (sym same.1) ∙ first other in
        ap (λ b. if b then one else if back one == back one then other else there (back one)) same.0 ∙ is
    | inr apart ↦
        ap (λ b. if b then one else if back one == back one then other else there (back one)) apart.0
        ∙ ap (λ b. if b then other else there (back one)) (eq-eqb (back one) (back one) refl)
  ])

  elsewhere : (n : ℕ) → (back other == n) ≡ false → (back one == n) ≡ false → there2 n ≡ there n
  elsewhere n off away = set n ∙ ap (λ b. if b then one else if back one == n then other else there n) off ∙ ap (λ b. if b then other else there n) away

  -- where neither stands
  neither : (n m : ℕ) → (back n == m) ≡ false → (there m == n) ≡ false
  neither n m off = elim (eqb_tells (there m) n) [
    | inl same ↦ absurd (let clash : true ≡ false = sym (eq-eqb (back n) m (ap back (sym same.1) ∙ second m)) ∙ off in cc)
    | inr apart ↦ apart.0
  ]

  pub turned-there : (n : ℕ) → there2 n ≡ turned_number one other (there n)
  turned-there n = elim (eqb_tells (back other) n) [
    | inl here ↦
        let is : there n ≡ other = ap there (sym here.1) ∙ first other in
        ap there2 (sym here.1) ∙ at-other ∙ sym (ap (turned_number one other) is ∙ last)
    | inr off ↦ elim (eqb_tells (back one) n) [
      | inl here ↦
          let is : there n ≡ one = ap there (sym here.1) ∙ first one in
          ap there2 (sym here.1) ∙ at-one ∙ sym (ap (turned_number one other) is
          ∙ ap (λ b. if b then other else if one == other then one else one) (eq-eqb one one refl))
      | inr away ↦
          elsewhere n off.0 away.0
          ∙ sym (ap (λ b. if b then other else if there n == other then one else there n) (neither one n away.0)
          ∙ ap (λ b. if b then one else there n) (neither other n off.0))
    ]
  ]
    where
      last : turned_number one other other ≡ one
      last = elim (eqb_tells other one) [
        | inl same ↦ ap (λ b. if b then other else if other == other then one else other) same.0 ∙ same.1
        | inr apart ↦ ap (λ b. if b then other else if other == other then one else other) apart.0
            ∙ ap (λ b. if b then one else other) (eq-eqb other other refl)
      ]

  back-first : (n : ℕ) → there2 (back2 n) ≡ n
  back-first n = elim (eqb_tells other n) [
    | inl here ↦ ap there2 (put n ∙ ap (λ b. if b then back one else if one == n then back other else back n) here.0) ∙ at-one ∙ here.1
    | inr off ↦ elim (eqb_tells one n) [
      | inl here ↦ ap there2 (put n ∙ ap (λ b. if b then back one else if one == n then back other else back n) off.0
          ∙ ap (λ b. if b then back other else back n) here.0) ∙ at-other ∙ here.1
      | inr away ↦
          ap there2 (put n ∙ ap (λ b. if b then back one else if one == n then back other else back n) off.0
          ∙ ap (λ b. if b then back other else back n) away.0)
          ∙ elsewhere (back n) (names-apart other n off.1) (names-apart one n away.1) ∙ first n
    ]
  ]
    where
      names-apart : (a b : ℕ) → (a ≡ b → ⊥) → (back a == back b) ≡ false
      names-apart a b apart = ne_eqb (back a) (back b) (λ same. apart (sym (first a) ∙ ap there same ∙ first b))

  back-second : (n : ℕ) → back2 (there2 n) ≡ n
  back-second n = elim (eqb_tells (back other) n) [
    | inl here ↦ ap back2 (ap there2 (sym here.1) ∙ at-other) ∙ put one ∙ (elim (eqb_tells other one) [
      | inl same ↦ ap (λ b. if b then back one else if one == one then back other else back one) same.0 ∙ ap back (sym same.1) ∙ here.1
      | inr apart ↦ ap (λ b. if b then back one else if one == one then back other else back one) apart.0
          ∙ ap (λ b. if b then back other else back one) (eq-eqb one one refl) ∙ here.1
    ])
    | inr off ↦ elim (eqb_tells (back one) n) [
      | inl here ↦ ap back2 (ap there2 (sym here.1) ∙ at-one) ∙ put other
          ∙ ap (λ b. if b then back one else if one == other then back other else back other) (eq-eqb other other refl) ∙ here.1
      | inr away ↦
          ap back2 (elsewhere n off.0 away.0) ∙ put (there n)
          ∙ ap (λ b. if b then back one else if one == there n then back other else back (there n)) (turned (there n) other (neither other n off.0))
          ∙ ap (λ b. if b then back other else back (there n)) (turned (there n) one (neither one n away.0)) ∙ second n
    ]
  ]
    where
      turned : (a b : ℕ) → (a == b) ≡ false → (b == a) ≡ false
      turned a b off = elim (eqb_tells b a) [
        | inl same ↦ absurd (let clash : true ≡ false = sym (eq-eqb a b (sym same.1)) ∙ off in cc)
        | inr apart ↦ apart.0
      ]

  pub still-inverse : (n : ℕ) → (there2 (back2 n) ≡ n) × (back2 (there2 n) ≡ n)
  still-inverse n = (back-first n, back-second n)
