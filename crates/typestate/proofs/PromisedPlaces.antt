-- What is promised first at an offset stays.
use Rattle.std.proofs.Common.{ℕ, ◌≡◌, ◌∙◌, ◌==◌, inl, inr, cond, if◌then◌else◌, Option, Some, None, List, refl, sym, ap, arith}
use Rattle.std.specs.Option.{option_or}
use Rattle.std.specs.Ordering.{is_eq, nat_cmp}
use Rattle.std.proofs.lemmas.Bool.Decides.{eqb_tells, nat_tests}
use Rattle.model.specs.Images.Image.{ImagePromise}
use Rattle.typestate.specs.Promises.{placed_at}

same-test : (a b : ℕ) → is_eq (nat_cmp a b) ≡ (a == b)
same-test a b = grind (arith, nat_tests)

or-none : (o : Option ImagePromise) → o ≡ option_or o None
or-none (Some p) = refl
or-none None = refl

-- a new one, where none was
pub placed-new : (old new : List (ℕ × ImagePromise)) (offset other : ℕ) (p : ImagePromise) → placed_at old offset ≡ None
    → placed_at new other ≡ cond (is_eq (nat_cmp offset other)) (Some p) (placed_at old other)
    → placed_at new other ≡ option_or (placed_at old other) (if offset == other then Some p else None)
placed-new old new offset other p none put = elim (eqb_tells offset other) [
  | inl same ↦
      put ∙ ap (λ b. cond b (Some p) (placed_at old other)) (same-test offset other ∙ same.0)
      ∙ sym (ap (λ (o : Option ImagePromise). option_or o (if offset == other then Some p else None)) (ap (placed_at old) (sym same.1) ∙ none)
      ∙ ap (λ b. if b then Some p else None) same.0)
  | inr apart ↦
      put ∙ ap (λ b. cond b (Some p) (placed_at old other)) (same-test offset other ∙ apart.0) ∙ or-none (placed_at old other)
      ∙ sym (ap (λ b. option_or (placed_at old other) (if b then Some p else None)) apart.0)
]

-- the one that was there
pub placed-kept : (old : List (ℕ × ImagePromise)) (offset other : ℕ) (p first : ImagePromise) → placed_at old offset ≡ Some first
    → placed_at old other ≡ option_or (placed_at old other) (if offset == other then Some p else None)
placed-kept old offset other p first some = elim (eqb_tells offset other) [
  | inl same ↦
      let here : placed_at old other ≡ Some first = ap (placed_at old) (sym same.1) ∙ some in
      here ∙ sym (ap (λ (o : Option ImagePromise). option_or o (if offset == other then Some p else None)) here)
  | inr apart ↦ or-none (placed_at old other) ∙ sym (ap (λ b. option_or (placed_at old other) (if b then Some p else None)) apart.0)
]
