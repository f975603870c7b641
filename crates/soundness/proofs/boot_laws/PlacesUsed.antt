-- How much of an untyped is used for the first objects of a list, and that it only grows.
use Rattle.std.proofs.Common.{ℕ, zero, suc, ◌≡◌, ◌≢◌, ◌==◌, ◌^◌, ◌<◌, ◌≤◌, inl, inr, true, false, if◌then◌else◌, take, pow_pos, List, [], ◌∷◌, Some, ap, arith}
use Rattle.std.specs.Prelude.{fold, slice_get}
use Rattle.std.proofs.lemmas.Bool.Decides.{eqb_tells}
use Rattle.std.proofs.lemmas.Option.{none-some, same_Some}
use Rattle.model.specs.declared.entries.ObjectEntry.{ObjectEntry}
use Rattle.model.specs.Capabilities.Placement.{align, place_of_object}
use Rattle.model.specs.Images.Places.{bits_of, used_by}

fold-more : {A B : Type 0} (f : B → A → B) (b : B) (xs : List A) (n : ℕ) (x : A) → slice_get xs n ≡ Some x →
    fold f b (take (suc n) xs) ≡ f (fold f b (take n xs)) x
fold-more f b [] n x at = absurd (none-some x at)
fold-more f b (y ∷ ys) zero x at = ap (f b) (same_Some y x at)
fold-more f b (y ∷ ys) (suc n) x at = fold-more f (f b y) ys n x at

module _ {A : Type 0} (f : ℕ → A → ℕ) (grows : (used : ℕ) (x : A) → used ≤ f used x) where
  fold-above : (used : ℕ) (xs : List A) → used ≤ fold f used xs
  fold-above used [] = omega arith
  fold-above used (x ∷ xs) = let one = grows used x in let rest = fold-above (f used x) xs in omega (arith, one, rest)

  fold-grows : (used : ℕ) (xs : List A) (n m : ℕ) → n ≤ m → fold f used (take n xs) ≤ fold f used (take m xs)
  fold-grows used xs zero m less = fold-above used (take m xs)
  fold-grows used xs (suc n) zero less = absurd (omega (arith, less))
  fold-grows used [] (suc n) (suc m) less = omega arith
  fold-grows used (x ∷ xs) (suc n) (suc m) less = fold-grows (f used x) xs n m (omega (arith, less))

-- one object more
abbrev pub used_with : ℕ → ℕ → ObjectEntry → ℕ
used_with untyped used o = if o.untyped == untyped then place_of_object used (bits_of o) 1 else used

align-behind : (place size : ℕ) → 0 < size → place ≤ align place size
align-behind place size positive = grind arith

used-with-grows : (untyped used : ℕ) (o : ObjectEntry) → used ≤ used_with untyped used o
used-with-grows untyped used o = elim (o.untyped == untyped) as (λ b. used ≤ (if b then place_of_object used (bits_of o) 1 else used)) [
  | true ↦ let behind = align-behind used (2 ^ bits_of o) (pow_pos (bits_of o)) in omega (arith, behind)
  | false ↦ omega arith
]

pub used-more : (objects : List ObjectEntry) (n untyped : ℕ) (o : ObjectEntry) → slice_get objects n ≡ Some o
    → used_by (take (suc n) objects) untyped ≡ used_with untyped (used_by (take n objects) untyped) o
unfolding used_by
used-more objects n untyped o at = fold-more (used_with untyped) 0 objects n o at

pub used-grows : (objects : List ObjectEntry) (n m untyped : ℕ) → n ≤ m → used_by (take n objects) untyped ≤ used_by (take m objects) untyped
unfolding used_by
used-grows objects n m untyped less = fold-grows (used_with untyped) (used-with-grows untyped) 0 objects n m less

-- after an object of this untyped
pub used-here : (untyped used : ℕ) (o : ObjectEntry) → o.untyped ≡ untyped → used_with untyped used o ≡ place_of_object used (bits_of o) 1
used-here untyped used o same = elim (eqb_tells o.untyped untyped) [
  | inl here ↦ ap (λ b. if b then place_of_object used (bits_of o) 1 else used) here.0
  | inr apart ↦ absurd (apart.1 same)
]

pub used-elsewhere : (untyped used : ℕ) (o : ObjectEntry) → o.untyped ≢ untyped → used_with untyped used o ≡ used
used-elsewhere untyped used o other = elim (eqb_tells o.untyped untyped) [
  | inl here ↦ absurd (other here.1)
  | inr apart ↦ ap (λ b. if b then place_of_object used (bits_of o) 1 else used) apart.0
]
