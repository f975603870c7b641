-- Distinct slots below a number are at most as many.
use Rattle.std.proofs.Common.{ℕ, suc, ◌≡◌, ◌≢◌, ◌∙◌, ◌==◌, ◌+◌, ◌<◌, ◌≤◌, inl, inr, true, false, if◌then◌else◌, ◌||◌, List, [], ◌∷◌, length, refl, sym, ap}
use Rattle.std.proofs.Common.{arith}
use Rattle.std.proofs.lemmas.Bool.Decides.{eqb_tells}
use Rattle.std.proofs.lemmas.Bool.{eq-eqb, ne_eqb}
use Rattle.std.proofs.lemmas.Map.Steps.{length-le_from_distinct_below}
use Rattle.std.specs.List.{AllByRecursion, IsDistinct, list_any}
use Rattle.model.specs.Shared.Lists.{times_in}
use Rattle.slots.specs.preorder.Preorder.{Row, rows_of, slots_of}

times-here : (x : ℕ) (rest : List ℕ) (y : ℕ) → x ≡ y → times_in (x ∷ rest) y ≡ times_in rest y + 1
times-here x rest y here = ap (λ b. if b then times_in rest y + 1 else times_in rest y) (eq-eqb x y here)

times-rest : (x : ℕ) (rest : List ℕ) (y : ℕ) → x ≢ y → times_in (x ∷ rest) y ≡ times_in rest y
times-rest x rest y other = ap (λ b. if b then times_in rest y + 1 else times_in rest y) (ne_eqb x y other)

times-less : (x : ℕ) (rest : List ℕ) (y : ℕ) → times_in rest y ≤ times_in (x ∷ rest) y
times-less x rest y = elim (eqb_tells x y) [ inl here ↦ omega (arith, times-here x rest y here.1) | inr other ↦ omega (arith, times-rest x rest y other.1) ]

all-apart : (x : ℕ) (xs : List ℕ) → times_in xs x ≡ 0 → AllByRecursion (λ y. (x == y) ≡ false) xs
all-apart x [] none = tt
all-apart x (y ∷ rest) none =
    let apart : y ≢ x = λ same. absurd (omega (arith, none, times-here y rest x same)) in
    (ne_eqb x y (λ same. apart (sym same)), all-apart x rest (let less : times_in rest x ≡ 0 = omega (arith, none, times-less y rest x) in less))

distinct : (xs : List ℕ) → ((x : ℕ) → times_in xs x ≤ 1) → IsDistinct (λ x y. x == y) xs
unfolding IsDistinct
distinct [] once = tt
distinct (x ∷ rest) once = (
  all-apart x rest (let none : times_in rest x ≡ 0 = omega (arith, once x, times-here x rest x refl) in none),
  distinct rest (λ y. omega (arith, once y, times-less x rest y)),
)

any-times : (xs : List ℕ) (q : ℕ) → list_any (λ y. q == y) xs ≡ true → 0 < times_in xs q
any-times [] q found = absurd (let clash : false ≡ true = found in cc)
any-times (x ∷ rest) q found = elim (eqb_tells q x) [
  | inl here ↦ omega (arith, times-here x rest q (sym here.1))
  | inr other ↦ omega (arith, times-less x rest q, any-times rest q (sym (ap (λ b. b || list_any (λ y. q == y) rest) other.0) ∙ found))
]

length-slots : (rows : List Row) → length (slots_of rows) ≡ length rows
length-slots [] = refl
length-slots (r ∷ rest) = ap suc (length-slots rest)

pub few-rows : (rows : List Row) (n : ℕ) → ((s : ℕ) → rows_of rows s ≤ 1) → ((s : ℕ) → 0 < rows_of rows s → s < n) → length rows ≤ n
few-rows rows n once near =
    omega (
      arith,
      length-slots rows,
      length-le_from_distinct_below (slots_of rows) n (distinct (slots_of rows) once)
          (λ q found. near q (any-times (slots_of rows) q found)),
    )
