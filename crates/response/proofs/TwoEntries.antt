-- A sum over a list of which one entry falls, and another one may grow.
use Rattle.std.proofs.Common.{ℕ, zero, suc, ◌≡◌, ◌≢◌, ◌==◌, ◌+◌, ◌<◌, ◌≤◌, inl, inr, Bool, if◌then◌else◌, List, [], ◌∷◌, map, length, get_or, refl}
use Rattle.std.proofs.Common.{sym, ap, subst, arith}
use Rattle.std.specs.Prelude.{Contains}
use Rattle.std.specs.List.{range_with_len}
use Rattle.std.proofs.lemmas.Bool.Decides.{eqb_tells}
use Rattle.model.specs.Shared.Lists.{times_in}
use Rattle.response.specs.Left.{total}
use Rattle.response.proofs.Costs.{total-less}
use Rattle.response.proofs.Sums.{changed-once, further}

-- ---- one falls

falls-there : {A : Type 0} (f g : A → ℕ) (xs : List A) (t : A) (n k : ℕ) → k < length xs → get_or xs k t ≡ t → ((x : A) → Contains xs x → g x ≤ f x)
    → g t + n ≤ f t → total g xs + n ≤ total f xs
falls-there f g [] t n k inside is less falls = absurd (omega (arith, inside))
falls-there f g (x ∷ xs) t n zero inside is less falls =
    let here : g x + n ≤ f x = subst (λ y. g y + n ≤ f y) (sym is) falls in
    let rest = total-less g f xs (λ y at. less y (further x y xs at)) in
    omega (arith, here, rest)
falls-there f g (x ∷ xs) t n (suc k) inside is less falls =
    let first = less x (0, omega arith, refl) in
    let rest = falls-there f g xs t n k (omega (arith, inside)) is (λ y at. less y (further x y xs at)) falls in
    omega (arith, first, rest)

pub falls-by : {A : Type 0} (f g : A → ℕ) (xs : List A) (t : A) (n : ℕ) → Contains xs t → ((x : A) → Contains xs x → g x ≤ f x) → g t + n ≤ f t
    → total g xs + n ≤ total f xs
falls-by f g xs t n at less falls = falls-there f g xs t n at.0 at.1 at.2 less falls

-- ---- and one grows, which may be the same

module _ {A : Type 0} (key : A → ℕ) (f g : A → ℕ) (place more n : ℕ) where
  abbrev h : A → ℕ
  h u = if key u == place then f u + more else f u

  here-is : (u : A) → key u ≡ place → h u ≡ f u + more
  here-is u here = elim (eqb_tells (key u) place) [
    | inl same ↦ ap (λ (b : Bool). if b then f u + more else f u) same.0
    | inr apart ↦ absurd (apart.1 here)
  ]

  there-is : (u : A) → key u ≢ place → h u ≡ f u
  there-is u there = elim (eqb_tells (key u) place) [
    | inl same ↦ absurd (there same.1)
    | inr apart ↦ ap (λ (b : Bool). if b then f u + more else f u) apart.0
  ]

  within : (u : A) → (key u ≢ place → g u ≤ f u) → (key u ≡ place → g u ≤ f u + more) → g u ≤ h u
  within u less grows = elim (eqb_tells (key u) place) [
    | inl same ↦ (let e = here-is u same.1 in let more_ = grows same.1 in omega (arith, e, more_))
    | inr apart ↦ (let e = there-is u apart.1 in let less_ = less apart.1 in omega (arith, e, less_))
  ]

  pub moves : (xs : List A) (t : A) → Contains xs t → ((u : A) → Contains xs u → key u ≢ place → g u ≤ f u)
      → ((u : A) → Contains xs u → key u ≡ place → g u ≤ f u + more) → (key t ≢ place → g t + n ≤ f t) → (key t ≡ place → g t + n ≤ f t + more)
      → times_in (map key xs) place ≤ 1 → total g xs + n ≤ total f xs + more
  moves xs t at less grows falls moved once =
      let below = changed-once key f h place more xs
      (λ u _ apart. let e = there-is u apart in omega (arith, e)) (λ u _ here. let e = here-is u here in omega (arith, e)) once in
      let own : g t + n ≤ h t = (elim (eqb_tells (key t) place) [
        | inl same ↦ (let e = here-is t same.1 in let m = moved same.1 in omega (arith, e, m))
        | inr apart ↦ (let e = there-is t apart.1 in let m = falls apart.1 in omega (arith, e, m))
      ]) in
      let all = falls-by h g xs t n at (λ u among. within u (less u among) (grows u among)) own in
      omega (arith, below, all)

-- ---- numbers one after another

pub range-has : (from count x : ℕ) → from ≤ x → x < from + count → Contains (range_with_len from count) x
range-has from zero x low high = absurd (omega (arith, low, high))
range-has from (suc count) x low high = elim (eqb_tells from x) [
  | inl here ↦ (0, omega arith, here.1)
  | inr apart ↦ (let differs = apart.1 in further from x (range_with_len (from + 1) count)
      (range-has (from + 1) count x (omega (arith, low, differs)) (omega (arith, high))))
]

pub line-among : (x : ℕ) → x < 64 → Contains (range_with_len 0 64) x
line-among x less = range-has 0 64 x (omega arith) (omega (arith, less))
