-- Entries of a section that fits its format: each one fits after those before it.
use Rattle.std.proofs.Common.{◌≡◌, ℕ, ◌+◌, ◌-◌, ◌≤◌, zero, suc, Bool, true, false, List, [], ◌∷◌, ◌++◌, length, refl, ap, ◌∙◌, arith, lt-ltb}
use Rattle.std.specs.Prelude.{slice_get, nat_lt}
use Rattle.std.specs.Option.{option_map_or}
use Rattle.std.proofs.lemmas.Bool.{and_parts}
use Rattle.model.specs.Images.Format.{Format, many_fit}
use Rattle.asm.specs.Keys.{is_behind}

-- the least key behind these entries
abbrev pub least_behind : {A : Type 0} → (A → ℕ) → ℕ → List A → ℕ
least_behind next least [] = least
least_behind next least (x ∷ xs) = least_behind next (next x) xs

pub many-at : {A : Type 0} (format : ℕ → Format A) (next : A → ℕ) (least count : ℕ) (front : List A) (e : A) (rest : List A)
    → many_fit format next least count (front ++ e ∷ rest) ≡ true → (format (least_behind next least front)).fits e ≡ true
unfolding many_fit
many-at format next least zero [] e rest is = absurd (let clash : false ≡ true = is in cc)
many-at format next least zero (x ∷ xs) e rest is = absurd (let clash : false ≡ true = is in cc)
many-at format next least (suc n) [] e rest is = (and_parts ((format least).fits e) (many_fit format next (next e) n rest) is).0
many-at format next least (suc n) (x ∷ xs) e rest is =
    many-at format next (next x) n xs e rest (and_parts ((format least).fits x) (many_fit format next (next x) n (xs ++ e ∷ rest)) is).1

-- what holds of each entry whose next key is not above this one holds of the last entry
pub last-passes : {A : Type 0} (next : A → ℕ) (test : A → Bool) (k : ℕ) → ((x : A) → next x ≤ k → test x ≡ true)
    → (least : ℕ) (front : List A) → least_behind next least front ≤ k → option_map_or test (slice_get front (length front - 1)) true ≡ true
last-passes next test k passes least [] low = refl
last-passes next test k passes least (x ∷ []) low = passes x low
last-passes next test k passes least (x ∷ y ∷ ys) low =
    let last : length (x ∷ y ∷ ys) - 1 ≡ suc (length (y ∷ ys) - 1) = omega arith in
    ap (λ i. option_map_or test (slice_get (x ∷ y ∷ ys) i) true) last ∙ last-passes next test k passes (next x) (y ∷ ys) low

pub is-behind : {A : Type 0} (key : A → ℕ) (k least : ℕ) (front : List A) → least_behind (λ x. key x + 1) least front ≤ k → is_behind key k front ≡ true
is-behind key k least front low = last-passes (λ x. key x + 1) (λ entry. nat_lt (key entry) k) k (λ x h. lt-ltb (key x) k (omega (arith, h))) least front low
