-- Lists of what has a spelling, as a loop appends them.
use Rattle.std.proofs.Common.{◌≡◌, ℕ, suc, ◌+◌, ◌<◌, ◌≤◌, List, [], ◌∷◌, ◌++◌, length, get_or, take, sym, ap, ◌∙◌, arith, take_all}
use Rattle.std.proofs.Math.Seq.{take-suc}
use Rattle.std.proofs.lemmas.List.{flat_map_more}
use Rattle.std.specs.List.{flat_map}

-- what follows the first entries, and after one more
pub spelled-more : {A : Type 0} (spelling : A → List ℕ) (old bytes new : List ℕ) (xs : List A) (i : ℕ) (x : A) → i < length xs → x ≡ get_or xs i x
    → bytes ≡ old ++ flat_map spelling (take i xs) → new ≡ bytes ++ spelling x → new ≡ old ++ flat_map spelling (take (i + 1) xs)
spelled-more {A} spelling old bytes new xs i x less here before last =
    let one : i + 1 ≡ suc i = omega arith in
    let front : take (i + 1) xs ≡ take i xs ++ x ∷ [] = ap (λ (k : ℕ). take k xs) one ∙ take-suc xs i x less ∙ ap (λ (y : A). take i xs ++ y ∷ []) (sym here) in
    last ∙ ap (λ (l : List ℕ). l ++ spelling x) before ∙ flat_map_more spelling old (take i xs) x ∙ ap (λ (l : List A). old ++ flat_map spelling l) (sym front)

-- with no entry left all of them are there
pub spelled-all : {A : Type 0} (spelling : A → List ℕ) (old bytes : List ℕ) (xs : List A) (i : ℕ) → length xs ≤ i
    → bytes ≡ old ++ flat_map spelling (take i xs) → bytes ≡ old ++ flat_map spelling xs
spelled-all {A} spelling old bytes xs i none before = before ∙ ap (λ (l : List A). old ++ flat_map spelling l) (take_all i xs none)
