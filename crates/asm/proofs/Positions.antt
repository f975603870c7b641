-- The place of an entry, or after all.
use Rattle.std.specs.Prelude.{position, nat_lt, not}
use Rattle.std.proofs.Common.{◌≡◌, ℕ, Bool, true, false, cond, List, length, Some, None, refl, arith}
use Rattle.std.specs.List.{position_or_len}
use Rattle.std.proofs.lemmas.Bool.{ltb-false}
use Rattle.std.proofs.lemmas.List.Sums.{prefix_len-le-length}
use Rattle.std.proofs.lemmas.Option.{same_Some}

pub found-at : {E : Type 0} (p : E → Bool) (xs : List E) (place : ℕ) → Some place ≡ position p xs → place ≡ position_or_len p xs
found-at p xs place e = by (nat_lt (position_or_len p xs) (length xs)) e
  where
    by : (b : Bool) → Some place ≡ cond b (Some (position_or_len p xs)) None → place ≡ position_or_len p xs
    by true h = same_Some place (position_or_len p xs) h
    by false h = absurd (let no : Some place ≡ None = h in cc)

pub found-nowhere : {E : Type 0} (p : E → Bool) (xs : List E) → None ≡ position p xs → length xs ≡ position_or_len p xs
found-nowhere p xs e = by (nat_lt (position_or_len p xs) (length xs)) refl e
  where
    by : (b : Bool) → nat_lt (position_or_len p xs) (length xs) ≡ b → None ≡ cond b (Some (position_or_len p xs)) None → length xs ≡ position_or_len p xs
    by true q h = absurd (let no : None ≡ Some (position_or_len p xs) = h in cc)
    by false q h = omega (arith, ltb-false _ _ q, prefix_len-le-length (λ x. not (p x)) xs)
