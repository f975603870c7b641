-- The words that a call lists are the first of those that come along.
use Rattle.std.proofs.Common.{ℕ, zero, suc, ◌≡◌, ◌<◌, ◌≤◌, List, [], ◌∷◌, map, length, take, refl, ap, arith}
use Rattle.model.specs.declared.instructions.Register.{Register}
use Rattle.model.specs.Kernel.CallForms.{word}

module _ (f : Register → ℕ) where
  -- a word that is among the first of both is the same word
  pub first-words : (xs : List Register) (n m i : ℕ) → i < n → i < m → word (map f (take n xs)) i ≡ word (map f (take m xs)) i
  first-words xs zero m i in_n in_m = absurd (omega (arith, in_n))
  first-words xs (suc n) zero i in_n in_m = absurd (omega (arith, in_m))
  first-words [] (suc n) (suc m) i in_n in_m = refl
  first-words (x ∷ xs) (suc n) (suc m) zero in_n in_m = refl
  first-words (x ∷ xs) (suc n) (suc m) (suc i) in_n in_m = first-words xs n m i (omega (arith, in_n)) (omega (arith, in_m))

  -- as many words come along as are read
  pub words-taken : (xs : List Register) (n : ℕ) → n ≤ length xs → length (map f (take n xs)) ≡ n
  words-taken xs zero less = refl
  words-taken [] (suc n) less = absurd (omega (arith, less))
  words-taken (x ∷ xs) (suc n) less = ap suc (words-taken xs n (omega (arith, less)))
