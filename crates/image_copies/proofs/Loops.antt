-- Loops that copy a list: what was made, with what is left, is the whole.
use Rattle.std.proofs.Common.{ℕ, suc, ◌≡◌, ◌∙◌, ◌+◌, ◌<◌, ◌≤◌, List, [], ◌∷◌, ◌++◌, All, length, take, get_or, sym, ap, subst, arith, add-one}
use Rattle.std.proofs.Common.{append-nil, append_assoc, take-suc, take_all}

module _ {A : Type 0} (whole : List A) where
  pub copied-next : (xs rest made after : List A) (x : A) → xs ≡ x ∷ rest → after ≡ made ++ x ∷ [] → made ++ xs ≡ whole → after ++ rest ≡ whole
  copied-next xs rest made after x parts is so_far =
      ap (λ (l : List A). l ++ rest) is ∙ append_assoc made (x ∷ []) rest ∙ ap (λ (l : List A). made ++ l) (sym parts) ∙ so_far

  pub copied-all : (xs made : List A) → xs ≡ [] → made ++ xs ≡ whole → made ≡ whole
  copied-all xs made none so_far = sym (append-nil made) ∙ ap (λ (l : List A). made ++ l) (sym none) ∙ so_far

-- of a list that is the whole, before anything is copied
module _ {A : Type 0} (P : A → Type 0) (whole xs made : List A) (none : made ≡ []) (is : xs ≡ whole) where
  pub copied-none : All P whole → (made ++ xs ≡ whole) × All P xs
  copied-none all = (ap (λ (l : List A). l ++ xs) none ∙ is, subst (λ (l : List A). All P l) (sym is) all)

-- of what is left the first one, and the others
module _ {A : Type 0} (P : A → Type 0) (xs rest : List A) (x : A) (parts : xs ≡ x ∷ rest) (all : All P xs) where
  pub first-of : P x
  first-of = (subst (λ (l : List A). All P l) parts all) 0 x (omega arith)

  pub others-of : All P rest
  others-of = λ k d lt. (subst (λ (l : List A). All P l) parts all) (suc k) d (omega (arith, lt))

-- words by their numbers
pub word-next : (words made after : List ℕ) (i x : ℕ) → i < length words → x ≡ get_or words i 0 → made ≡ take i words → after ≡ made ++ x ∷ [] →
    after ≡ take (i + 1) words
word-next words made after i x lt is so_far put =
    let longer : take (i + 1) words ≡ take i words ++ x ∷ [] =
    rw (add-one i) (take-suc words i 0 lt ∙ ap (λ (w : ℕ). take i words ++ w ∷ []) (sym is)) in
    put ∙ ap (λ (l : List ℕ). l ++ x ∷ []) so_far ∙ sym longer

pub words-all : (words made : List ℕ) (i : ℕ) → length words ≤ i → made ≡ take i words → made ≡ words
words-all words made i le so_far = so_far ∙ take_all i words le
