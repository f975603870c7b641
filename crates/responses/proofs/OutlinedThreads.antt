-- What is asked by threads, one after another.
use Rattle.std.proofs.Common.{ℕ, ◌≡◌, ◌∙◌, ◌+◌, ◌++◌, List, [], ◌∷◌, sym, ap, subst}
use Rattle.std.proofs.lemmas.List.{append-nil, append_assoc}
use Rattle.model.specs.Images.Image.{Image, Thread}
use Rattle.responses.specs.Outlines.{AreOutlines, IsOutline}
use Rattle.responses.specs.declared.outlines.Outline.{Outline}

module _ (image : Image) where
  -- what was made, with what is made of the rest, is of all threads
  abbrev pub AreMade : List Thread → ℕ → List Thread → List Outline → Type 0
  AreMade threads number xs made = (rest : List Outline) → AreOutlines image number xs rest → AreOutlines image 0 threads (made ++ rest)

  pub made-next : (threads xs ys : List Thread) (x : Thread) (p : Outline) (number : ℕ) (made new : List Outline) → xs ≡ x ∷ ys
      → IsOutline image (record { number = number; thread = x }) p → new ≡ made ++ p ∷ [] → AreMade threads number xs made
      → AreMade threads (number + 1) ys new
  unfolding AreOutlines
  made-next threads xs ys x p number made new parts is grown so_far rest are =
      let both : AreOutlines image number (x ∷ ys) (p ∷ rest) = (is, are) in
      let here = so_far (p ∷ rest) (subst (λ (l : List Thread). AreOutlines image number l (p ∷ rest)) (sym parts) both) in
      subst (λ (l : List Outline). AreOutlines image 0 threads l)
      (sym (ap (λ (l : List Outline). l ++ rest) grown ∙ append_assoc made (p ∷ []) rest)) here

  pub made-all : (threads xs : List Thread) (number : ℕ) (made : List Outline) → xs ≡ [] → AreMade threads number xs made →
      AreOutlines image 0 threads made
  unfolding AreOutlines
  made-all threads xs number made none so_far =
      let nothing : AreOutlines image number [] [] = tt in
      subst (λ (l : List Outline). AreOutlines image 0 threads l) (append-nil made)
      (so_far [] (subst (λ (l : List Thread). AreOutlines image number l []) (sym none) nothing))

  pub made-first : (threads xs : List Thread) (made : List Outline) → xs ≡ threads → made ≡ [] → AreMade threads 0 xs made
  made-first threads xs made same none = λ rest are.
      subst (λ (l : List Outline). AreOutlines image 0 threads (l ++ rest)) (sym none)
      (subst (λ (l : List Thread). AreOutlines image 0 l rest) same are)
