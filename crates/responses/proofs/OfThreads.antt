-- What is asked by the threads of an image says what their sums and tests are.
use Rattle.std.proofs.Common.{ℕ, suc, ◌≡◌, ◌∙◌, ◌+◌, ◌||◌, Bool, true, false, Some, List, [], ◌∷◌, map, refl, ap, subst, arith}
use Rattle.std.specs.Prelude.{Contains, slice_get}
use Rattle.std.specs.List.{enumerate_from, list_all, list_any}
use Rattle.std.specs.Option.{option_map_or}
use Rattle.std.proofs.lemmas.Bool.{and_parts}
use Rattle.model.specs.Images.Described.{Numbered, numbered_threads}
use Rattle.model.specs.Images.Image.{Image, Thread}
use Rattle.response.specs.Left.{total}
use Rattle.responses.proofs.Lists.{both-true}
use Rattle.responses.specs.Outlines.{AreOutlines, IsOutline, place_at, place_in}
use Rattle.responses.specs.declared.outlines.Outline.{Outline}

abbrev pub threads_from : ℕ → List Thread → List Numbered
threads_from n threads = map (λ (t : ℕ × Thread). let u : Numbered = record { number = t.0; thread = t.1 } in u) (enumerate_from n threads)

-- the outline of the thread, which is found by the thread's number
pub record IsAt (image : Image) (programs : List Outline) (t : Numbered) (p : Outline) : Type 0 where
  pub is : IsOutline image t p
  pub there : slice_get programs t.number ≡ Some p

-- the run of a point of it
pub place-is : (image : Image) (programs : List Outline) (t : Numbered) (p : Outline) → IsAt image programs t p → (point : ℕ)
    → place_in programs t.number point ≡ place_at p point
place-is image programs t p at point = ap (λ o. option_map_or (λ (q : Outline). place_at q point) o 0) at.there

module _ (image : Image) (programs : List Outline) where
  -- these are the last of them
  abbrev AreLast : ℕ → List Outline → Type 0
  AreLast n last = (k : ℕ) (p : Outline) → slice_get last k ≡ Some p → slice_get programs (n + k) ≡ Some p

  later : (n : ℕ) (p : Outline) (last : List Outline) → AreLast n (p ∷ last) → AreLast (n + 1) last
  later n p last are k q at =
      let same : n + suc k ≡ n + 1 + k = omega arith in subst (λ m. slice_get programs m ≡ Some q) same (are (suc k) q at)

  here : (n : ℕ) (t : Thread) (p : Outline) (last : List Outline) → AreLast n (p ∷ last) → IsOutline image (record { number = n; thread = t }) p
      → IsAt image programs (record { number = n; thread = t }) p
  here n t p last are is = record {
    is = is;
    there = let same : n + 0 ≡ n = omega arith in subst (λ m. slice_get programs m ≡ Some p) same (are 0 p refl);
  }

  first : (x : Numbered) (xs : List Numbered) → Contains (x ∷ xs) x
  first x xs = (0, omega arith, refl)

  next : (x y : Numbered) (xs : List Numbered) → Contains xs x → Contains (y ∷ xs) x
  next x y xs there = (suc there.0, (let less = there.1 in omega (arith, less)), there.2)

  all-last : (f : Outline → Bool) (g : Numbered → Bool) (Listed : Numbered → Type 0)
      → ((t : Numbered) (p : Outline) → Listed t → IsAt image programs t p → f p ≡ true → g t ≡ true)
      → (n : ℕ) (threads : List Thread) (last : List Outline) → ((t : Numbered) → Contains (threads_from n threads) t → Listed t)
      → AreLast n last → AreOutlines image n threads last → list_all f last ≡ true → list_all g (threads_from n threads) ≡ true
  unfolding AreOutlines
  all-last f g Listed so n [] [] listed at are all = refl
  all-last f g Listed so n [] (p ∷ last) listed at are all = absurd are
  all-last f g Listed so n (t ∷ threads) [] listed at are all = absurd are
  all-last f g Listed so n (t ∷ threads) (p ∷ last) listed at are all =
      let parts = and_parts (f p) (list_all f last) all in
      let own : Numbered = record { number = n; thread = t } in
      both-true (g own) (list_all g (threads_from (n + 1) threads))
      (so own p (listed own (first own (threads_from (n + 1) threads))) (here n t p last at are.0) parts.0)
      (all-last f g Listed so (n + 1) threads last (λ u in_rest. listed u (next u own (threads_from (n + 1) threads) in_rest)) (later n p last at) are.1
      parts.1)

  any-last : (f : Outline → Bool) (g : Numbered → Bool) → ((t : Numbered) (p : Outline) → IsAt image programs t p → f p ≡ true → g t ≡ true)
      → (n : ℕ) (threads : List Thread) (last : List Outline) → AreLast n last → AreOutlines image n threads last → list_any f last ≡ true
      → list_any g (threads_from n threads) ≡ true
  unfolding AreOutlines
  any-last f g so n [] [] at are any = any
  any-last f g so n [] (p ∷ last) at are any = absurd are
  any-last f g so n (t ∷ threads) [] at are any = absurd are
  any-last f g so n (t ∷ threads) (p ∷ last) at are any =
      let own : Numbered = record { number = n; thread = t } in
      elim (f p) as (λ b. f p ≡ b → (b || list_any f last) ≡ true → (g own || list_any g (threads_from (n + 1) threads)) ≡ true) [
        | true ↦ λ is _. ap (λ b. b || list_any g (threads_from (n + 1) threads)) (so own p (here n t p last at are.0) is)
        | false ↦ λ _ rest. or-second (g own) (list_any g (threads_from (n + 1) threads))
            (any-last f g so (n + 1) threads last (later n p last at) are.1 rest)
      ] refl any
    where
      or-second : (a b : Bool) → b ≡ true → (a || b) ≡ true
      or-second true b is = refl
      or-second false b is = is

  total-last : (f : Outline → ℕ) (g : Numbered → ℕ) (Listed : Numbered → Type 0)
      → ((t : Numbered) (p : Outline) → Listed t → IsAt image programs t p → g t ≡ f p)
      → (n : ℕ) (threads : List Thread) (last : List Outline) → ((t : Numbered) → Contains (threads_from n threads) t → Listed t)
      → AreLast n last → AreOutlines image n threads last → total g (threads_from n threads) ≡ total f last
  unfolding AreOutlines
  total-last f g Listed so n [] [] listed at are = refl
  total-last f g Listed so n [] (p ∷ last) listed at are = absurd are
  total-last f g Listed so n (t ∷ threads) [] listed at are = absurd are
  total-last f g Listed so n (t ∷ threads) (p ∷ last) listed at are =
      let own : Numbered = record { number = n; thread = t } in
      ap (λ m. m + total g (threads_from (n + 1) threads))
      (so own p (listed own (first own (threads_from (n + 1) threads))) (here n t p last at are.0))
      ∙ ap (λ m. f p + m)
      (total-last f g Listed so (n + 1) threads last (λ u in_rest. listed u (next u own (threads_from (n + 1) threads) in_rest)) (later n p last at) are.1)

  all-there : AreLast 0 programs
  all-there k p at = let same : k ≡ 0 + k = omega arith in subst (λ m. slice_get programs m ≡ Some p) same at

  module _ (are : AreOutlines image 0 image.threads programs) where
    pub all-listed : (f : Outline → Bool) (g : Numbered → Bool)
        → ((t : Numbered) (p : Outline) → Contains (numbered_threads image) t → IsAt image programs t p → f p ≡ true → g t ≡ true)
        → list_all f programs ≡ true → list_all g (numbered_threads image) ≡ true
    all-listed f g so all = all-last f g (Contains (numbered_threads image)) so 0 image.threads programs (λ t there. there) all-there are all

    pub all-from : (f : Outline → Bool) (g : Numbered → Bool) → ((t : Numbered) (p : Outline) → IsAt image programs t p → f p ≡ true → g t ≡ true)
        → list_all f programs ≡ true → list_all g (numbered_threads image) ≡ true
    all-from f g so all = all-listed f g (λ t p listed. so t p) all

    pub any-from : (f : Outline → Bool) (g : Numbered → Bool) → ((t : Numbered) (p : Outline) → IsAt image programs t p → f p ≡ true → g t ≡ true)
        → list_any f programs ≡ true → list_any g (numbered_threads image) ≡ true
    any-from f g so any = any-last f g so 0 image.threads programs all-there are any

    pub total-from : (f : Outline → ℕ) (g : Numbered → ℕ) (Listed : Numbered → Type 0)
        → ((t : Numbered) (p : Outline) → Listed t → IsAt image programs t p → g t ≡ f p) → ((t : Numbered) → Contains (numbered_threads image) t → Listed t)
        → total g (numbered_threads image) ≡ total f programs
    total-from f g Listed so listed = total-last f g Listed so 0 image.threads programs listed all-there are
