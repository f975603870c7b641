-- Keys and capabilities that are compared as the same are the same.
use Rattle.std.proofs.Common.{ℕ, ◌≡◌, ◌∙◌, ◌^◌, ◌<◌, true, nat_eq, List, [], ◌∷◌, refl, sym, ap, arith, get_or}
use Rattle.std.proofs.lemmas.Bool.{false≢true, and_parts, eqb-true}
use Rattle.std.proofs.lemmas.Option.{same_Some}
use lib.Pointwise.{pointwise}
use Rattle.model.specs.Acceptance.NotedStates.{SlotKey, number_of}
use Rattle.model.specs.declared.capabilities.Cap.{Cap}
use Rattle.model.specs.Capabilities.CapabilityFields.{same_words, unpacked}
use Rattle.model.specs.Capabilities.CapabilityWords.{IsCapability, words_of}
use Rattle.image_reading.proofs.Laws.{words-back}

pub same-low-key : (a b : SlotKey) → a.index < 2 ^ 32 → b.index < 2 ^ 32 → number_of a ≡ number_of b → a ≡ b
same-low-key a b less few same =
    let cnode : a.cnode ≡ b.cnode = omega (arith, less, few, same) in
    let index : a.index ≡ b.index = omega (arith, less, few, same) in
    λ i. record { cnode = cnode i; index = index i }

pub words-equal : (xs ys : List ℕ) → pointwise nat_eq xs ys ≡ true → xs ≡ ys
words-equal [] [] same = refl
words-equal [] (y ∷ ys) same = absurd (false≢true same)
words-equal (x ∷ xs) [] same = absurd (false≢true same)
words-equal (x ∷ xs) (y ∷ ys) same =
    let parts = and_parts (nat_eq x y) (pointwise nat_eq xs ys) same in
    ap (λ (n : ℕ). n ∷ xs) (eqb-true x y parts.0) ∙ ap (λ (l : List ℕ). y ∷ l) (words-equal xs ys parts.1)

pub capabilities-equal : (a b : Cap) → IsCapability a → IsCapability b → same_words (words_of a) (words_of b) ≡ true → a ≡ b
capabilities-equal a b valid other same =
    let words : words_of a ≡ words_of b = words-equal (words_of a) (words_of b) same in
    same_Some a b (sym (words-back a valid) ∙ ap (λ (l : List ℕ). unpacked (get_or l 0 0) (get_or l 1 0)) words ∙ words-back b other)
