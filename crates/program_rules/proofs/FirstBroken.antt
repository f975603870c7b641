-- The first broken rule of lists that are put together.
use Rattle.std.proofs.Common.{◌≡◌, inl, inr, Option, Some, None, Result, Err, List, [], ◌∷◌, ◌++◌, refl, sym, ap, subst}
use Rattle.std.specs.Option.{option_or}
use Rattle.model.specs.Acceptance.Rules.{Rule, first_broken}
use Rattle.model.specs.declared.refusals.Refusal.{Refusal}
use Rattle.wellformed.specs.Answering.{Answers}

pub first-both : (xs ys : List Rule) → first_broken (xs ++ ys) ≡ option_or (first_broken xs) (first_broken ys)
first-both [] ys = refl
first-both (None ∷ xs) ys = first-both xs ys
first-both (Some refusal ∷ xs) ys = refl

pub or-none : (o : Option Refusal) → option_or o None ≡ o
or-none None = refl
or-none (Some refusal) = refl

-- the first rules are not kept, and the others do not matter
pub refused-first : (first rest : Option Refusal) (refusal : Refusal) → Answers first (Err refusal) → Answers (option_or first rest) (Err refusal)
refused-first first rest refusal (inl memory) = inl memory
refused-first first rest refusal (inr broken) = inr (ap (λ (o : Option Refusal). option_or o rest) broken)

-- the first rules are kept, and this is answered of the others
pub kept-first : (first rest : Option Refusal) (result : Result (Unit {0}) Refusal) → first ≡ None → Answers rest result → Answers (option_or first rest) result
kept-first first rest result kept answers = subst (λ (o : Option Refusal). Answers (option_or o rest) result) (sym kept) answers
