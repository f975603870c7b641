-- The rules on the programs of the threads that are left.
use Rattle.std.proofs.Common.{ℕ, ◌≡◌, ◌∙◌, ◌+◌, None, Option, Err, List, ◌∷◌, map, sym, ap}
use Rattle.std.proofs.Common.{subst}
use Rattle.std.specs.Prelude.{flat_map}
use Rattle.std.specs.Option.{option_or}
use Rattle.std.specs.List.{enumerate_from}
use Rattle.model.specs.Acceptance.PointRules.{rules_of_program}
use Rattle.model.specs.Acceptance.Rules.{Rule, first_broken}
use Rattle.model.specs.Images.Described.{Numbered}
use Rattle.model.specs.Images.Image.{Image, Thread}
use Rattle.model.specs.declared.refusals.Refusal.{Refusal}
use Rattle.program_rules.proofs.FirstBroken.{first-both, refused-first}
use Rattle.wellformed.specs.Answering.{Answers}

abbrev pub rules_from : Image → ℕ → List Thread → List Rule
rules_from image n threads = flat_map (rules_of_program image)
    (map (λ (t : ℕ × Thread). let u : Numbered = record { number = t.0; thread = t.1 } in u) (enumerate_from n threads))

module _ (image : Image) (n : ℕ) (t : Thread) (rest : List Thread) where
  abbrev own : List Rule
  own = rules_of_program image (record { number = n; thread = t })

  abbrev later : Option Refusal
  later = first_broken (rules_from image (n + 1) rest)

  parted : (total : Option Refusal) → first_broken (rules_from image n (t ∷ rest)) ≡ total → option_or (first_broken own) later ≡ total
  parted total so = sym (first-both own (rules_from image (n + 1) rest)) ∙ so

  pub next-kept : (total : Option Refusal) → first_broken own ≡ None → first_broken (rules_from image n (t ∷ rest)) ≡ total → later ≡ total
  next-kept total kept so = ap (λ o. option_or o later) (sym kept) ∙ parted total so

  pub one-refused : (total : Option Refusal) (refusal : Refusal) → Answers (first_broken own) (Err refusal) →
      first_broken (rules_from image n (t ∷ rest)) ≡ total → Answers total (Err refusal)
  one-refused total refusal answers so = subst (λ (o : Option Refusal). Answers o (Err refusal)) (parted total so)
      (refused-first (first_broken own) later refusal answers)
