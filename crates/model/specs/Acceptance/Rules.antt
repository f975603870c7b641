-- Rules of acceptance: each is kept, or broken and then names what the breach is refused as.
use Rattle.std.specs.Prelude.{Bool, Option, Some, None, List, [], ◌∷◌, if◌then◌else◌}
use Rattle.model.specs.declared.refusals.Refusal.{Refusal}

-- what a broken rule is refused as; nothing where it is kept
abbrev pub Rule : Type 0
Rule = Option Refusal

abbrev pub refuse_if : Bool → Refusal → Rule
refuse_if broken refusal = if broken then Some refusal else None

-- what the first of the rules that is broken is refused as
abbrev pub first_broken : List Rule → Option Refusal
first_broken [] = None
first_broken (None ∷ rules) = first_broken rules
first_broken (Some refusal ∷ rules) = Some refusal
