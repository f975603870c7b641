-- Case by case.
use Rattle.model.specs.Capabilities.Slots.{capability_at}
use Rattle.model_laws.proofs.Removals.{kept-apart}
use Rattle.model_laws.proofs.descent_laws.a_removal_changes_mappings_alone.Goals as goal

pub returns : goal.returns
returns c = λ s set slot. kept-apart s set slot (capability_at s.slots slot)
