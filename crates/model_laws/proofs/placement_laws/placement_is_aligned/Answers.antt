-- The first lies at a multiple of the size.
use Rattle.model_laws.proofs.Placements.{aligned}
use Rattle.model_laws.proofs.placement_laws.placement_is_aligned.Goals as goal

pub returns : goal.returns
returns c = aligned
