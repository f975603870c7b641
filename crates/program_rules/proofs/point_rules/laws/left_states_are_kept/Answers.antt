-- Its own state.
use Rattle.program_rules.proofs.point_rules.LeftStates.{left-kept}
use Rattle.program_rules.proofs.point_rules.laws.left_states_are_kept.Goals as goal

pub returns : goal.returns
returns c = left-kept c.unwritten_measures_fall.ensures
