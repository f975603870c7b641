-- Its own state.
use Rattle.program_rules.proofs.point_rules.LeftStates.{call-kept}
use Rattle.program_rules.proofs.point_rules.laws.left_calls_are_kept.Goals as goal

pub returns : goal.returns
returns c = call-kept c.measures_fall_behind_calls.ensures c.budgets_stay_below.ensures
