-- By the slots that each call leaves.
use Rattle.headline.proofs.invocations.DerivedCalls.{derives-behind}
use Rattle.headline.proofs.invocations.parent_laws.invocations_leave_a_parent_to_each_slot.Goals as goal

pub returns : goal.returns
returns c = derives-behind
