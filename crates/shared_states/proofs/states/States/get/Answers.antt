use Rattle.std.proofs.Common.{sym}
use Rattle.shared_states.specs.States.{at_number}
use Rattle.shared_states.proofs.states.States.get.Goals as goal

pub returns : goal.returns
unfolding at_number
returns c = rw (sym c.self.view_is) c.get.ensures
