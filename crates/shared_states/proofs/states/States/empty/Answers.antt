use Rattle.std.proofs.Common.{sym}
use Rattle.shared_states.specs.Entries.{path_of}
use Rattle.shared_states.specs.States.{at_number}
use Rattle.shared_states.proofs.states.States.empty.Goals as goal

pub returns-clause-nothing : goal.returns-clause-nothing
unfolding at_number
returns-clause-nothing c key = rw (sym c.self.view_is) (c.empty.ensures.nothing (path_of 63 key))
