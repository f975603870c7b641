use Rattle.shared_states.specs.Entries.{path_of}
use Rattle.shared_states.specs.States.{at_number}
use Rattle.shared_states.proofs.Numbers.{length_path, same_by_numbers}
use Rattle.shared_states.proofs.states.States.is_same.Goals as goal

pub returns-clause-same : goal.returns-clause-same
unfolding at_number
returns-clause-same c key is = c.in_ok-is.ensures.same is (path_of 63 key) (length_path 63 key)

pub returns-clause-differ : goal.returns-clause-differ
unfolding at_number
returns-clause-differ c same = c.in_ok-is.ensures.differ (same_by_numbers c.self.inside.trees 63 c.args.one c.args.other same)
