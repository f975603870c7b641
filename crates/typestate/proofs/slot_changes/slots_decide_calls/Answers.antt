-- By what the call gives.
use Rattle.typestate.proofs.Decided.{decided-by}
use Rattle.typestate.proofs.slot_changes.slots_decide_calls.Goals as goal

pub returns : goal.returns
returns g = λ image t at state call c answers. decided-by image t at state call c answers
