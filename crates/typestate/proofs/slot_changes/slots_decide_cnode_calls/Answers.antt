-- By what the call gives, wherever the capability stands.
use Rattle.typestate.proofs.Decided.{by-slots}
use Rattle.typestate.proofs.slot_changes.slots_decide_cnode_calls.Goals as goal

pub returns : goal.returns
returns g = λ image t at state slot capability call answers. by-slots image t at state slot capability call answers
