-- By what comes back at each key.
use Rattle.typestate.proofs.Standing.{come-back}
use Rattle.typestate.proofs.slot_changes.slots_come_back.Goals as goal

pub returns : goal.returns
returns c = λ image t slots stand rises are. come-back image t stand slots rises are
