-- No term counts a register that the call writes.
use Rattle.measure.proofs.LoweredMeasures.{falls-behind-call}
use Rattle.measure.proofs.laws.measures_fall_behind_calls.Goals as goal

pub returns : goal.returns
returns c = falls-behind-call
