-- The difference counts no register, and is less than 0.
use Rattle.measure.proofs.LoweredMeasures.{lowered-falls}
use Rattle.measure.proofs.laws.unwritten_measures_fall.Goals as goal

pub returns : goal.returns
returns c = lowered-falls
