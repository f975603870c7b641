-- No term counts.
use Rattle.model_laws.proofs.ConstantMeasures.{constant_stays_below}
use Rattle.model_laws.proofs.measure_laws.a_constant_stays_below.Goals as goal

pub returns : goal.returns
returns c = constant_stays_below
