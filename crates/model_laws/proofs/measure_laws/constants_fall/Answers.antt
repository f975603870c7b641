-- No term counts.
use Rattle.model_laws.proofs.ConstantMeasures.{constant_falls}
use Rattle.model_laws.proofs.measure_laws.constants_fall.Goals as goal

pub returns : goal.returns
returns c = constant_falls
