-- No term counts.
use Rattle.model_laws.proofs.ConstantMeasures.{constant_least_value, constant_measured}
use Rattle.model_laws.proofs.measure_laws.a_measure_without_terms_is_its_constant.Goals as goal

pub returns-clause-value : goal.returns-clause-value
returns-clause-value c = constant_measured

pub returns-clause-least : goal.returns-clause-least
returns-clause-least c = constant_least_value
