-- Where there are no terms.
use Rattle.measure.specs.Measures.{measure_of}
use Rattle.measure.proofs.LinearSums.{coefficient_none}
use Rattle.measure.proofs.forms.counts_none.Goals as goal

pub returns : goal.returns
returns g c = λ variable yes.
    coefficient_none (measure_of c.args.measure.now) (g.S.Step.value_of c.args.step.now) variable (c.is_constant.ensures yes)
