-- One more term.
use Rattle.std.proofs.Common.{pos, rules, to_z, w64}
use Rattle.measure.specs.Measures.{measure_of}
use Rattle.measure.specs.Variables.{variable_of}
use Rattle.measure.proofs.SumSteps.{coefficient-end, coefficient-step}
use Rattle.measure.proofs.forms.coefficient_of.Goals as goal

pub loop-term-preserved : goal.loop-term-preserved
loop-term-preserved g c =
    coefficient-step (g.S.Step.value_of c.args.step.now) (variable_of c.args.variable) c.terms-terms.result.now c.loop-term.term-index
    (record { register = 0; coefficient = pos 0 })
    (to_z w64 c.loop-term.sum-bits) c.times-sum.result (search rules) c.terms-terms.ensures.few c.loop-term.invariant.0 c.loop-term.invariant.1 (search rules)
    c.times-sum.ensures.small

pub returns-clause-value : goal.returns-clause-value
returns-clause-value g c =
    coefficient-end (measure_of c.args.measure.now) (g.S.Step.value_of c.args.step.now) (variable_of c.args.variable) c.terms-terms.result.now
    c.loop-term.term-index
    (to_z w64 c.loop-term.sum-bits)
    c.terms-terms.ensures.value (search rules) c.loop-term.invariant.0
