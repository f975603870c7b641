-- One more term.
use Rattle.std.proofs.Common.{◌≤◌, ◌+◌, ◌*◌, ◌^◌, pos, rules, to_z, arith}
use mir.Syntax.{w128}
use Rattle.measure.specs.Measures.{measure_of}
use Rattle.measure.proofs.Small.{more-small}
use Rattle.measure.proofs.SumSteps.{constant-end, constant-step}
use Rattle.measure.proofs.forms.constant_of.Goals as goal

pub loop-term-preserved : goal.loop-term-preserved
loop-term-preserved g c =
    constant-step (g.S.Step.value_of c.args.step.now) c.args.measure.now.constant c.terms-terms.result.now c.loop-term.term-index
    (record { register = 0; coefficient = pos 0 })
    (to_z w128 c.loop-term.sum-bits) c.scaled-sum.result (search rules) c.terms-terms.ensures.few c.loop-term.invariant.0 c.loop-term.invariant.1 (search rules)
    c.scaled-sum.ensures.small

pub returns-clause-value : goal.returns-clause-value
returns-clause-value g c =
    constant-end (measure_of c.args.measure.now) (g.S.Step.value_of c.args.step.now) c.terms-terms.result.now c.loop-term.term-index
    (to_z w128 c.loop-term.sum-bits)
    c.terms-terms.ensures.value (search rules) c.loop-term.invariant.0

pub returns-clause-small : goal.returns-clause-small
returns-clause-small g c =
    let i = c.loop-term.term-index in
    let few : i ≤ 4 = search rules in
    more-small (to_z w128 c.loop-term.sum-bits) (2 ^ 64 + i * 2 ^ 96) (2 ^ 98 + 2 ^ 64) c.loop-term.invariant.1 (omega (arith, few))
