-- One more term.
use Rattle.std.proofs.Common.{◌∙◌, ap, pos, refl, sym}
use Rattle.model.specs.Acceptance.Measures.{Form}
use Rattle.measure.specs.Measures.{measure_of}
use Rattle.measure.proofs.LinearSums.{coefficient-kept}
use Rattle.measure.proofs.SumSteps.{coefficient-end}
use Rattle.measure.proofs.forms.add_terms.Goals as goal

pub loop-term-init : goal.loop-term-init
loop-term-init g c = λ variable less no. (no, refl)

pub loop-term-preserved : goal.loop-term-preserved
loop-term-preserved g c = λ variable less no.
    let both = c.add_value.ensures variable less no in
    let kept = c.loop-term.invariant variable less both.0 in (
      kept.0,
      coefficient-kept (g.S.Step.value_of c.args.step.now) variable c.terms-terms.result.now c.loop-term.term-index
          (record { register = 0; coefficient = pos 0 }) c.loop-term-test.true
          kept.1 (ap (λ (f : Form). f.coefficient variable) (sym c.value.ensures) ∙ both.1),
    )

pub returns : goal.returns
returns g c = λ variable less no.
    let kept = c.loop-term.invariant variable less no in (
      kept.0,
      sym (coefficient-end (measure_of c.args.measure.now) (g.S.Step.value_of c.args.step.now) variable c.terms-terms.result.now c.loop-term.term-index (pos 0)
          c.terms-terms.ensures.value c.loop-term-test.false (sym kept.1)),
    )
