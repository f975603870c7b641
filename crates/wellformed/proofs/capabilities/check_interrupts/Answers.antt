-- By the interrupts that are left.
use Rattle.std.proofs.Common.{◌∙◌, ◌+◌, Some, inr, sym, ap}
use Rattle.model.specs.declared.entries.ImageHeader.{ImageHeader}
use Rattle.model.specs.declared.refusals.Refusal.TheVariants.{BadCap}
use Rattle.model.specs.Acceptance.WellFormed.{signals_nothing}
use Rattle.wellformed.proofs.RulesLeft.{next_broken, next_kept}
use Rattle.wellformed.proofs.capabilities.check_interrupts.Goals as goal

pub returns-then-signals_nothing : goal.returns-then-signals_nothing
returns-then-signals_nothing c =
    let image = c.args.image.now in
    let n = c.loop-number.number in
    inr (next_broken (λ u. signals_nothing image u.1) (λ k. BadCap (image.header.capabilities + k)) image.interrupts n c.interrupt.result _ c.interrupt.ensures
    (sym c.signals_nothing.ensures ∙ c.if-signals_nothing.true) c.loop-number.invariant
    ∙ ap (λ (h : ImageHeader). Some (BadCap (h.capabilities + n))) (sym c.header_of-header.ensures.value))

pub loop-number-preserved : goal.loop-number-preserved
loop-number-preserved c =
    let image = c.args.image.now in
    next_kept (λ u. signals_nothing image u.1) (λ k. BadCap (image.header.capabilities + k)) image.interrupts c.loop-number.number c.interrupt.result _
    c.interrupt.ensures
    (sym c.signals_nothing.ensures ∙ c.if-signals_nothing.false) c.loop-number.invariant
