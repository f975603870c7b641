-- By the capabilities that are left.
use Rattle.std.proofs.Common.{◌∙◌, inr, sym}
use Rattle.model.specs.declared.refusals.Refusal.TheVariants.{BadCap}
use Rattle.model.specs.Acceptance.WellFormed.{does_not_fit}
use Rattle.wellformed.proofs.Named.{named-next}
use Rattle.wellformed.proofs.RulesLeft.{next_broken, next_kept}
use Rattle.wellformed.proofs.capabilities.check_listed.Goals as goal

pub returns-then-does_not_fit-clause-rules : goal.returns-then-does_not_fit-clause-rules
returns-then-does_not_fit-clause-rules c =
    let image = c.args.image.now in
    inr (next_broken (does_not_fit image) (λ k. BadCap k) image.capabilities c.loop-item.item c.capability-entry.result _ c.capability-entry.ensures
    (sym c.does_not_fit.ensures ∙ c.if-does_not_fit.true) c.loop-item.invariant.left)

pub loop-item-preserved : goal.loop-item-preserved
loop-item-preserved c =
    let image = c.args.image.now in
    let n = c.loop-item.item in
    record {
      sources = named-next (λ x. x.source) image.capabilities n c.capability-entry.result c.loop-item.sources c.insert.new.self c.capability-entry.ensures
          c.in_ok-insert.ensures.put c.loop-item.invariant.sources;
      left = next_kept (does_not_fit image) (λ k. BadCap k) image.capabilities n c.capability-entry.result _ c.capability-entry.ensures
          (sym c.does_not_fit.ensures ∙ c.if-does_not_fit.false) c.loop-item.invariant.left;
    }
