-- By the untypeds that are left.
use Rattle.std.proofs.Common.{◌∙◌, inr, sym}
use Rattle.model.specs.declared.refusals.Refusal.TheVariants.{UntypedOverlap}
use Rattle.model.specs.Acceptance.WellFormed.{overlaps}
use Rattle.wellformed.proofs.RulesLeft.{next_broken, next_kept}
use Rattle.wellformed.proofs.Stands.{end-next, overlaps-is}
use Rattle.wellformed.proofs.objects.check_untypeds.Goals as goal

pub returns-then-stands_badly : goal.returns-then-stands_badly
returns-then-stands_badly c =
    let image = c.args.image.now in
    let n = c.loop-number.number in
    let u = c.untyped_of-entry.result in
    let is = overlaps-is image n u c.header_of-header.result c.loop-number.before c.header_of-header.ensures.value c.loop-number.invariant.before in
    inr (next_broken (overlaps image) (λ k. UntypedOverlap k) image.untypeds n u _ c.untyped_of-entry.ensures.there
    (sym is ∙ sym c.stands_badly.ensures ∙ c.if-stands_badly.true) c.loop-number.invariant.left)

pub loop-number-preserved : goal.loop-number-preserved
loop-number-preserved c =
    let image = c.args.image.now in
    let n = c.loop-number.number in
    let u = c.untyped_of-entry.result in
    let is = overlaps-is image n u c.header_of-header.result c.loop-number.before c.header_of-header.ensures.value c.loop-number.invariant.before in
    record {
      before = end-next image n u c.untyped_end-before.result c.untyped_of-entry.ensures.there c.untyped_end-before.ensures;
      left = next_kept (overlaps image) (λ k. UntypedOverlap k) image.untypeds n u _ c.untyped_of-entry.ensures.there
          (sym is ∙ sym c.stands_badly.ensures ∙ c.if-stands_badly.false) c.loop-number.invariant.left;
    }
