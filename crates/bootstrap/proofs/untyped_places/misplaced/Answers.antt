-- By the untypeds that are left.
use Rattle.std.proofs.Common.{◌∙◌, ap, sym, arith}
use Rattle.bootstrap.proofs.Searches.{overlapping-here, overlapping-later, overlapping-none}
use Rattle.bootstrap.proofs.untyped_places.misplaced.Goals as goal

pub overlaps-requires-clause-bits : goal.overlaps-requires-clause-bits
overlaps-requires-clause-bits c = (c.args.image.now.limits.untypeds.entries c.loop-number.number c.untyped-entry.result c.untyped-entry.ensures).bits

pub returns-then-overlaps : goal.returns-then-overlaps
returns-then-overlaps c =
    sym (overlapping-here c.args.image.now.read.now c.loop-number.number c.untyped-entry.result c.untyped-entry.ensures
    (sym c.overlaps.ensures ∙ c.if-overlaps.true)
    c.loop-number.invariant)

pub loop-number-preserved : goal.loop-number-preserved
loop-number-preserved c =
    overlapping-later c.args.image.now.read.now c.loop-number.number c.untyped-entry.result c.untyped-entry.ensures
    (sym c.overlaps.ensures ∙ c.if-overlaps.false)
    c.loop-number.invariant

pub returns : goal.returns
returns c =
    c.shortage.ensures ∙ sym (overlapping-none c.args.image.now.read.now c.loop-number.number
    (omega (arith, ap (λ h. h.untypeds) c.header-number-end.ensures.value, c.args.image.now.limits.untypeds.count)) c.loop-number.invariant)
