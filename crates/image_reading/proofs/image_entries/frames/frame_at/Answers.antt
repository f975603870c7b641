-- By the entry at the place.
use Rattle.std.proofs.Common.{◌≡◌, ◌∙◌, sym, ap, arith}
use Rattle.model.specs.declared.entries.ImageHeader.{ImageHeader}
use Rattle.image_reading.proofs.image_entries.FrameSearches.{mapped-here, mapped-none, mapped-other}
use Rattle.image_reading.proofs.image_entries.MappedPages.{one-open}
use Rattle.image_reading.proofs.image_entries.frames.frame_at.Goals as goal

pub returns-then-header_of-place-clause-value : goal.returns-then-header_of-place-clause-value
returns-then-header_of-place-clause-value c =
    let image = c.args.image.now in
    let count : c.header_of.result.frames ≡ image.header.frames = ap (λ (h : ImageHeader). h.frames) c.header_of.ensures.value in
    sym (mapped-none image c.header_of.ensures.fitting c.args.root c.args.address c.frame_place-place.result c.ranges.address.fits c.frame_place-place.ensures
    (omega (arith, count, c.header_of.ensures.counts.frames, c.if-header_of-place.true)))

pub returns-then-is_at-clause-value : goal.returns-then-is_at-clause-value
returns-then-is_at-clause-value c =
    sym (mapped-here c.args.image.now c.header_of.ensures.fitting c.args.root c.args.address c.frame_place-place.result c.frame-entry.result
    c.ranges.address.fits c.frame_place-place.ensures
    c.frame-entry.ensures (sym c.is_at.ensures ∙ c.if-is_at.true))

pub returns-clause-value : goal.returns-clause-value
returns-clause-value c =
    sym (mapped-other c.args.image.now c.header_of.ensures.fitting c.args.root c.args.address c.frame_place-place.result c.frame-entry.result
    c.ranges.address.fits c.frame_place-place.ensures
    c.frame-entry.ensures (sym c.is_at.ensures ∙ c.if-is_at.false))

pub returns-then-header_of-place-clause-only : goal.returns-then-header_of-place-clause-only
returns-then-header_of-place-clause-only c = λ holds.
    one-open c.args.root c.args.address holds c.args.image.now.frames _ c.header_of.ensures.fitting.pages_rise (returns-then-header_of-place-clause-value c)

pub returns-then-is_at-clause-only : goal.returns-then-is_at-clause-only
returns-then-is_at-clause-only c = λ holds.
    one-open c.args.root c.args.address holds c.args.image.now.frames _ c.header_of.ensures.fitting.pages_rise (returns-then-is_at-clause-value c)

pub returns-clause-only : goal.returns-clause-only
returns-clause-only c = λ holds.
    one-open c.args.root c.args.address holds c.args.image.now.frames _ c.header_of.ensures.fitting.pages_rise (returns-clause-value c)
