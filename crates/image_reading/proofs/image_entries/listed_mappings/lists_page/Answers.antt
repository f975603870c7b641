-- By the entry at the place.
use Rattle.std.proofs.Common.{◌≡◌, ◌∙◌, sym, ap, arith}
use Rattle.std.proofs.lemmas.Bool.{le-ltb}
use Rattle.model.specs.declared.entries.ImageHeader.{ImageHeader}
use Rattle.image_reading.proofs.image_entries.RegionSearches.{page-by, page-none}
use Rattle.image_reading.proofs.image_entries.listed_mappings.lists_page.Goals as goal

pub returns-then-place-header_of : goal.returns-then-place-header_of
returns-then-place-header_of c =
    c.is_on.ensures ∙ sym (page-by c.args.image.now c.header_of.ensures.fitting c.args.root c.args.page c.requires c.frame_place-place.result c.frame.result
    c.frame_place-place.ensures c.frame.ensures)

pub returns-else-place-header_of : goal.returns-else-place-header_of
returns-else-place-header_of c =
    let image = c.args.image.now in
    let count : c.header_of.result.frames ≡ image.header.frames = ap (λ (h : ImageHeader). h.frames) c.header_of.ensures.value in
    le-ltb c.frame_place-place.result c.header_of.result.frames c.if-place-header_of.false
    ∙ sym (page-none image c.header_of.ensures.fitting c.args.root c.args.page c.requires c.frame_place-place.result c.frame_place-place.ensures
    (omega (arith, count, c.header_of.ensures.counts.frames, c.if-place-header_of.false)))
