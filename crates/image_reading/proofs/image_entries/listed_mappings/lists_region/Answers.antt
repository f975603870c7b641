-- By the entry at the place.
use Rattle.std.proofs.Common.{◌≡◌, ◌∙◌, sym, ap, arith}
use Rattle.std.proofs.lemmas.Bool.{le-ltb}
use Rattle.model.specs.declared.entries.ImageHeader.{ImageHeader}
use Rattle.image_reading.proofs.image_entries.RegionSearches.{region-by, region-none}
use Rattle.image_reading.proofs.image_entries.listed_mappings.lists_region.Goals as goal

pub returns-then-place-header_of : goal.returns-then-place-header_of
returns-then-place-header_of c =
    c.is_for.ensures ∙ sym (region-by c.args.image.now c.header_of.ensures.fitting c.args.root c.args.region c.requires c.table_place-place.result
    c.table.result c.table_place-place.ensures c.table.ensures)

pub returns-else-place-header_of : goal.returns-else-place-header_of
returns-else-place-header_of c =
    let image = c.args.image.now in
    let count : c.header_of.result.tables ≡ image.header.tables = ap (λ (h : ImageHeader). h.tables) c.header_of.ensures.value in
    le-ltb c.table_place-place.result c.header_of.result.tables c.if-place-header_of.false
    ∙ sym (region-none image c.header_of.ensures.fitting c.args.root c.args.region c.requires c.table_place-place.result c.table_place-place.ensures
    (omega (arith, count, c.header_of.ensures.counts.tables, c.if-place-header_of.false)))
