-- Between the place of a CNode and that of the next.
use Rattle.std.proofs.Common.{◌≡◌, ◌+◌, ◌∙◌, length, rules, sym, ap}
use Rattle.model.specs.declared.entries.ImageHeader.{ImageHeader}
use Rattle.image_reading.proofs.image_entries.Listed.{listed-between, listed-last}
use Rattle.image_reading.proofs.image_entries.keys.listed_in.Goals as goal

pub returns-in-Some : goal.returns-in-Some
returns-in-Some c =
    let next : c.in-Some.next ≡ c.args.cnode + 1 = search rules in
    listed-between c.args.image.now c.header_of-header.ensures.fitting c.args.cnode c.in-Some.next c.cnode_place-first.result c.cnode_place-end.result next
    c.cnode_place-first.ensures c.cnode_place-end.ensures

pub returns-in-None : goal.returns-in-None
returns-in-None c =
    let image = c.args.image.now in
    let last : c.args.cnode ≡ 4294967295 = search rules in
    let count : c.header_of-header.result.capabilities ≡ image.header.capabilities =
    ap (λ (h : ImageHeader). h.capabilities) c.header_of-header.ensures.value in
    let end : c.header_of-header.result.capabilities ≡ length image.capabilities = count ∙ sym c.header_of-header.ensures.counts.capabilities in
    listed-last image c.header_of-header.ensures.fitting c.args.cnode c.cnode_place-first.result c.header_of-header.result.capabilities last end
    c.header_of-header.ensures.fitting.header.objects c.cnode_place-first.ensures
