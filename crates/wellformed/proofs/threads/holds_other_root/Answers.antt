-- By one capability of the CNode more.
use Rattle.std.proofs.Common.{◌==◌, ◌&&◌, not, ◌∙◌, sym}
use Rattle.model.specs.Acceptance.WellFormed.{is_root_type, source_type}
use Rattle.wellformed.proofs.Listed.{any-ended, any-first, any-found, any-later}
use Rattle.wellformed.proofs.threads.holds_other_root.Goals as goal

pub loop-item-init : goal.loop-item-init
loop-item-init c =
    let image = c.args.image.now in
    any-first c.args.cnode (λ x. is_root_type (source_type image x.source) && not (x.source == c.args.root)) image.capabilities _ _ c.listed_in-listed.ensures

pub returns-then-is_other_root : goal.returns-then-is_other_root
returns-then-is_other_root c =
    let image = c.args.image.now in
    any-found c.args.cnode (λ x. is_root_type (source_type image x.source) && not (x.source == c.args.root)) image.capabilities _ _ c.loop-item.item
    c.capability_of.result
    c.listed_in-listed.ensures c.loop-item.auto.item c.loop-item-test.true c.capability_of.ensures (sym c.is_other_root.ensures ∙ c.if-is_other_root.true)
    c.loop-item.invariant

pub loop-item-preserved : goal.loop-item-preserved
loop-item-preserved c =
    let image = c.args.image.now in
    any-later c.args.cnode (λ x. is_root_type (source_type image x.source) && not (x.source == c.args.root)) image.capabilities _ _ c.loop-item.item
    c.capability_of.result
    c.listed_in-listed.ensures c.loop-item.auto.item c.loop-item-test.true c.capability_of.ensures (sym c.is_other_root.ensures ∙ c.if-is_other_root.false)
    c.loop-item.invariant

pub returns : goal.returns
returns c =
    let image = c.args.image.now in
    any-ended c.args.cnode (λ x. is_root_type (source_type image x.source) && not (x.source == c.args.root)) image.capabilities _ _ c.loop-item.item
    c.listed_in-listed.ensures c.loop-item-test.false c.loop-item.invariant
