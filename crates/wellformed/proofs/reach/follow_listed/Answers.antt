-- By one capability of the CNode more.
use Rattle.wellformed.proofs.Reached.{follow-end, follow-first, follow-next}
use Rattle.wellformed.proofs.reach.follow_listed.Goals as goal

pub loop-item-init : goal.loop-item-init
loop-item-init c = follow-first c.args.image.now c.args.cnode _ _ c.listed_in-listed.ensures _

pub loop-item-preserved : goal.loop-item-preserved
loop-item-preserved c =
    follow-next c.args.image.now c.args.cnode _ _ c.listed_in-listed.ensures c.loop-item.item c.capability_of.result c.loop-item.found c.follow.new.found _
    c.loop-item.auto.item c.loop-item-test.true c.capability_of.ensures c.in_ok-follow.ensures.found c.loop-item.invariant

pub returns-clause-found : goal.returns-clause-found
returns-clause-found c =
    follow-end c.args.image.now c.args.cnode _ _ c.listed_in-listed.ensures c.loop-item.item c.loop-item.found _ c.loop-item-test.false c.loop-item.invariant
