-- One slot more is emptied.
use Rattle.typestate.specs.Removals.{emptied_by}
use Rattle.typestate.proofs.Appended.{all-told, none-told, one-more-told}
use Rattle.typestate.proofs.removal.Removal.note_emptied.Goals as goal

pub loop-change-init : goal.loop-change-init
loop-change-init c = none-told emptied_by c.args.self.now.below.now c.args.made.now.items

pub loop-change-preserved : goal.loop-change-preserved
loop-change-preserved c =
    one-more-told emptied_by c.args.self.now.below.now c.loop-change.change-index c.change-item.result c.args.made.now.items c.loop-change.made.items
    c.note_gone.new.made.items c.loop-change-test.true c.change-item.is c.loop-change.invariant
    c.in_ok-note_gone.ensures

pub returns : goal.returns
returns c = all-told emptied_by c.args.self.now.below.now c.loop-change.change-index c.args.made.now.items c.loop-change.made.items c.loop-change-test.false
    c.loop-change.invariant
