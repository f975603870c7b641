-- By one entry more.
use Rattle.image_copies.proofs.Loops.{copied-all, copied-next}
use Rattle.image_copies.proofs.lists.entries_of.Goals as goal

pub loop-entry-preserved : goal.loop-entry-preserved
loop-entry-preserved g c =
    copied-next c.args.section c.loop-entry.entry-iterator c.next.new.self c.loop-entry.all.items c.push.new.self.items c.in-Some.entry
    c.in-Some.ensures.steps c.in_ok-push.ensures.items c.loop-entry.invariant

pub returns : goal.returns
returns g c = copied-all c.args.section c.loop-entry.entry-iterator c.loop-entry.all.items c.in-None.ensures.steps.0 c.loop-entry.invariant
