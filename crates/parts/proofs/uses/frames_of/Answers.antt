-- By one frame more.
use Rattle.parts.proofs.Left.{read-all, read-next}
use Rattle.parts.proofs.uses.frames_of.Goals as goal

pub loop-entry-preserved : goal.loop-entry-preserved
loop-entry-preserved c =
    read-next c.args.image.now.frames c.loop-entry.entry-iterator c.next.new.self c.in-Some.entry c.loop-entry.frames.items c.push.new.self.items
    c.in-Some.ensures.steps c.in_ok-push.ensures.items c.loop-entry.invariant

pub returns-clause-frames : goal.returns-clause-frames
returns-clause-frames c =
    read-all c.args.image.now.frames c.loop-entry.entry-iterator c.loop-entry.frames.items c.in-None.ensures.steps.0 c.loop-entry.invariant
