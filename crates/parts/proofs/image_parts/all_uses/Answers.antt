-- By one thread more.
use Rattle.std.proofs.Common.{rules, ◌≡◌, ◌∙◌, length}
use Rattle.std.specs.Vec.{vec_len}
use Rattle.parts.proofs.OfThreads.{uses-end, uses-next}
use Rattle.parts.proofs.image_parts.all_uses.Goals as goal

pub loop-thread-preserved : goal.loop-thread-preserved
loop-thread-preserved c =
    let image = c.args.image.now in
    let count : vec_len c.loop-thread.all ≡ length c.loop-thread.all.items = search rules in
    uses-next image image.threads c.loop-thread.thread-iterator c.next.new.self c.in-Some.thread c.in_ok-uses.uses c.loop-thread.all.items c.push.new.self.items
    c.in-Some.ensures.steps (c.in_ok-uses.ensures.number ∙ c.len.ensures ∙ count)
    (c.in_ok-uses.ensures.uses (c.as_slice.ensures.value ∙ c.in_ok-frames.ensures.frames)) c.in_ok-push.ensures.items c.loop-thread.invariant

pub returns-clause-uses : goal.returns-clause-uses
returns-clause-uses c =
    let image = c.args.image.now in
    uses-end image image.threads c.loop-thread.thread-iterator c.loop-thread.all.items c.in-None.ensures.steps.0 c.loop-thread.invariant
