-- One content more, whose frame is put into the set.
use Rattle.std.proofs.Common.{◌∙◌, ap}
use Rattle.wellformed.proofs.Named.{left-next}
use Rattle.wellformed.specs.Answering.{with_number}
use Rattle.wellformed.proofs.mappings.filled_frames.Goals as goal

pub loop-content-preserved : goal.loop-content-preserved
loop-content-preserved c =
    left-next (λ x. x.header.frame) c.args.image.now.contents c.loop-content.content-iterator c.next.new.self c.in-Some.content c.loop-content.filled
    c.insert.new.self
    c.in-Some.ensures.steps (c.in_ok-insert.ensures.put ∙ ap (λ h. with_number h.frame c.loop-content.filled) c.header.ensures) c.loop-content.invariant
