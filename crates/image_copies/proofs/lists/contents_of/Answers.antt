-- By one more.
use Rattle.std.proofs.Common.{◌∙◌, ◌++◌, ◌∷◌, [], ap}
use Rattle.image_copies.proofs.Loops.{copied-all, copied-next}
use Rattle.image_copies.proofs.lists.contents_of.Goals as goal

pub loop-content-preserved : goal.loop-content-preserved
loop-content-preserved c =
    copied-next c.args.contents c.loop-content.content-iterator c.next.new.self c.loop-content.all.items c.push.new.self.items _ c.in-Some.ensures.steps
    (c.in_ok-push.ensures.items ∙ ap (λ x. c.loop-content.all.items ++ x ∷ []) c.in_ok-content_of.ensures) c.loop-content.invariant

pub returns : goal.returns
returns c = copied-all c.args.contents c.loop-content.content-iterator c.loop-content.all.items c.in-None.ensures.steps.0 c.loop-content.invariant
