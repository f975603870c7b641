-- By one line more.
use Rattle.responses.proofs.LinesSoFar.{next-so-far, none-so-far}
use Rattle.responses.proofs.lines.bells_of.Goals as goal

pub loop-line-init : goal.loop-line-init
loop-line-init c = none-so-far c.args.placed.now.image.now _ c.new-bells.ensures.items

pub loop-line-preserved : goal.loop-line-preserved
loop-line-preserved c =
    next-so-far c.args.placed.now.image.now c.loop-line.line c.loop-line.bells.items _ c.bell_of.result c.loop-line.invariant c.bell_of.ensures
    c.in_ok-push.ensures.items
