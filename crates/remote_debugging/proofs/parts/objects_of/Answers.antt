-- One object after another.
use Rattle.remote_debugging.proofs.parts.objects_of.Goals as goal

pub loop-number-init : goal.loop-number-init
loop-number-init c = c.none-used.ensures c.args.image.now
