-- By one price more.
use Rattle.responses.proofs.Rising.{rise-one}
use Rattle.responses.proofs.prices.do_rise.Goals as goal

pub loop-place-init : goal.loop-place-init
loop-place-init c = rise-one c.args.prices.now
