-- Its checks find the same on both sides, and so does what it leaves.
use Rattle.headline.proofs.invocations.RetypeWell.{retype-well}
use Rattle.headline.proofs.invocations.retype_laws.retypes_go_well.Goals as goal

pub returns : goal.returns
returns c = retype-well
