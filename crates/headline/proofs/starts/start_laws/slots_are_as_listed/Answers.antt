-- What is in a slot of a CNode is what is listed for it, and its parent is in the boot CNode.
use Rattle.headline.proofs.starts.GivenSlots.{slots-given}
use Rattle.headline.proofs.starts.start_laws.slots_are_as_listed.Goals as goal

pub returns : goal.returns
returns c = slots-given
