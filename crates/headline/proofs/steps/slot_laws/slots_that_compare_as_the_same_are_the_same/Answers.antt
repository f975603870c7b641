-- Slot by slot.
use Rattle.headline.proofs.steps.SameSlots.{slots-back}
use Rattle.headline.proofs.steps.slot_laws.slots_that_compare_as_the_same_are_the_same.Goals as goal

pub returns : goal.returns
returns c = slots-back
