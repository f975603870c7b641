-- Slot by slot.
use Rattle.headline.proofs.steps.SameSlots.{not-stray-formed}
use Rattle.headline.proofs.steps.slot_laws.slots_that_are_not_stray_have_their_form.Goals as goal

pub returns : goal.returns
returns c = not-stray-formed
