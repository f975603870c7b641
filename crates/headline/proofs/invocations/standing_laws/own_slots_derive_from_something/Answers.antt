-- From another of the thread's slots, or from a boot slot.
use Rattle.headline.proofs.invocations.DerivedSlots.{derives-from-some}
use Rattle.headline.proofs.invocations.standing_laws.own_slots_derive_from_something.Goals as goal

pub returns : goal.returns
returns c = derives-from-some
