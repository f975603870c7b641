-- By what none of the slots is.
use Rattle.std.proofs.Common.{◌∙◌}
use Rattle.thread_spaces.proofs.NoStraySlots.{none-stray-own}
use Rattle.thread_spaces.proofs.given_threads.GivenThread.slots_are_own.Goals as goal

pub returns : goal.returns
returns c =
    let given = c.args.self.now in
    none-stray-own given.space.image.now given.space.thread.now c.args.slots.now.image.now c.args.slots.now.changes.now c.header.ensures.fits
    given.well_formed (record { number = given.number; listed = given.in_image }) (c.requires ∙ given.listed) c.args.slots.now.narrow
