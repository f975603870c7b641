-- The pages find what the image does, and nothing where the world does nothing.
use Rattle.std.proofs.Common.{◌∙◌, sym}
use Rattle.runner.proofs.KeptEvents.{none-outside, same-first}
use Rattle.runner.proofs.device_pages.first_outside.Goals as goal

pub returns-then-not-any_of_world : goal.returns-then-not-any_of_world
returns-then-not-any_of_world c =
    sym (none-outside c.args.image.now c.args.events.now (sym c.any_of_world.ensures ∙ c.if-not-any_of_world.true))

pub returns : goal.returns
returns c = c.first_outside.ensures ∙ same-first c.args.image.now c.in_ok-pages.pages c.args.events.now c.in_ok-pages.ensures
