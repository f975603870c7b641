-- What was found is found in the events so far.
use Rattle.std.proofs.Common.{◌≡◌, take}
use Rattle.std.specs.List.{list_any}
use Rattle.runner.specs.Devices.{is_of_world}
use Rattle.runner.proofs.device_pages.any_of_world.Given as goal

abbrev pub invariant-loop-event : goal.invariant-loop-event
invariant-loop-event l = l.found ≡ list_any is_of_world (take l.event-index l.events)
