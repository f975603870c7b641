-- What was found among the events that are done.
use Rattle.std.proofs.Common.{◌≡◌, Ok}
use Rattle.kernel_machine.specs.Setups.{state_in}
use Rattle.debugging.specs.Runs.{shown}
use Rattle.debugging.specs.Stops.{IsLast}
use Rattle.debugging.proofs.searches.last_halt_between.Given as goal

abbrev pub invariant-events : goal.invariant-events
invariant-events l = record {
  state : shown l.fn.run.image l.fn.run.events l.place ≡ Ok (state_in l.system);
  last : IsLast l.fn.stops l.fn.turn l.fn.run l.fn.first l.found l.place;
}
