-- None is among those that were looked at.
use Rattle.std.proofs.Common.{◌<◌, ◌≤◌, None}
use Rattle.debugging.specs.Stops.{IsLast}
use Rattle.debugging.proofs.searches.last_halt.Given as goal

abbrev pub invariant-loop-limit : goal.invariant-loop-limit
invariant-loop-limit l = record {
  within : l.limit ≤ l.fn.run.done;
  grows : 0 < l.size;
  none : IsLast l.fn.stops l.fn.turn l.fn.run l.limit None l.fn.run.done;
}

abbrev pub decreases-loop-limit : goal.decreases-loop-limit
decreases-loop-limit l = l.limit
