-- No stop was passed, and no turn.
use Rattle.std.proofs.Common.{ℕ, ◌≡◌, ◌+◌, ◌<◌, ◌≤◌}
use Rattle.debugging.specs.Stops.{AreOneRun, IsOther, Passes}
use Rattle.debugging.proofs.searches.run_to_stop.Given as goal

abbrev pub invariant-events : goal.invariant-events
invariant-events l = record {
  same : AreOneRun l.fn.run l.run;
  done : l.run.done ≡ l.fn.run.done + l.counter;
  first : (count : ℕ) → l.fn.run.done < count → count ≤ l.run.done → Passes l.fn.stops l.fn.run count;
  turn : (count : ℕ) → l.fn.run.done ≤ count → count < l.run.done → IsOther l.fn.turn l.fn.run count;
}
