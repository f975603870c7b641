-- The lines of so many of the events are put, and nothing failed.
use Rattle.std.proofs.Common.{◌≡◌, ◌-◌, ◌≤◌, replicate}
use Rattle.kernel_machine.specs.Setups.{state_in}
use Rattle.model.specs.Kernel.Steps.{state_after, trace}
use Rattle.kernel_trace.specs.Lines.{lines_of}
use Rattle.sinks.specs.Sinks.{Grows}
use Rattle.kernel_trace.proofs.answers.put_times.Given as goal

abbrev pub invariant-pieces : goal.invariant-pieces
invariant-pieces g l = record {
  within : l.left ≤ l.fn.count;
  put : Grows (g.S.Sink.contents l.fn.sink) (g.S.Sink.contents l.sink)
      (lines_of (trace (state_in l.fn.system) (replicate (l.fn.count - l.left) l.fn.event)));
  goes : state_in l.system ≡ state_after (state_in l.fn.system) (replicate (l.fn.count - l.left) l.fn.event);
  counted : g.S.Sink.failures l.sink ≡ g.S.Sink.failures l.fn.sink;
}

abbrev pub decreases-pieces : goal.decreases-pieces
decreases-pieces g l = l.left
