-- The lines of the events so far are put or held, and nothing failed.
use Rattle.std.proofs.Common.{◌≡◌, ◌≤◌, ◌-◌, drop, length}
use Rattle.kernel_machine.specs.Setups.{state_in}
use Rattle.model.specs.Kernel.Steps.{state_after, trace}
use Rattle.kernel_trace.proofs.PutLines.{ArePut}
use Rattle.kernel_trace.proofs.traces.put_trace.Given as goal

abbrev pub invariant-events : goal.invariant-events
invariant-events g l = record {
  within : l.done ≤ length l.fn.events;
  put : ArePut (trace (state_in l.fn.system) l.fn.events) (g.S.Sink.contents l.fn.sink) (trace (state_in l.system) (drop l.done l.fn.events))
      l.lines.bytes (g.S.Sink.contents l.sink);
  goes : state_after (state_in l.fn.system) l.fn.events ≡ state_after (state_in l.system) (drop l.done l.fn.events);
  counted : g.S.Sink.failures l.sink ≡ g.S.Sink.failures l.fn.sink;
}

abbrev pub decreases-events : goal.decreases-events
decreases-events g l = length l.fn.events - l.done
