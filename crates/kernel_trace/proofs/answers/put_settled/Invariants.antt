-- The lines of the steps so far are put or held, and nothing failed.
use Rattle.std.proofs.Common.{◌≡◌}
use Rattle.kernel_machine.specs.Setups.{state_in}
use Rattle.model.specs.Kernel.Steps.{state_after, trace}
use Rattle.kernel_trace.specs.Asked.{settling}
use Rattle.kernel_trace.proofs.PutLines.{ArePut}
use Rattle.kernel_trace.proofs.answers.put_settled.Given as goal

abbrev pub invariant-steps : goal.invariant-steps
invariant-steps g l = record {
  put : ArePut (trace (state_in l.fn.system) (settling l.fn.most (state_in l.fn.system))) (g.S.Sink.contents l.fn.sink)
      (trace (state_in l.system) (settling l.left (state_in l.system))) l.lines.bytes (g.S.Sink.contents l.sink);
  goes : state_after (state_in l.fn.system) (settling l.fn.most (state_in l.fn.system)) ≡ state_after (state_in l.system) (settling l.left (state_in l.system));
  counted : g.S.Sink.failures l.sink ≡ g.S.Sink.failures l.fn.sink;
}

abbrev pub decreases-steps : goal.decreases-steps
decreases-steps g l = l.left
