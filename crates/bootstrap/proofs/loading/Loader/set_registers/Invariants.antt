-- The registers that are left are set as all of them would be.
use Rattle.std.proofs.Common.{◌≡◌, ◌+◌, ◌≤◌, length, map}
use Rattle.bootstrap.specs.Loading.{called, progress_of, register_call}
use Rattle.bootstrap.proofs.loading.Loader.set_registers.Given as goal

abbrev pub invariant-loop-entry : goal.invariant-loop-entry
invariant-loop-entry l = record {
  same : called (progress_of l.fn.self) (map (register_call l.tcb) l.thread.registers) ≡ called (progress_of l.self)
      (map (register_call l.tcb) l.entry-iterator);
  room : l.self.calls + length l.entry-iterator ≤ l.fn.self.calls + 31;
}
