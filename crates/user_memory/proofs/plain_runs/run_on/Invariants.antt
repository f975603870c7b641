-- So many steps were made, and their labels are seen.
use Rattle.std.proofs.Common.{◌≡◌, ◌++◌}
use Rattle.std.specs.List.{flat_map}
use Rattle.model.specs.Kernel.Messages.{with_registers}
use Rattle.model.specs.Kernel.Steps.{state_after, trace}
use Rattle.objects.specs.Lives.{state_in}
use Rattle.user_memory.specs.KeptPages.{IsUnderWay}
use Rattle.user_memory.specs.Runs.{steps}
use Rattle.user_memory.proofs.plain_runs.run_on.Given as goal

abbrev pub invariant-steps : goal.invariant-steps
invariant-steps g l = record {
  ready : IsUnderWay (state_in g.S.SlotMap.slots g.S.SlotStore.memory l.kernel) l.fn.thread l.code.pages;
  state : with_registers (state_in g.S.SlotMap.slots g.S.SlotStore.memory l.kernel) l.fn.thread l.registers
      ≡ state_after (with_registers (state_in g.S.SlotMap.slots g.S.SlotStore.memory l.fn.kernel) l.fn.thread l.fn.registers) (steps l.done);
  labels : g.L.Labels.seen l.labels
      ≡ g.L.Labels.seen l.fn.labels
      ++ flat_map g.L.Labels.kept (trace (with_registers (state_in g.S.SlotMap.slots g.S.SlotStore.memory l.fn.kernel) l.fn.thread l.fn.registers)
      (steps l.done));
}
