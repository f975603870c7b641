-- So many steps were made, and their labels are seen.
use Rattle.std.proofs.Common.{◌≡◌, ◌++◌, ◌-◌, ◌≤◌, replicate}
use Rattle.std.specs.List.{flat_map}
use Rattle.model.specs.Kernel.Steps.{state_after, trace}
use Rattle.model.specs.declared.events.Event.TheVariants.{Step}
use Rattle.objects.specs.Lives.{state_in}
use Rattle.kernel.proofs.runs.run.Given as goal

abbrev pub invariant-runs : goal.invariant-runs
invariant-runs g l = record {
  few : l.done ≤ l.fn.most;
  state : state_in g.S.SlotMap.slots g.S.SlotStore.memory l.kernel
      ≡ state_after (state_in g.S.SlotMap.slots g.S.SlotStore.memory l.fn.kernel) (replicate l.done Step);
  labels : g.L.Labels.seen l.labels
      ≡ g.L.Labels.seen l.fn.labels ++ flat_map g.L.Labels.kept (trace (state_in g.S.SlotMap.slots g.S.SlotStore.memory l.fn.kernel) (replicate l.done Step));
}

abbrev pub decreases-runs : goal.decreases-runs
decreases-runs g l = l.fn.most - l.done
