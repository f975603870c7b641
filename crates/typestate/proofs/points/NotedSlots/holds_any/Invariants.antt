-- None so far is full.
use Rattle.std.proofs.Common.{◌≡◌, ◌+◌, ◌-◌, ◌≤◌, is_some}
use Rattle.std.specs.List.{list_any, range_with_len}
use Rattle.model.specs.Acceptance.NotedStates.{slot_at}
use Rattle.typestate.specs.Differences.{slots_of}
use Rattle.typestate.specs.Pools.{some_full}
use Rattle.typestate.proofs.points.NotedSlots.holds_any.Given as goal

abbrev pub invariant-loop-i : goal.invariant-loop-i
invariant-loop-i l = record {
  within : l.i ≤ l.fn.run.count;
  left : list_any (λ i. is_some (slot_at (slots_of l.fn.self) (record { cnode = l.fn.run.first.cnode; index = l.fn.run.first.index + i })))
      (range_with_len l.i (l.fn.run.count - l.i)) ≡ some_full (slots_of l.fn.self) l.fn.run.first l.fn.run.count;
}
