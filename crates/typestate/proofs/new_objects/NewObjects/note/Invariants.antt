-- So many slots are there.
use Rattle.std.proofs.Common.{◌≡◌, ◌++◌, ◌≤◌, map}
use Rattle.std.specs.List.{range_with_len}
use Rattle.model.specs.Kernel.ObjectTypes.{new_type}
use Rattle.typestate.specs.Pools.{slot_made}
use Rattle.typestate.proofs.new_objects.NewObjects.note.Given as goal

abbrev pub invariant-loop-i : goal.invariant-loop-i
invariant-loop-i l = record {
  within : l.i ≤ l.fn.self.slots.count;
  made : l.made.items ≡ l.fn.made.items ++ map (slot_made l.fn.self.slots.first l.fn.self.pool (new_type l.fn.self.kind) l.fn.self.offset)
      (range_with_len 0 l.i);
}
