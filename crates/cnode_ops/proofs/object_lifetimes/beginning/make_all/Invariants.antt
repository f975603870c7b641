-- So many are made, and the next one comes at its place.
use Rattle.std.proofs.Common.{◌≡◌, ◌+◌, ◌*◌, ◌^◌}
use Rattle.cnode_ops.specs.Placed.{new_objects}
use Rattle.model.specs.Kernel.ObjectTypes.{new_type}
use Rattle.cnode_ops.specs.object_lifetimes.Beginnings.{AreMade}
use Rattle.model.specs.Kernel.Retype.{object_bits}
use Rattle.objects.specs.Standing.{Standing}
use Rattle.objects.specs.Tables.{state_of}
use Rattle.cnode_ops.proofs.object_lifetimes.beginning.make_all.Given as goal

abbrev pub invariant-objects : goal.invariant-objects
invariant-objects g l = record {
  made : AreMade (state_of l.fn.objects (g.S.SlotMap.slots l.fn.store) (g.S.SlotStore.memory l.fn.store))
      (state_of l.objects (g.S.SlotMap.slots l.store) (g.S.SlotStore.memory l.store))
      (g.S.SlotStore.memory l.store) (new_objects l.fn.new) l.fn.at.window l.fn.at.parent l.index;
  place : l.place ≡ l.fn.new.first + l.index * 2 ^ object_bits (new_type l.fn.new.kind);
  stands : Standing l.objects (g.S.SlotMap.slots l.store) (g.S.SlotStore.memory l.store);
}
