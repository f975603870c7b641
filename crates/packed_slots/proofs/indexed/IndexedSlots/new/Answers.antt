-- Nothing is held.
use Rattle.packed_slots.specs.Packing.{packed_slots}
use Rattle.packed_slots.proofs.Counting.{none-counted}
use Rattle.packed_slots.proofs.NamedChanges.{none-named}
use Rattle.packed_slots.proofs.indexed.IndexedSlots.new.Goals as goal

pub invariant_of-result : goal.invariant_of-result
invariant_of-result c = record {
  counted = none-counted (packed_slots c.in_ok-store.store) c.none.result c.in_ok-store.ensures.slots c.none.ensures;
  known = none-named (packed_slots c.in_ok-store.store) c.in_ok-named.named c.in_ok-store.ensures.slots c.in_ok-named.ensures;
}
