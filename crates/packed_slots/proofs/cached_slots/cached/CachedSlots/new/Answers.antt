-- Nothing is kept.
use Rattle.packed_slots.proofs.cached_slots.Kept.{none-mapped}
use Rattle.packed_slots.proofs.cached_slots.cached.CachedSlots.new.Goals as goal

pub invariant_of-result : goal.invariant_of-result
invariant_of-result g c = none-mapped (g.S.SlotMap.slots c.args.store) c.new.result c.new.ensures.empty
