-- The slot names the object, and each step leads nearer to the front.
use Rattle.std.proofs.Common.{◌≡◌, true}
use Rattle.packed_slots.specs.Packing.{packed_order, packed_slots}
use Rattle.packed_slots.proofs.Naming.{place_of}
use Rattle.slots.specs.Listed.{is_naming}
use Rattle.packed_slots.proofs.store.PackedSlots.first_naming.Given as goal

abbrev pub invariant-back : goal.invariant-back
invariant-back l = is_naming (packed_slots l.self) l.offset l.here ≡ true

abbrev pub decreases-back : goal.decreases-back
decreases-back l = place_of (packed_order l.self) l.here
