-- Nothing is kept.
use Rattle.packed_slots.proofs.cached_slots.LeavesKept.{among_emptied}
use Rattle.packed_slots.proofs.cached_slots.caches.Tlb.new.Goals as goal

pub returns-clause-among : goal.returns-clause-among
returns-clause-among c = λ leaves. among_emptied leaves 64
