-- Those that were passed have lost the right.
use Rattle.std.proofs.Common.{◌≡◌}
use Rattle.objects.proofs.Voiding.{VoidedSoFar}
use Rattle.objects.proofs.rights.void_several.Given as goal

abbrev pub invariant-threads : goal.invariant-threads
invariant-threads g l =
    VoidedSoFar l.initial.held l.gone (g.S.SlotMap.slots l.initial.store) (g.S.SlotMap.slots l.store) (g.S.SlotStore.memory l.initial.store)
    (g.S.SlotStore.memory l.store) l.number
    × (g.S.SlotStore.order l.store ≡ g.S.SlotStore.order l.initial.store)
