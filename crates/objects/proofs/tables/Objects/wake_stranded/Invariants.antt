-- What is left to be swept leaves what sweeping all would.
use Rattle.std.proofs.Common.{◌≡◌}
use Rattle.objects.proofs.Stranded.{SweptSoFar}
use Rattle.objects.proofs.tables.Objects.wake_stranded.Given as goal

abbrev pub invariant-places : goal.invariant-places
invariant-places g l =
    SweptSoFar l.initial.self l.self (g.S.SlotMap.slots l.initial.store) (g.S.SlotMap.slots l.store) (g.S.SlotStore.memory l.initial.store)
    (g.S.SlotStore.memory l.store)
    l.number l.count × (g.S.SlotStore.order l.store ≡ g.S.SlotStore.order l.initial.store)
