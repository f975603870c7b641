-- The queues are where the tables say.
use Rattle.objects.proofs.Holding.{laid-here}
use Rattle.objects.specs.contracts.tables.Objects.{the_view}
use Rattle.objects.proofs.tables.Objects.first_waiting.Goals as goal

pub first-requires : goal.first-requires
first-requires g c =
    let stands = rw (← c.self.view_is) at c.requires in
    laid-here (the_view c.self.inside) c.self.invariant (g.S.SlotMap.slots c.args.store.now) (g.S.SlotStore.memory c.args.store.now) stands.fits
