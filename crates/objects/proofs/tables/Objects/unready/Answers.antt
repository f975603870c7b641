-- The thread leaves the ready list.
use Rattle.objects.proofs.Doing.{unready-done}
use Rattle.objects.proofs.Holding.{laid-here}
use Rattle.objects.specs.contracts.tables.Objects.{the_view}
use Rattle.objects.proofs.tables.Objects.unready.Goals as goal

pub leave-requires-clause-laid : goal.leave-requires-clause-laid
leave-requires-clause-laid g c =
    let stands = rw (← c.self.view_is) at c.requires.stands in
    laid-here (the_view c.self.inside) c.self.invariant (g.S.SlotMap.slots c.args.store.now) (g.S.SlotStore.memory c.args.store.now) stands.fits

pub leave-requires-clause-stands : goal.leave-requires-clause-stands
leave-requires-clause-stands g c =
    let stands = rw (← c.self.view_is) at c.requires.stands in
    stands.ready

pub returns-clause-state : goal.returns-clause-state
returns-clause-state g c =
    let stands = rw (← c.self.view_is) at c.requires.stands in
    rw (← c.self.view_is) (unready-done (the_view c.self.inside) (g.S.SlotMap.slots c.args.store.now) (g.S.SlotMap.slots c.leave.new.store)
    (g.S.SlotStore.memory c.args.store.now) (g.S.SlotStore.memory c.leave.new.store) stands c.leave.ensures.slots c.self.invariant c.leave.new.self
    c.args.offset c.leave.ensures.queues c.leave.ensures.stands c.leave.ensures.bytes).0.state

pub returns-clause-bytes : goal.returns-clause-bytes
returns-clause-bytes g c =
    let stands = rw (← c.self.view_is) at c.requires.stands in
    rw (← c.self.view_is) (unready-done (the_view c.self.inside) (g.S.SlotMap.slots c.args.store.now) (g.S.SlotMap.slots c.leave.new.store)
    (g.S.SlotStore.memory c.args.store.now) (g.S.SlotStore.memory c.leave.new.store) stands c.leave.ensures.slots c.self.invariant c.leave.new.self
    c.args.offset c.leave.ensures.queues c.leave.ensures.stands c.leave.ensures.bytes).1

pub returns-clause-stands : goal.returns-clause-stands
returns-clause-stands g c =
    let stands = rw (← c.self.view_is) at c.requires.stands in
    (unready-done (the_view c.self.inside) (g.S.SlotMap.slots c.args.store.now) (g.S.SlotMap.slots c.leave.new.store) (g.S.SlotStore.memory c.args.store.now)
    (g.S.SlotStore.memory c.leave.new.store) stands c.leave.ensures.slots c.self.invariant c.leave.new.self c.args.offset c.leave.ensures.queues
    c.leave.ensures.stands c.leave.ensures.bytes).0.stands
