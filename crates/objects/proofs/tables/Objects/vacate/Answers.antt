-- Nothing is there any more.
use Rattle.objects.proofs.Holding.{laid-here}
use Rattle.objects.proofs.Parting.{tables-less, vacate-done}
use Rattle.objects.specs.contracts.tables.Objects.{the_view}
use Rattle.objects.proofs.tables.Objects.vacate.Goals as goal

pub end-requires-clause-laid : goal.end-requires-clause-laid
end-requires-clause-laid g c =
    let stands = rw (← c.self.view_is) at c.requires.stands in
    laid-here (the_view c.self.inside) c.self.invariant (g.S.SlotMap.slots c.args.store.now) (g.S.SlotStore.memory c.args.store.now) stands.fits

pub end-requires-clause-stands : goal.end-requires-clause-stands
end-requires-clause-stands g c =
    let stands = rw (← c.self.view_is) at c.requires.stands in
    stands.waiting

pub invariant_of-self : goal.invariant_of-self
invariant_of-self g c = tables-less (the_view c.self.inside) c.clear.new.self c.args.offset c.self.invariant c.clear.ensures.long c.clear.ensures.entries

pub returns-clause-state : goal.returns-clause-state
returns-clause-state g c =
    let stands = rw (← c.self.view_is) at c.requires.stands in
    let waits_not = rw (← c.self.view_is) at c.requires.gone.waits_not in
    let ready_not = rw (← c.self.view_is) at c.requires.gone.ready_not in
    let rights_not = rw (← c.self.view_is) at c.requires.gone.rights_not in
    rw (← c.self.view_is) (vacate-done (the_view c.self.inside) (g.S.SlotMap.slots c.args.store.now) (g.S.SlotMap.slots c.end.new.store)
    (g.S.SlotStore.memory c.args.store.now) stands c.end.ensures.slots c.self.invariant c.clear.new.self c.args.offset
    (g.S.SlotStore.memory c.end.new.store) c.clear.ensures.long c.clear.ensures.entries waits_not ready_not rights_not c.end.ensures.queues
    c.end.ensures.stands c.end.ensures.bytes).0.state

pub returns-clause-bytes : goal.returns-clause-bytes
returns-clause-bytes g c =
    let stands = rw (← c.self.view_is) at c.requires.stands in
    let waits_not = rw (← c.self.view_is) at c.requires.gone.waits_not in
    let ready_not = rw (← c.self.view_is) at c.requires.gone.ready_not in
    let rights_not = rw (← c.self.view_is) at c.requires.gone.rights_not in
    rw (← c.self.view_is) (vacate-done (the_view c.self.inside) (g.S.SlotMap.slots c.args.store.now) (g.S.SlotMap.slots c.end.new.store)
    (g.S.SlotStore.memory c.args.store.now) stands c.end.ensures.slots c.self.invariant c.clear.new.self c.args.offset
    (g.S.SlotStore.memory c.end.new.store) c.clear.ensures.long c.clear.ensures.entries waits_not ready_not rights_not c.end.ensures.queues
    c.end.ensures.stands c.end.ensures.bytes).1

pub returns-clause-stands : goal.returns-clause-stands
returns-clause-stands g c =
    let stands = rw (← c.self.view_is) at c.requires.stands in
    let waits_not = rw (← c.self.view_is) at c.requires.gone.waits_not in
    let ready_not = rw (← c.self.view_is) at c.requires.gone.ready_not in
    let rights_not = rw (← c.self.view_is) at c.requires.gone.rights_not in
    (vacate-done (the_view c.self.inside) (g.S.SlotMap.slots c.args.store.now) (g.S.SlotMap.slots c.end.new.store) (g.S.SlotStore.memory c.args.store.now)
    stands c.end.ensures.slots c.self.invariant c.clear.new.self c.args.offset (g.S.SlotStore.memory c.end.new.store) c.clear.ensures.long
    c.clear.ensures.entries waits_not ready_not rights_not c.end.ensures.queues c.end.ensures.stands c.end.ensures.bytes).0.stands
