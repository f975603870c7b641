-- The thread leaves all queues, and then nobody may reply to it.
use Rattle.std.proofs.Common.{◌∙◌, length, subst, sym}
use Rattle.queues.specs.Layout.{AreLaidOut}
use Rattle.objects.proofs.Holding.{entry-there, laid-here, threads-laid}
use Rattle.objects.proofs.Parting.{forget-done, forget-ready, forget-rights, forget-waits, known-two, ready-after}
use Rattle.objects.specs.Laid.{AreThreadsLaid}
use Rattle.objects.specs.Tables.{places_of}
use Rattle.objects.specs.contracts.tables.Objects.{the_view}
use Rattle.objects.proofs.tables.Objects.forget.Goals as goal

pub leave-requires-clause-laid : goal.leave-requires-clause-laid
leave-requires-clause-laid g c =
    let stands = rw (← c.self.view_is) at c.requires.stands in
    laid-here (the_view c.self.inside) c.self.invariant (g.S.SlotMap.slots c.args.store.now) (g.S.SlotStore.memory c.args.store.now) stands.fits

pub leave-requires-clause-stands : goal.leave-requires-clause-stands
leave-requires-clause-stands g c =
    let stands = rw (← c.self.view_is) at c.requires.stands in
    stands.waiting

pub leave-requires-2-clause-laid : goal.leave-requires-2-clause-laid
leave-requires-2-clause-laid g c =
    let stands = rw (← c.self.view_is) at c.requires.stands in
    subst (λ slots. AreLaidOut (places_of (the_view c.self.inside)) slots (length (g.S.SlotStore.memory c.leave.new.store))) (sym c.leave.ensures.slots)
    (subst (AreLaidOut (places_of (the_view c.self.inside)) (g.S.SlotMap.slots c.args.store.now)) (sym c.leave.ensures.bytes.size)
    (laid-here (the_view c.self.inside) c.self.invariant (g.S.SlotMap.slots c.args.store.now) (g.S.SlotStore.memory c.args.store.now) stands.fits))

pub leave-requires-2-clause-stands : goal.leave-requires-2-clause-stands
leave-requires-2-clause-stands g c =
    let stands = rw (← c.self.view_is) at c.requires.stands in
    ready-after (the_view c.self.inside) (g.S.SlotMap.slots c.args.store.now) (g.S.SlotMap.slots c.leave.new.store) (g.S.SlotStore.memory c.args.store.now)
    stands c.leave.ensures.slots c.self.invariant (g.S.SlotStore.memory c.leave.new.store) c.leave.ensures.bytes

pub void_rights-requires-clause-laid : goal.void_rights-requires-clause-laid
void_rights-requires-clause-laid g c =
    let stands = rw (← c.self.view_is) at c.requires.stands in
    subst (λ slots. AreThreadsLaid (the_view c.self.inside).entries slots (length (g.S.SlotStore.memory c.leave-2.new.store)))
    (sym (c.leave-2.ensures.slots ∙ c.leave.ensures.slots))
    (subst (AreThreadsLaid (the_view c.self.inside).entries (g.S.SlotMap.slots c.args.store.now))
    (sym (c.leave-2.ensures.bytes.size ∙ c.leave.ensures.bytes.size))
    (threads-laid (the_view c.self.inside) (g.S.SlotMap.slots c.args.store.now) (g.S.SlotStore.memory c.args.store.now) stands))

pub void_rights-requires-clause-known : goal.void_rights-requires-clause-known
void_rights-requires-clause-known g c =
    let stands = rw (← c.self.view_is) at c.requires.stands in
    known-two (the_view c.self.inside) (g.S.SlotMap.slots c.args.store.now) (g.S.SlotMap.slots c.leave-2.new.store) (g.S.SlotStore.memory c.args.store.now)
    stands (c.leave-2.ensures.slots ∙ c.leave.ensures.slots) c.self.invariant c.leave-2.new.self c.args.thread (g.S.SlotStore.memory c.leave.new.store)
    (g.S.SlotStore.memory c.leave-2.new.store) c.leave.ensures.queues c.leave.ensures.stands c.leave.ensures.bytes c.leave-2.ensures.queues
    c.leave-2.ensures.stands c.leave-2.ensures.bytes

pub void_rights-requires-clause-there : goal.void_rights-requires-clause-there
void_rights-requires-clause-there g c =
    let there = rw (← c.self.view_is) at c.requires.there in
    entry-there (the_view c.self.inside) c.args.thread there

pub returns-clause-state : goal.returns-clause-state
returns-clause-state g c =
    let stands = rw (← c.self.view_is) at c.requires.stands in
    rw (← c.self.view_is) (forget-done (the_view c.self.inside) (g.S.SlotMap.slots c.args.store.now) (g.S.SlotMap.slots c.void_rights.new.store)
    (g.S.SlotStore.memory c.args.store.now) stands (c.void_rights.ensures.slots ∙ c.leave-2.ensures.slots ∙ c.leave.ensures.slots) c.self.invariant
    c.leave-2.new.self c.args.thread (g.S.SlotStore.memory c.leave.new.store) (g.S.SlotStore.memory c.leave-2.new.store) c.leave.ensures.queues
    c.leave.ensures.stands c.leave.ensures.bytes c.leave-2.ensures.queues c.leave-2.ensures.stands c.leave-2.ensures.bytes
    (g.S.SlotStore.memory c.void_rights.new.store) c.void_rights.ensures.threads c.void_rights.ensures.bytes).0.state

pub returns-clause-bytes : goal.returns-clause-bytes
returns-clause-bytes g c =
    let stands = rw (← c.self.view_is) at c.requires.stands in
    rw (← c.self.view_is) (forget-done (the_view c.self.inside) (g.S.SlotMap.slots c.args.store.now) (g.S.SlotMap.slots c.void_rights.new.store)
    (g.S.SlotStore.memory c.args.store.now) stands (c.void_rights.ensures.slots ∙ c.leave-2.ensures.slots ∙ c.leave.ensures.slots) c.self.invariant
    c.leave-2.new.self c.args.thread (g.S.SlotStore.memory c.leave.new.store) (g.S.SlotStore.memory c.leave-2.new.store) c.leave.ensures.queues
    c.leave.ensures.stands c.leave.ensures.bytes c.leave-2.ensures.queues c.leave-2.ensures.stands c.leave-2.ensures.bytes
    (g.S.SlotStore.memory c.void_rights.new.store) c.void_rights.ensures.threads c.void_rights.ensures.bytes).1

pub returns-clause-stands : goal.returns-clause-stands
returns-clause-stands g c =
    let stands = rw (← c.self.view_is) at c.requires.stands in
    (forget-done (the_view c.self.inside) (g.S.SlotMap.slots c.args.store.now) (g.S.SlotMap.slots c.void_rights.new.store)
    (g.S.SlotStore.memory c.args.store.now) stands (c.void_rights.ensures.slots ∙ c.leave-2.ensures.slots ∙ c.leave.ensures.slots) c.self.invariant
    c.leave-2.new.self c.args.thread (g.S.SlotStore.memory c.leave.new.store) (g.S.SlotStore.memory c.leave-2.new.store) c.leave.ensures.queues
    c.leave.ensures.stands c.leave.ensures.bytes c.leave-2.ensures.queues c.leave-2.ensures.stands c.leave-2.ensures.bytes
    (g.S.SlotStore.memory c.void_rights.new.store) c.void_rights.ensures.threads c.void_rights.ensures.bytes).0.stands

pub returns-clause-waits_not : goal.returns-clause-waits_not
returns-clause-waits_not g c =
    let stands = rw (← c.self.view_is) at c.requires.stands in
    forget-waits (the_view c.self.inside) (g.S.SlotMap.slots c.args.store.now) (g.S.SlotMap.slots c.void_rights.new.store)
    (g.S.SlotStore.memory c.args.store.now) stands (c.void_rights.ensures.slots ∙ c.leave-2.ensures.slots ∙ c.leave.ensures.slots) c.self.invariant
    c.leave-2.new.self c.args.thread (g.S.SlotStore.memory c.leave.new.store) (g.S.SlotStore.memory c.leave-2.new.store) c.leave.ensures.queues
    c.leave.ensures.stands c.leave.ensures.bytes c.leave-2.ensures.queues c.leave-2.ensures.stands c.leave-2.ensures.bytes
    (g.S.SlotStore.memory c.void_rights.new.store) c.void_rights.ensures.threads c.void_rights.ensures.bytes

pub returns-clause-ready_not : goal.returns-clause-ready_not
returns-clause-ready_not g c =
    let stands = rw (← c.self.view_is) at c.requires.stands in
    forget-ready (the_view c.self.inside) (g.S.SlotMap.slots c.args.store.now) (g.S.SlotMap.slots c.void_rights.new.store)
    (g.S.SlotStore.memory c.args.store.now) stands (c.void_rights.ensures.slots ∙ c.leave-2.ensures.slots ∙ c.leave.ensures.slots) c.self.invariant
    c.leave-2.new.self c.args.thread (g.S.SlotStore.memory c.leave.new.store) (g.S.SlotStore.memory c.leave-2.new.store) c.leave.ensures.queues
    c.leave.ensures.stands c.leave.ensures.bytes c.leave-2.ensures.queues c.leave-2.ensures.stands c.leave-2.ensures.bytes
    (g.S.SlotStore.memory c.void_rights.new.store) c.void_rights.ensures.threads c.void_rights.ensures.bytes

pub returns-clause-rights_not : goal.returns-clause-rights_not
returns-clause-rights_not g c =
    let stands = rw (← c.self.view_is) at c.requires.stands in
    forget-rights (the_view c.self.inside) (g.S.SlotMap.slots c.args.store.now) (g.S.SlotMap.slots c.void_rights.new.store)
    (g.S.SlotStore.memory c.args.store.now) stands (c.void_rights.ensures.slots ∙ c.leave-2.ensures.slots ∙ c.leave.ensures.slots) c.self.invariant
    c.leave-2.new.self c.args.thread (g.S.SlotStore.memory c.leave.new.store) (g.S.SlotStore.memory c.leave-2.new.store) c.leave.ensures.queues
    c.leave.ensures.stands c.leave.ensures.bytes c.leave-2.ensures.queues c.leave-2.ensures.stands c.leave-2.ensures.bytes
    (g.S.SlotStore.memory c.void_rights.new.store) c.void_rights.ensures.threads c.void_rights.ensures.bytes
