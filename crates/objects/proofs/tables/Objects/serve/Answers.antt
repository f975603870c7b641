-- The first has left.
use Rattle.std.proofs.Common.{◌∙◌, ap}
use Rattle.model.specs.Kernel.Kinds.{kind_at}
use Rattle.model.specs.Kernel.State.{State}
use Rattle.objects.proofs.Doing.{serve-done}
use Rattle.objects.proofs.Frames.{kind-served, one-changed}
use Rattle.objects.proofs.Holding.{kind-state, laid-here}
use Rattle.objects.proofs.InQueues.{times-first}
use Rattle.objects.proofs.Told.{is-thread}
use Rattle.queues.proofs.Laws.{kinds_apart}
use Rattle.objects.specs.Tables.{kind_in, places_of, sending_in, state_of, waiting_of}
use Rattle.objects.specs.Waiting.{served}
use Rattle.objects.specs.contracts.tables.Objects.{the_view}
use Rattle.objects.proofs.tables.Objects.serve.Goals as goal

pub pop-requires-clause-laid : goal.pop-requires-clause-laid
pop-requires-clause-laid g c =
    let stands = rw (← c.self.view_is) at c.requires.stands in
    laid-here (the_view c.self.inside) c.self.invariant (g.S.SlotMap.slots c.args.store.now) (g.S.SlotStore.memory c.args.store.now) stands.fits

pub pop-requires-clause-stands : goal.pop-requires-clause-stands
pop-requires-clause-stands g c =
    let stands = rw (← c.self.view_is) at c.requires.stands in
    stands.waiting

pub returns-clause-state : goal.returns-clause-state
returns-clause-state g c =
    let stands = rw (← c.self.view_is) at c.requires.stands in
    let first = rw (← c.self.view_is) at c.requires.first in
    rw (← c.self.view_is) (serve-done (the_view c.self.inside) (g.S.SlotMap.slots c.args.store.now) (g.S.SlotMap.slots c.pop.new.store)
    (g.S.SlotStore.memory c.args.store.now) (g.S.SlotStore.memory c.pop.new.store) stands c.pop.ensures.slots c.self.invariant c.args.queue c.args.thread
    first c.pop.ensures.queues c.pop.ensures.stands c.pop.ensures.bytes).0.state

pub returns-clause-bytes : goal.returns-clause-bytes
returns-clause-bytes g c =
    let stands = rw (← c.self.view_is) at c.requires.stands in
    let first = rw (← c.self.view_is) at c.requires.first in
    rw (← c.self.view_is) (serve-done (the_view c.self.inside) (g.S.SlotMap.slots c.args.store.now) (g.S.SlotMap.slots c.pop.new.store)
    (g.S.SlotStore.memory c.args.store.now) (g.S.SlotStore.memory c.pop.new.store) stands c.pop.ensures.slots c.self.invariant c.args.queue c.args.thread
    first c.pop.ensures.queues c.pop.ensures.stands c.pop.ensures.bytes).1

pub returns-clause-stands : goal.returns-clause-stands
returns-clause-stands g c =
    let stands = rw (← c.self.view_is) at c.requires.stands in
    let first = rw (← c.self.view_is) at c.requires.first in
    rw (← c.self.view_is) (serve-done (the_view c.self.inside) (g.S.SlotMap.slots c.args.store.now) (g.S.SlotMap.slots c.pop.new.store)
    (g.S.SlotStore.memory c.args.store.now) (g.S.SlotStore.memory c.pop.new.store) stands c.pop.ensures.slots c.self.invariant c.args.queue c.args.thread
    first c.pop.ensures.queues c.pop.ensures.stands c.pop.ensures.bytes).0.stands

pub returns-clause-there : goal.returns-clause-there
returns-clause-there g c =
    let stands = rw (← c.self.view_is) at c.requires.stands in
    let first = rw (← c.self.view_is) at c.requires.first in
    let s = state_of (the_view c.self.inside) (g.S.SlotMap.slots c.args.store.now) (g.S.SlotStore.memory c.args.store.now) in
    let sent = served (sending_in (the_view c.self.inside) (g.S.SlotStore.memory c.args.store.now) c.args.thread) in
    let waits = kinds_apart.waiters (places_of (the_view c.self.inside)) (g.S.SlotStore.memory c.args.store.now) stands.waiting c.args.queue c.args.thread
    (times-first (waiting_of (the_view c.self.inside) (g.S.SlotStore.memory c.args.store.now) c.args.queue) c.args.thread first) in
    rw (← c.self.view_is) (ap (λ (u : State). kind_at u c.args.thread)
    (serve-done (the_view c.self.inside) (g.S.SlotMap.slots c.args.store.now) (g.S.SlotMap.slots c.pop.new.store) (g.S.SlotStore.memory c.args.store.now)
    (g.S.SlotStore.memory c.pop.new.store) stands c.pop.ensures.slots c.self.invariant c.args.queue c.args.thread first c.pop.ensures.queues
    c.pop.ensures.stands c.pop.ensures.bytes).0.state
    ∙ (one-changed s c.args.queue sent (kind-served (sending_in (the_view c.self.inside) (g.S.SlotStore.memory c.args.store.now) c.args.thread))).kinds
    c.args.thread
    ∙ kind-state (the_view c.self.inside) c.args.thread (g.S.SlotMap.slots c.args.store.now) (g.S.SlotStore.memory c.args.store.now)
    ∙ is-thread (kind_in (the_view c.self.inside) c.args.thread) waits)
