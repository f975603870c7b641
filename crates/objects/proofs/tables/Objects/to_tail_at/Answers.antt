-- The thread is after all others of its priority.
use Rattle.std.proofs.Common.{◌∙◌, length, ap, subst, sym}
use Rattle.model.specs.Kernel.State.{ThreadState}
use Rattle.model.specs.Shared.Lists.{times_in}
use Rattle.queues.specs.Layout.{AreLaidOut}
use Rattle.objects.proofs.Doing.{tail-done}
use Rattle.objects.proofs.Holding.{laid-here}
use Rattle.objects.proofs.InQueues.{times-gone}
use Rattle.objects.proofs.OneThread.{of-state, place-there, read-there}
use Rattle.objects.specs.Contents.{is_thread_kind}
use Rattle.objects.specs.Tables.{places_of, ready_at}
use Rattle.objects.specs.declared.thread_records.records.Thread.{Thread}
use Rattle.objects.specs.contracts.tables.Objects.{the_view}
use Rattle.objects.proofs.tables.Objects.to_tail_at.Goals as goal

pub new-requires : goal.new-requires
new-requires g c =
    (place-there c.args.self.now (g.S.SlotMap.slots c.args.store.now) (g.S.SlotStore.memory c.args.store.now) c.requires.stands c.args.offset
    c.requires.there).within

pub leave-requires-clause-laid : goal.leave-requires-clause-laid
leave-requires-clause-laid g c =
    let stands = rw (← c.self.view_is) at c.requires.stands in
    laid-here (the_view c.self.inside) c.self.invariant (g.S.SlotMap.slots c.args.store.now) (g.S.SlotStore.memory c.args.store.now) stands.fits

pub leave-requires-clause-stands : goal.leave-requires-clause-stands
leave-requires-clause-stands g c =
    let stands = rw (← c.self.view_is) at c.requires.stands in
    stands.ready

pub push-requires-clause-laid : goal.push-requires-clause-laid
push-requires-clause-laid g c =
    let stands = rw (← c.self.view_is) at c.requires.stands in
    subst (λ slots. AreLaidOut (places_of (the_view c.self.inside)) slots (length (g.S.SlotStore.memory c.leave.new.store))) (sym c.leave.ensures.slots)
    (subst (AreLaidOut (places_of (the_view c.self.inside)) (g.S.SlotMap.slots c.args.store.now)) (sym c.leave.ensures.bytes.size)
    (laid-here (the_view c.self.inside) c.self.invariant (g.S.SlotMap.slots c.args.store.now) (g.S.SlotStore.memory c.args.store.now) stands.fits))

pub push-requires-clause-apart : goal.push-requires-clause-apart
push-requires-clause-apart g c = λ priority.
    ap (λ l. times_in l c.args.offset) (c.leave.ensures.queues priority)
    ∙ times-gone (ready_at (the_view c.self.inside) (g.S.SlotStore.memory c.args.store.now) priority) c.args.offset

pub push-requires-clause-there : goal.push-requires-clause-there
push-requires-clause-there g c =
    let there = rw (← c.self.view_is) at c.requires.there in
    ap is_thread_kind (of-state (the_view c.self.inside) (g.S.SlotMap.slots c.args.store.now) (g.S.SlotStore.memory c.args.store.now) c.args.offset there)

pub returns-clause-state : goal.returns-clause-state
returns-clause-state g c =
    let stands = rw (← c.self.view_is) at c.requires.stands in
    let there = rw (← c.self.view_is) at c.requires.there in
    let own = c.priority-priority.ensures ∙ ap (λ (t : Thread). t.priority) c.new.ensures ∙ ap (λ (t : ThreadState). t.priority)
    (sym (read-there (the_view c.self.inside) (g.S.SlotMap.slots c.args.store.now) (g.S.SlotStore.memory c.args.store.now) c.args.offset
    (ap is_thread_kind (of-state (the_view c.self.inside) (g.S.SlotMap.slots c.args.store.now) (g.S.SlotStore.memory c.args.store.now) c.args.offset
    there)))) in
    rw (← c.self.view_is) (tail-done (the_view c.self.inside) (g.S.SlotMap.slots c.args.store.now) (g.S.SlotMap.slots c.push.new.store)
    (g.S.SlotStore.memory c.args.store.now) (g.S.SlotStore.memory c.push.new.store) stands (c.push.ensures.slots ∙ c.leave.ensures.slots) c.self.invariant
    c.push.new.self c.leave.new.self c.args.offset c.priority-priority.result (g.S.SlotStore.memory c.leave.new.store) own c.leave.ensures.queues
    c.leave.ensures.stands c.leave.ensures.bytes c.push.ensures.queues c.push.ensures.stands c.push.ensures.bytes).0.state

pub returns-clause-bytes : goal.returns-clause-bytes
returns-clause-bytes g c =
    let stands = rw (← c.self.view_is) at c.requires.stands in
    let there = rw (← c.self.view_is) at c.requires.there in
    let own = c.priority-priority.ensures ∙ ap (λ (t : Thread). t.priority) c.new.ensures ∙ ap (λ (t : ThreadState). t.priority)
    (sym (read-there (the_view c.self.inside) (g.S.SlotMap.slots c.args.store.now) (g.S.SlotStore.memory c.args.store.now) c.args.offset
    (ap is_thread_kind (of-state (the_view c.self.inside) (g.S.SlotMap.slots c.args.store.now) (g.S.SlotStore.memory c.args.store.now) c.args.offset
    there)))) in
    rw (← c.self.view_is) (tail-done (the_view c.self.inside) (g.S.SlotMap.slots c.args.store.now) (g.S.SlotMap.slots c.push.new.store)
    (g.S.SlotStore.memory c.args.store.now) (g.S.SlotStore.memory c.push.new.store) stands (c.push.ensures.slots ∙ c.leave.ensures.slots) c.self.invariant
    c.push.new.self c.leave.new.self c.args.offset c.priority-priority.result (g.S.SlotStore.memory c.leave.new.store) own c.leave.ensures.queues
    c.leave.ensures.stands c.leave.ensures.bytes c.push.ensures.queues c.push.ensures.stands c.push.ensures.bytes).1

pub returns-clause-stands : goal.returns-clause-stands
returns-clause-stands g c =
    let stands = rw (← c.self.view_is) at c.requires.stands in
    let there = rw (← c.self.view_is) at c.requires.there in
    let own = c.priority-priority.ensures ∙ ap (λ (t : Thread). t.priority) c.new.ensures ∙ ap (λ (t : ThreadState). t.priority)
    (sym (read-there (the_view c.self.inside) (g.S.SlotMap.slots c.args.store.now) (g.S.SlotStore.memory c.args.store.now) c.args.offset
    (ap is_thread_kind (of-state (the_view c.self.inside) (g.S.SlotMap.slots c.args.store.now) (g.S.SlotStore.memory c.args.store.now) c.args.offset
    there)))) in
    (tail-done (the_view c.self.inside) (g.S.SlotMap.slots c.args.store.now) (g.S.SlotMap.slots c.push.new.store) (g.S.SlotStore.memory c.args.store.now)
    (g.S.SlotStore.memory c.push.new.store) stands (c.push.ensures.slots ∙ c.leave.ensures.slots) c.self.invariant c.push.new.self c.leave.new.self
    c.args.offset c.priority-priority.result (g.S.SlotStore.memory c.leave.new.store) own c.leave.ensures.queues c.leave.ensures.stands
    c.leave.ensures.bytes c.push.ensures.queues c.push.ensures.stands c.push.ensures.bytes).0.stands
