-- The thread is taken out from between its neighbours, and the object names the ends that are left.
use Rattle.std.proofs.Common.{ℕ, ◌∙◌, List, length, sym, ap, subst}
use Rattle.queues.specs.Layout.{IsHeadAt}
use Rattle.queues.specs.Queues.{QueuesStand, SameBesideWaiting, queue_of}
use Rattle.queues.proofs.LeavingQueues.{after-thread, before-thread, leave-bytes, leave-queues, leave-stands, left-memory}
use Rattle.queues.proofs.Standings.{headed, idle}
use Rattle.queues.proofs.waiting.leave.Goals as goal

pub returns-in_default-clause-queues : goal.returns-in_default-clause-queues
returns-in_default-clause-queues g c =
    idle (g.L.Layout.places c.args.layout.now) (g.S.SlotStore.memory c.args.store.now) c.args.thread c.requires.stands
    (sym c.queue_of_thread.ensures ∙ c.in_default.is)

pub returns-in_default-head-clause-queues : goal.returns-in_default-head-clause-queues
returns-in_default-head-clause-queues g c =
    absurd (headed (g.L.Layout.places c.args.layout.now) (g.S.SlotStore.memory c.args.store.now) c.in-Some.queue c.args.thread c.requires.stands
    (sym c.queue_of_thread.ensures ∙ c.in-Some.is) (sym c.head.ensures ∙ c.in_default-head.is))

pub unlink-behind-requires-clause-behind : goal.unlink-behind-requires-clause-behind
unlink-behind-requires-clause-behind g c =
    let places = g.L.Layout.places c.args.layout.now in
    let m = g.S.SlotStore.memory c.args.store.now in
    λ x named. c.requires.laid.threads x
    (after-thread places (g.S.SlotMap.slots c.args.store.now) m c.requires.laid c.requires.stands c.in-Some.queue c.in-Some-head.head c.args.thread
    (sym c.head.ensures ∙ c.in-Some-head.is) (sym c.queue_of_thread.ensures ∙ c.in-Some.is) x named)

pub unlink-behind-requires-clause-before : goal.unlink-behind-requires-clause-before
unlink-behind-requires-clause-before g c =
    let places = g.L.Layout.places c.args.layout.now in
    let m = g.S.SlotStore.memory c.args.store.now in
    λ x named. c.requires.laid.threads x
    (before-thread places (g.S.SlotMap.slots c.args.store.now) m c.requires.laid c.requires.stands c.in-Some.queue c.in-Some-head.head c.args.thread
    (sym c.head.ensures ∙ c.in-Some-head.is) (sym c.queue_of_thread.ensures ∙ c.in-Some.is) x named)

pub put_ends-requires : goal.put_ends-requires
put_ends-requires g c =
    let head = c.in-Some-head.head in
    subst (λ slots. IsHeadAt slots (length (g.S.SlotStore.memory c.unlink-behind.new.store)) head) (sym c.unlink-behind.ensures.slots)
    (subst (λ (n : ℕ). IsHeadAt (g.S.SlotMap.slots c.args.store.now) n head) (sym c.unlink-behind.ensures.size)
    (c.requires.laid.heads c.in-Some.queue head (sym c.head.ensures ∙ c.in-Some-head.is)))

pub returns-in-Some-head-clause-queues : goal.returns-in-Some-head-clause-queues
returns-in-Some-head-clause-queues g c =
    let places = g.L.Layout.places c.args.layout.now in
    let m = g.S.SlotStore.memory c.args.store.now in
    let path = left-memory m _ _ c.in-Some-head.head c.args.thread _ _ c.read_ends-before.ensures c.unlink-behind.ensures.bytes c.unlink-behind.ensures.ends
    c.put_ends.ensures.bytes in
    λ other. ap (λ (memory : List ℕ). queue_of places memory other) path
    ∙ leave-queues places (g.S.SlotMap.slots c.args.store.now) m c.requires.laid c.requires.stands c.in-Some.queue c.in-Some-head.head c.args.thread
    (sym c.head.ensures ∙ c.in-Some-head.is) (sym c.queue_of_thread.ensures ∙ c.in-Some.is) other

pub returns-in-Some-head-clause-stands : goal.returns-in-Some-head-clause-stands
returns-in-Some-head-clause-stands g c =
    let places = g.L.Layout.places c.args.layout.now in
    let m = g.S.SlotStore.memory c.args.store.now in
    let path = left-memory m _ _ c.in-Some-head.head c.args.thread _ _ c.read_ends-before.ensures c.unlink-behind.ensures.bytes c.unlink-behind.ensures.ends
    c.put_ends.ensures.bytes in
    subst (QueuesStand places) (sym path)
    (leave-stands places (g.S.SlotMap.slots c.args.store.now) m c.requires.laid c.requires.stands c.in-Some.queue c.in-Some-head.head c.args.thread
    (sym c.head.ensures ∙ c.in-Some-head.is) (sym c.queue_of_thread.ensures ∙ c.in-Some.is))

pub returns-in-Some-head-clause-bytes : goal.returns-in-Some-head-clause-bytes
returns-in-Some-head-clause-bytes g c =
    let places = g.L.Layout.places c.args.layout.now in
    let m = g.S.SlotStore.memory c.args.store.now in
    let path = left-memory m _ _ c.in-Some-head.head c.args.thread _ _ c.read_ends-before.ensures c.unlink-behind.ensures.bytes c.unlink-behind.ensures.ends
    c.put_ends.ensures.bytes in
    subst (λ (memory : List ℕ). SameBesideWaiting places (queue_of places m) m memory) (sym path)
    (leave-bytes places (g.S.SlotMap.slots c.args.store.now) m c.requires.laid c.requires.stands c.in-Some.queue c.in-Some-head.head c.args.thread
    (sym c.head.ensures ∙ c.in-Some-head.is) (sym c.queue_of_thread.ensures ∙ c.in-Some.is))
