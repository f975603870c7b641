-- The thread is linked after the last one, and the object names it as its last.
use Rattle.std.proofs.Common.{ℕ, ◌≡◌, ◌∙◌, List, Some, length, sym, ap, subst}
use Rattle.queues.specs.Layout.{IsHeadAt}
use Rattle.queues.specs.Queues.{QueuesStand, SameBesideWaiting, queue_of}
use Rattle.queues.specs.declared.words.Ends.{Ends}
use Rattle.queues.proofs.Standings.{last-thread, push-bytes, push-memory, push-queues, push-stands}
use Rattle.queues.proofs.waiting.push.Goals as goal

pub link_last-behind-requires-clause-behind : goal.link_last-behind-requires-clause-behind
link_last-behind-requires-clause-behind g c =
    let places = g.L.Layout.places c.args.layout.now in
    let slots = g.S.SlotMap.slots c.args.store.now in
    let m = g.S.SlotStore.memory c.args.store.now in
    let is : places.heads c.args.queue ≡ Some c.in-Some.head = sym c.head.ensures ∙ c.in-Some.is in
    λ x named. c.requires.laid.threads x
    (last-thread places slots m c.requires.laid c.requires.stands c.args.queue c.in-Some.head c.args.thread is c.requires.there c.requires.apart
    x (sym (ap (λ (e : Ends). e.last) c.read_ends-before.ensures) ∙ named))

pub returns-in-Some-clause-queues : goal.returns-in-Some-clause-queues
returns-in-Some-clause-queues g c =
    let places = g.L.Layout.places c.args.layout.now in
    let slots = g.S.SlotMap.slots c.args.store.now in
    let m = g.S.SlotStore.memory c.args.store.now in
    let is : places.heads c.args.queue ≡ Some c.in-Some.head = sym c.head.ensures ∙ c.in-Some.is in
    let path = push-memory m _ _ c.in-Some.head c.args.queue c.args.thread _ _ c.read_ends-before.ensures c.link_last-behind.ensures.bytes
    c.link_last-behind.ensures.ends c.put_ends.ensures.bytes in
    λ other. ap (λ (memory : List ℕ). queue_of places memory other) path
    ∙ push-queues places slots m c.requires.laid c.requires.stands c.args.queue c.in-Some.head c.args.thread is c.requires.there c.requires.apart other

pub returns-in-Some-clause-stands : goal.returns-in-Some-clause-stands
returns-in-Some-clause-stands g c =
    let places = g.L.Layout.places c.args.layout.now in
    let slots = g.S.SlotMap.slots c.args.store.now in
    let m = g.S.SlotStore.memory c.args.store.now in
    let is : places.heads c.args.queue ≡ Some c.in-Some.head = sym c.head.ensures ∙ c.in-Some.is in
    let path = push-memory m _ _ c.in-Some.head c.args.queue c.args.thread _ _ c.read_ends-before.ensures c.link_last-behind.ensures.bytes
    c.link_last-behind.ensures.ends c.put_ends.ensures.bytes in
    subst (QueuesStand places) (sym path)
    (push-stands places slots m c.requires.laid c.requires.stands c.args.queue c.in-Some.head c.args.thread is c.requires.there c.requires.apart)

pub returns-in-Some-clause-bytes : goal.returns-in-Some-clause-bytes
returns-in-Some-clause-bytes g c =
    let places = g.L.Layout.places c.args.layout.now in
    let slots = g.S.SlotMap.slots c.args.store.now in
    let m = g.S.SlotStore.memory c.args.store.now in
    let is : places.heads c.args.queue ≡ Some c.in-Some.head = sym c.head.ensures ∙ c.in-Some.is in
    let path = push-memory m _ _ c.in-Some.head c.args.queue c.args.thread _ _ c.read_ends-before.ensures c.link_last-behind.ensures.bytes
    c.link_last-behind.ensures.ends c.put_ends.ensures.bytes in
    subst (λ (memory : List ℕ). SameBesideWaiting places (queue_of places memory) m memory) (sym path)
    (push-bytes places slots m c.requires.laid c.requires.stands c.args.queue c.in-Some.head c.args.thread is c.requires.there c.requires.apart)

pub put_ends-requires : goal.put_ends-requires
put_ends-requires g c =
    let head = c.in-Some.head in
    subst (λ slots. IsHeadAt slots (length (g.S.SlotStore.memory c.link_last-behind.new.store)) head) (sym c.link_last-behind.ensures.slots)
    (subst (λ (n : ℕ). IsHeadAt (g.S.SlotMap.slots c.args.store.now) n head) (sym c.link_last-behind.ensures.size)
    (c.requires.laid.heads c.args.queue head (sym c.head.ensures ∙ c.in-Some.is)))
