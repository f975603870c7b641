-- The thread is taken out from between its neighbours, and the priority has the ends that are left.
use Rattle.std.proofs.Common.{ℕ, ◌≡◌, ◌∙◌, List, Some, length, sym, ap, subst, arith}
use Rattle.queues.specs.Ready.{ReadyStands, SameBesideReady, ready_in, ready_of}
use Rattle.queues.specs.declared.words.Ends.{Ends}
use Rattle.queues.proofs.ReadySteps.{fewer-ends, fewer_ends, idle-ready, leave-bytes, leave-ready, leave-stands, next-thread, numbered, previous-thread}
use Rattle.queues.proofs.Standings.{linked-thread}
use Rattle.queues.proofs.ready.ReadyList.leave.Goals as goal

pub returns-in_default-clause-queues : goal.returns-in_default-clause-queues
returns-in_default-clause-queues g c =
    idle-ready (g.L.Layout.places c.args.layout.now) c.args.self.now (g.S.SlotStore.memory c.args.store.now) c.args.thread c.requires.stands
    (sym c.queue_of_thread.ensures ∙ c.in_default.is)

pub bounds-self-inside-priority : goal.bounds-self-inside-priority
bounds-self-inside-priority g c =
    let known = numbered (g.L.Layout.places c.args.layout.now) c.args.self.now (g.S.SlotStore.memory c.args.store.now) c.args.thread c.in-Some.priority
    c.requires.stands
    (sym c.queue_of_thread.ensures ∙ c.in-Some.is) in
    omega (arith, known, c.self.invariant.long, ap (λ (l : List Ends). length l) c.self.view_is)

pub put-requires : goal.put-requires
put-requires g c =
    let known = numbered (g.L.Layout.places c.args.layout.now) c.args.self.now (g.S.SlotStore.memory c.args.store.now) c.args.thread c.in-Some.priority
    c.requires.stands
    (sym c.queue_of_thread.ensures ∙ c.in-Some.is) in
    omega (arith, known, c.self.invariant.long, ap (λ (l : List Ends). length l) c.self.view_is)

pub unlink-behind-requires-clause-behind : goal.unlink-behind-requires-clause-behind
unlink-behind-requires-clause-behind g c =
    let places = g.L.Layout.places c.args.layout.now in
    let ends = c.args.self.now in
    let m = g.S.SlotStore.memory c.args.store.now in
    let owned : (ready_in places ends m).owner c.args.thread ≡ Some c.in-Some.priority = sym c.queue_of_thread.ensures ∙ c.in-Some.is in
    let known = numbered places ends m c.args.thread c.in-Some.priority c.requires.stands owned in
    λ x named. c.requires.laid.threads x
    (next-thread places (g.S.SlotMap.slots c.args.store.now) ends m c.requires.laid c.requires.stands c.in-Some.priority c.args.thread known
    (linked-thread 256 places.threads m 0 c.args.thread c.in-Some.priority owned) owned x named)

pub unlink-behind-requires-clause-before : goal.unlink-behind-requires-clause-before
unlink-behind-requires-clause-before g c =
    let places = g.L.Layout.places c.args.layout.now in
    let ends = c.args.self.now in
    let m = g.S.SlotStore.memory c.args.store.now in
    let owned : (ready_in places ends m).owner c.args.thread ≡ Some c.in-Some.priority = sym c.queue_of_thread.ensures ∙ c.in-Some.is in
    let known = numbered places ends m c.args.thread c.in-Some.priority c.requires.stands owned in
    λ x named. c.requires.laid.threads x
    (previous-thread places (g.S.SlotMap.slots c.args.store.now) ends m c.requires.laid c.requires.stands c.in-Some.priority c.args.thread known
    (linked-thread 256 places.threads m 0 c.args.thread c.in-Some.priority owned) owned x named)

pub returns-clause-queues : goal.returns-clause-queues
returns-clause-queues g c =
    let places = g.L.Layout.places c.args.layout.now in
    let ends = c.args.self.now in
    let m = g.S.SlotStore.memory c.args.store.now in
    let owned : (ready_in places ends m).owner c.args.thread ≡ Some c.in-Some.priority = sym c.queue_of_thread.ensures ∙ c.in-Some.is in
    let known = numbered places ends m c.args.thread c.in-Some.priority c.requires.stands owned in
    let path = fewer-ends _ ends c.put.new.self m c.in-Some.priority c.args.thread _ c.self.view_is c.unlink-behind.ensures.ends c.put.ensures in
    λ other. ap (λ (l : List Ends). ready_of places l (g.S.SlotStore.memory c.unlink-behind.new.store) other) path
    ∙ ap (λ (memory : List ℕ). ready_of places (fewer_ends ends m c.in-Some.priority c.args.thread) memory other) c.unlink-behind.ensures.bytes
    ∙ leave-ready places (g.S.SlotMap.slots c.args.store.now) ends m c.requires.laid c.requires.stands c.in-Some.priority c.args.thread known
    (linked-thread 256 places.threads m 0 c.args.thread c.in-Some.priority owned) owned other

pub returns-clause-stands : goal.returns-clause-stands
returns-clause-stands g c =
    let places = g.L.Layout.places c.args.layout.now in
    let ends = c.args.self.now in
    let m = g.S.SlotStore.memory c.args.store.now in
    let owned : (ready_in places ends m).owner c.args.thread ≡ Some c.in-Some.priority = sym c.queue_of_thread.ensures ∙ c.in-Some.is in
    let known = numbered places ends m c.args.thread c.in-Some.priority c.requires.stands owned in
    let path = fewer-ends _ ends c.put.new.self m c.in-Some.priority c.args.thread _ c.self.view_is c.unlink-behind.ensures.ends c.put.ensures in
    subst (λ (l : List Ends). ReadyStands places l (g.S.SlotStore.memory c.unlink-behind.new.store)) (sym path)
    (subst (λ (memory : List ℕ). ReadyStands places (fewer_ends ends m c.in-Some.priority c.args.thread) memory) (sym c.unlink-behind.ensures.bytes)
    (leave-stands places (g.S.SlotMap.slots c.args.store.now) ends m c.requires.laid c.requires.stands c.in-Some.priority c.args.thread known
    (linked-thread 256 places.threads m 0 c.args.thread c.in-Some.priority owned) owned))

pub returns-clause-bytes : goal.returns-clause-bytes
returns-clause-bytes g c =
    let places = g.L.Layout.places c.args.layout.now in
    let ends = c.args.self.now in
    let m = g.S.SlotStore.memory c.args.store.now in
    let owned : (ready_in places ends m).owner c.args.thread ≡ Some c.in-Some.priority = sym c.queue_of_thread.ensures ∙ c.in-Some.is in
    let known = numbered places ends m c.args.thread c.in-Some.priority c.requires.stands owned in
    subst (λ (memory : List ℕ). SameBesideReady (ready_of places ends m) m memory) (sym c.unlink-behind.ensures.bytes)
    (leave-bytes places (g.S.SlotMap.slots c.args.store.now) ends m c.requires.laid c.requires.stands c.in-Some.priority c.args.thread known
    (linked-thread 256 places.threads m 0 c.args.thread c.in-Some.priority owned) owned)
