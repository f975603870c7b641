-- The thread is linked after the last one of its priority.
use Rattle.std.proofs.Common.{ℕ, ◌∙◌, ◌<◌, List, length, sym, ap, subst, arith}
use Rattle.queues.specs.Ready.{ReadyStands, SameBesideReady, ends_of, ready_of}
use Rattle.queues.specs.declared.words.Ends.{Ends}
use Rattle.queues.proofs.ReadySteps.{joined-ends, joined-memory, joined_ends, last-ready, push-bytes, push-ready, push-stands}
use Rattle.queues.proofs.ready.ReadyList.push.Goals as goal

pub link_last-behind-requires-clause-behind : goal.link_last-behind-requires-clause-behind
link_last-behind-requires-clause-behind g c =
    let places = g.L.Layout.places c.args.layout.now in
    let ends = c.args.self.now in
    let priority = c.args.priority in
    let low : priority < length ends = omega (arith, c.ranges.priority.fits, c.self.invariant.long, ap (λ (l : List Ends). length l) c.self.view_is) in
    λ x named. c.requires.laid.threads x
    (last-ready places (g.S.SlotMap.slots c.args.store.now) ends (g.S.SlotStore.memory c.args.store.now) c.requires.laid c.requires.stands priority
    c.args.thread low c.requires.there
    x (sym (ap (λ (l : List Ends). (ends_of l c.from-priority.result).last) c.self.view_is ∙ ap (λ n. (ends_of ends n).last) c.from-priority.ensures) ∙ named))

pub returns-clause-queues : goal.returns-clause-queues
returns-clause-queues g c =
    let places = g.L.Layout.places c.args.layout.now in
    let m = g.S.SlotStore.memory c.args.store.now in
    let ends = c.args.self.now in
    let priority = c.args.priority in
    let low : priority < length ends = omega (arith, c.ranges.priority.fits, c.self.invariant.long, ap (λ (l : List Ends). length l) c.self.view_is) in
    let path = joined-ends _ ends c.put.new.self c.from-priority.result priority c.args.thread _ c.self.view_is c.from-priority.ensures
    c.link_last-behind.ensures.ends c.put.ensures in
    let path' = joined-memory _ ends m _ c.from-priority.result priority c.args.thread c.self.view_is c.from-priority.ensures
    c.link_last-behind.ensures.bytes in
    λ other. ap (λ (l : List Ends). ready_of places l (g.S.SlotStore.memory c.link_last-behind.new.store) other) path
    ∙ ap (λ (memory : List ℕ). ready_of places (joined_ends ends priority c.args.thread) memory other) path'
    ∙ push-ready places (g.S.SlotMap.slots c.args.store.now) ends m c.requires.laid c.requires.stands priority c.args.thread low c.requires.there
    (omega (arith, c.ranges.priority.fits)) c.requires.apart other

pub returns-clause-stands : goal.returns-clause-stands
returns-clause-stands g c =
    let places = g.L.Layout.places c.args.layout.now in
    let m = g.S.SlotStore.memory c.args.store.now in
    let ends = c.args.self.now in
    let priority = c.args.priority in
    let low : priority < length ends = omega (arith, c.ranges.priority.fits, c.self.invariant.long, ap (λ (l : List Ends). length l) c.self.view_is) in
    let path = joined-ends _ ends c.put.new.self c.from-priority.result priority c.args.thread _ c.self.view_is c.from-priority.ensures
    c.link_last-behind.ensures.ends c.put.ensures in
    let path' = joined-memory _ ends m _ c.from-priority.result priority c.args.thread c.self.view_is c.from-priority.ensures
    c.link_last-behind.ensures.bytes in
    subst (λ (l : List Ends). ReadyStands places l (g.S.SlotStore.memory c.link_last-behind.new.store)) (sym path)
    (subst (λ (memory : List ℕ). ReadyStands places (joined_ends ends priority c.args.thread) memory) (sym path')
    (push-stands places (g.S.SlotMap.slots c.args.store.now) ends m c.requires.laid c.requires.stands priority c.args.thread low c.requires.there
    (omega (arith, c.ranges.priority.fits)) c.requires.apart))

pub returns-clause-bytes : goal.returns-clause-bytes
returns-clause-bytes g c =
    let places = g.L.Layout.places c.args.layout.now in
    let m = g.S.SlotStore.memory c.args.store.now in
    let ends = c.args.self.now in
    let priority = c.args.priority in
    let low : priority < length ends = omega (arith, c.ranges.priority.fits, c.self.invariant.long, ap (λ (l : List Ends). length l) c.self.view_is) in
    let path = joined-ends _ ends c.put.new.self c.from-priority.result priority c.args.thread _ c.self.view_is c.from-priority.ensures
    c.link_last-behind.ensures.ends c.put.ensures in
    let path' = joined-memory _ ends m _ c.from-priority.result priority c.args.thread c.self.view_is c.from-priority.ensures
    c.link_last-behind.ensures.bytes in
    subst (λ (l : List Ends). SameBesideReady (ready_of places l (g.S.SlotStore.memory c.link_last-behind.new.store)) m
    (g.S.SlotStore.memory c.link_last-behind.new.store)) (sym path)
    (subst (λ (memory : List ℕ). SameBesideReady (ready_of places (joined_ends ends priority c.args.thread) memory) m memory) (sym path')
    (push-bytes places (g.S.SlotMap.slots c.args.store.now) ends m c.requires.laid c.requires.stands priority c.args.thread low c.requires.there
    (omega (arith, c.ranges.priority.fits)) c.requires.apart))
