-- It is after all others.
use Rattle.std.proofs.Common.{◌∙◌, ap, subst, sym}
use Rattle.model.specs.Kernel.Kinds.{kind_at}
use Rattle.model.specs.Kernel.State.{State}
use Rattle.objects.proofs.Doing.{enqueue-done}
use Rattle.objects.proofs.Frames.{records-then}
use Rattle.objects.proofs.Holding.{kind-state, laid-here}
use Rattle.objects.proofs.OneThread.{nowhere-here, of-state, sends-there}
use Rattle.objects.proofs.Told.{head-at-point}
use Rattle.objects.proofs.Writing.{thread-here}
use Rattle.objects.specs.Contents.{is_thread_kind}
use Rattle.objects.specs.Tables.{kind_in, state_of}
use Rattle.objects.specs.Waiting.{StandsNowhere, changed_at, has_waiting, joined}
use Rattle.objects.specs.thread_records.Records as thread_words
use Rattle.objects.specs.contracts.tables.Objects.{the_view}
use Rattle.objects.proofs.tables.Objects.enqueue.Goals as goal

pub push-requires-clause-laid : goal.push-requires-clause-laid
push-requires-clause-laid g c =
    let stands = rw (← c.self.view_is) at c.set_sending_at.ensures.stands in
    laid-here (the_view c.self.inside) c.self.invariant (g.S.SlotMap.slots c.set_sending_at.new.store) (g.S.SlotStore.memory c.set_sending_at.new.store)
    stands.fits

pub push-requires-clause-stands : goal.push-requires-clause-stands
push-requires-clause-stands g c =
    let stands = rw (← c.self.view_is) at c.set_sending_at.ensures.stands in
    stands.waiting

pub push-requires-clause-apart : goal.push-requires-clause-apart
push-requires-clause-apart g c =
    let stands = rw (← c.self.view_is) at c.set_sending_at.ensures.stands in
    let still = rw (← c.self.view_is) at c.set_sending_at.ensures.state in
    let apart = subst (λ (s : State). StandsNowhere s.objects c.args.thread) (sym still) (rw (← c.self.view_is) at c.requires.may_wait.apart) in
    nowhere-here (the_view c.self.inside) (g.S.SlotMap.slots c.set_sending_at.new.store) (g.S.SlotStore.memory c.set_sending_at.new.store) stands c.args.thread
    apart

pub push-requires-clause-there : goal.push-requires-clause-there
push-requires-clause-there g c =
    let still = rw (← c.self.view_is) at c.set_sending_at.ensures.state in
    let there = ap (λ (s : State). kind_at s c.args.thread) still ∙ (rw (← c.self.view_is) at c.requires.may_wait.there) in
    ap is_thread_kind (of-state (the_view c.self.inside) (g.S.SlotMap.slots c.set_sending_at.new.store) (g.S.SlotStore.memory c.set_sending_at.new.store)
    c.args.thread there)

pub push-requires-clause-waited : goal.push-requires-clause-waited
push-requires-clause-waited g c =
    let still = rw (← c.self.view_is) at c.set_sending_at.ensures.state in
    let queue = ap (λ (s : State). has_waiting (kind_at s c.args.queue)) still ∙ (rw (← c.self.view_is) at c.requires.queue) in
    head-at-point (kind_in (the_view c.self.inside) c.args.queue) c.args.queue
    (ap has_waiting (sym (kind-state (the_view c.self.inside) c.args.queue (g.S.SlotMap.slots c.set_sending_at.new.store)
    (g.S.SlotStore.memory c.set_sending_at.new.store))) ∙ queue)

pub returns-clause-state : goal.returns-clause-state
returns-clause-state g c =
    let stands = rw (← c.self.view_is) at c.set_sending_at.ensures.stands in
    let still = rw (← c.self.view_is) at c.set_sending_at.ensures.state in
    let apart = subst (λ (s : State). StandsNowhere s.objects c.args.thread) (sym still) (rw (← c.self.view_is) at c.requires.may_wait.apart) in
    let there = ap (λ (s : State). kind_at s c.args.thread) still ∙ (rw (← c.self.view_is) at c.requires.may_wait.there) in
    let queue = ap (λ (s : State). has_waiting (kind_at s c.args.queue)) still ∙ (rw (← c.self.view_is) at c.requires.queue) in
    let sends = rw (← c.self.view_is) at c.set_sending_at.ensures.sending in
    let is = of-state (the_view c.self.inside) (g.S.SlotMap.slots c.set_sending_at.new.store) (g.S.SlotStore.memory c.set_sending_at.new.store) c.args.thread
    there in
    rw (← c.self.view_is)
    ((enqueue-done (the_view c.self.inside) (g.S.SlotMap.slots c.set_sending_at.new.store) (g.S.SlotMap.slots c.push.new.store)
    (g.S.SlotStore.memory c.set_sending_at.new.store) (g.S.SlotStore.memory c.push.new.store) stands c.push.ensures.slots c.self.invariant c.args.queue
    c.args.thread (thread_words.thread_at (g.S.SlotStore.memory c.set_sending_at.new.store) c.args.thread) c.args.sending
    (thread-here (the_view c.self.inside) (g.S.SlotStore.memory c.set_sending_at.new.store) c.args.thread is)
    (sends-there (the_view c.self.inside) (g.S.SlotMap.slots c.set_sending_at.new.store) (g.S.SlotStore.memory c.set_sending_at.new.store) c.args.thread
    (ap is_thread_kind is) ∙ sends) queue apart c.push.ensures.queues c.push.ensures.stands c.push.ensures.bytes).0.state
    ∙ ap (λ (s : State). changed_at s c.args.queue (joined c.args.thread c.args.sending)) still)

pub returns-clause-stands : goal.returns-clause-stands
returns-clause-stands g c =
    let stands = rw (← c.self.view_is) at c.set_sending_at.ensures.stands in
    let still = rw (← c.self.view_is) at c.set_sending_at.ensures.state in
    let apart = subst (λ (s : State). StandsNowhere s.objects c.args.thread) (sym still) (rw (← c.self.view_is) at c.requires.may_wait.apart) in
    let there = ap (λ (s : State). kind_at s c.args.thread) still ∙ (rw (← c.self.view_is) at c.requires.may_wait.there) in
    let queue = ap (λ (s : State). has_waiting (kind_at s c.args.queue)) still ∙ (rw (← c.self.view_is) at c.requires.queue) in
    let sends = rw (← c.self.view_is) at c.set_sending_at.ensures.sending in
    let is = of-state (the_view c.self.inside) (g.S.SlotMap.slots c.set_sending_at.new.store) (g.S.SlotStore.memory c.set_sending_at.new.store) c.args.thread
    there in
    rw (← c.self.view_is) (enqueue-done (the_view c.self.inside) (g.S.SlotMap.slots c.set_sending_at.new.store) (g.S.SlotMap.slots c.push.new.store)
    (g.S.SlotStore.memory c.set_sending_at.new.store) (g.S.SlotStore.memory c.push.new.store) stands c.push.ensures.slots c.self.invariant c.args.queue
    c.args.thread (thread_words.thread_at (g.S.SlotStore.memory c.set_sending_at.new.store) c.args.thread) c.args.sending
    (thread-here (the_view c.self.inside) (g.S.SlotStore.memory c.set_sending_at.new.store) c.args.thread is)
    (sends-there (the_view c.self.inside) (g.S.SlotMap.slots c.set_sending_at.new.store) (g.S.SlotStore.memory c.set_sending_at.new.store) c.args.thread
    (ap is_thread_kind is) ∙ sends) queue apart c.push.ensures.queues c.push.ensures.stands c.push.ensures.bytes).0.stands

pub returns-clause-bytes : goal.returns-clause-bytes
returns-clause-bytes g c =
    let stands = rw (← c.self.view_is) at c.set_sending_at.ensures.stands in
    let still = rw (← c.self.view_is) at c.set_sending_at.ensures.state in
    let apart = subst (λ (s : State). StandsNowhere s.objects c.args.thread) (sym still) (rw (← c.self.view_is) at c.requires.may_wait.apart) in
    let there = ap (λ (s : State). kind_at s c.args.thread) still ∙ (rw (← c.self.view_is) at c.requires.may_wait.there) in
    let queue = ap (λ (s : State). has_waiting (kind_at s c.args.queue)) still ∙ (rw (← c.self.view_is) at c.requires.queue) in
    let sends = rw (← c.self.view_is) at c.set_sending_at.ensures.sending in
    let is = of-state (the_view c.self.inside) (g.S.SlotMap.slots c.set_sending_at.new.store) (g.S.SlotStore.memory c.set_sending_at.new.store) c.args.thread
    there in
    let first = rw (← c.self.view_is) at c.set_sending_at.ensures.bytes in
    rw (← c.self.view_is) (records-then (state_of (the_view c.self.inside) (g.S.SlotMap.slots c.args.store.now) (g.S.SlotStore.memory c.args.store.now))
    (state_of (the_view c.self.inside) (g.S.SlotMap.slots c.set_sending_at.new.store) (g.S.SlotStore.memory c.set_sending_at.new.store))
    (g.S.SlotStore.memory c.args.store.now) (g.S.SlotStore.memory c.set_sending_at.new.store) _
    (λ offset kind found. sym (ap (λ (s : State). kind_at s offset) still) ∙ found) first
    (enqueue-done (the_view c.self.inside) (g.S.SlotMap.slots c.set_sending_at.new.store) (g.S.SlotMap.slots c.push.new.store)
    (g.S.SlotStore.memory c.set_sending_at.new.store) (g.S.SlotStore.memory c.push.new.store) stands c.push.ensures.slots c.self.invariant c.args.queue
    c.args.thread (thread_words.thread_at (g.S.SlotStore.memory c.set_sending_at.new.store) c.args.thread) c.args.sending
    (thread-here (the_view c.self.inside) (g.S.SlotStore.memory c.set_sending_at.new.store) c.args.thread is)
    (sends-there (the_view c.self.inside) (g.S.SlotMap.slots c.set_sending_at.new.store) (g.S.SlotStore.memory c.set_sending_at.new.store) c.args.thread
    (ap is_thread_kind is) ∙ sends) queue apart c.push.ensures.queues c.push.ensures.stands c.push.ensures.bytes).1)
