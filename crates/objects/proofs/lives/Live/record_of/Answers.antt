-- The bytes hold the thread, if one is there.
use Rattle.std.proofs.Common.{◌∙◌, ap, sym}
use Rattle.objects.proofs.OneThread.{inside, read-none, read-there}
use Rattle.objects.proofs.lives.Live.record_of.Goals as goal
use Rattle.objects.specs.thread_records.Threads.{thread_state}

pub new-requires : goal.new-requires
new-requires g c =
    let slots = g.S.SlotMap.slots c.self.inside.store in
    let old = g.S.SlotStore.memory c.self.inside.store in
    inside c.self.inside.objects slots old c.self.invariant c.args.thread
    (sym c.has_thread.ensures ∙ c.if-has_thread.true)

pub returns-then-has_thread : goal.returns-then-has_thread
returns-then-has_thread g c =
    let slots = g.S.SlotMap.slots c.self.inside.store in
    let old = g.S.SlotStore.memory c.self.inside.store in
    rw (← c.self.view_is) (ap thread_state c.new.ensures
    ∙ sym (read-there c.self.inside.objects slots old c.args.thread
    (sym c.has_thread.ensures ∙ c.if-has_thread.true)))

pub returns-else-has_thread : goal.returns-else-has_thread
returns-else-has_thread g c =
    let slots = g.S.SlotMap.slots c.self.inside.store in
    let old = g.S.SlotStore.memory c.self.inside.store in
    rw (← c.self.view_is) (sym (read-none c.self.inside.objects slots old
    c.args.thread (sym c.has_thread.ensures ∙ c.if-has_thread.false)))
