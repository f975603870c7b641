-- The bytes hold the thread, if one is there.
use Rattle.std.proofs.Common.{◌∙◌, ap, sym}
use Rattle.objects.proofs.OneThread.{inside, sends-none, sends-there}
use Rattle.objects.specs.declared.thread_records.records.Thread.{Thread}
use Rattle.objects.proofs.tables.Objects.sending_of.Goals as goal

pub new-requires : goal.new-requires
new-requires g c = inside c.args.self.now (g.S.SlotMap.slots c.args.store.now) (g.S.SlotStore.memory c.args.store.now) c.requires c.args.thread
    (sym c.has_thread.ensures ∙ c.if-has_thread.true)

pub returns-then-has_thread : goal.returns-then-has_thread
returns-then-has_thread g c = c.sending.ensures ∙ ap (λ (t : Thread). t.sending) c.new.ensures
    ∙ sends-there c.args.self.now (g.S.SlotMap.slots c.args.store.now) (g.S.SlotStore.memory c.args.store.now)
    c.args.thread (sym c.has_thread.ensures ∙ c.if-has_thread.true)

pub returns-else-has_thread : goal.returns-else-has_thread
returns-else-has_thread g c = sends-none c.args.self.now (g.S.SlotMap.slots c.args.store.now) (g.S.SlotStore.memory c.args.store.now) c.args.thread
    (sym c.has_thread.ensures ∙ c.if-has_thread.false)
