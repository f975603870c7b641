-- A thread that is there waits for something that is gone.
use Rattle.std.proofs.Common.{◌∙◌, sym}
use Rattle.objects.proofs.OneThread.{inside, stranded-none, stranded-there}
use Rattle.removal_laws.specs.Finishing.{waits_nowhere}
use Rattle.objects.specs.Tables.{state_of}
use Rattle.objects.specs.thread_records.Threads.{status_of}
use Rattle.std.proofs.Common.{ap}
use Rattle.objects.specs.declared.thread_records.records.Status.{Status}
use Rattle.objects.specs.declared.thread_records.records.Thread.{Thread}
use Rattle.objects.proofs.tables.Objects.is_stranded.Goals as goal

pub new-requires : goal.new-requires
new-requires g c = inside c.args.self.now (g.S.SlotMap.slots c.args.store.now) (g.S.SlotStore.memory c.args.store.now) c.requires c.args.offset
    (sym c.has_thread.ensures ∙ c.if-has_thread.true)

pub returns-then-has_thread : goal.returns-then-has_thread
returns-then-has_thread g c = c.waits_nowhere.ensures (g.S.SlotMap.slots c.args.store.now) (g.S.SlotStore.memory c.args.store.now)
    ∙ ap (λ (x : Status). waits_nowhere (state_of c.args.self.now (g.S.SlotMap.slots c.args.store.now) (g.S.SlotStore.memory c.args.store.now)) (status_of x))
    (c.status.ensures ∙ ap (λ (t : Thread). t.status) c.new.ensures)
    ∙ sym (stranded-there c.args.self.now (g.S.SlotMap.slots c.args.store.now) (g.S.SlotStore.memory c.args.store.now) c.args.offset
    (sym c.has_thread.ensures ∙ c.if-has_thread.true))

pub returns-else-has_thread : goal.returns-else-has_thread
returns-else-has_thread g c = c.if-has_thread.false
    ∙ sym (stranded-none c.args.self.now (g.S.SlotMap.slots c.args.store.now) (g.S.SlotStore.memory c.args.store.now) c.args.offset
    (sym c.has_thread.ensures ∙ c.if-has_thread.false))
