-- The bytes hold the thread.
use Rattle.std.proofs.Common.{◌∙◌, ap, sym}
use Rattle.model.specs.Kernel.Scheduling.{is_runnable}
use Rattle.model.specs.Kernel.State.{ThreadState}
use Rattle.objects.proofs.OneThread.{of-state, place-there, read-there}
use Rattle.objects.specs.Contents.{is_thread_kind}
use Rattle.objects.specs.thread_records.Threads.{status_of}
use Rattle.objects.specs.declared.thread_records.records.Status.{Status}
use Rattle.objects.specs.declared.thread_records.records.Thread.{Thread}
use Rattle.objects.proofs.tables.Objects.runs.Goals as goal

pub new-requires : goal.new-requires
new-requires g c =
    (place-there c.args.self.now (g.S.SlotMap.slots c.args.store.now) (g.S.SlotStore.memory c.args.store.now) c.requires.stands c.args.offset
    c.requires.there).within

pub returns : goal.returns
returns g c =
    c.is_running.ensures ∙ ap (λ (x : Status). is_runnable (status_of x)) (c.status.ensures ∙ ap (λ (t : Thread). t.status) c.new.ensures)
    ∙ ap (λ (t : ThreadState). is_runnable t.status)
    (sym (read-there c.args.self.now (g.S.SlotMap.slots c.args.store.now) (g.S.SlotStore.memory c.args.store.now) c.args.offset
    (ap is_thread_kind (of-state c.args.self.now (g.S.SlotMap.slots c.args.store.now) (g.S.SlotStore.memory c.args.store.now) c.args.offset
    c.requires.there))))
