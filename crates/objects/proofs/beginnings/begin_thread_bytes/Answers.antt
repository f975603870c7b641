-- Links, record and who may reply are written.
use Rattle.std.proofs.Common.{ap, refl}
use Rattle.objects.proofs.Made.{thread-made}
use Rattle.objects.specs.thread_records.Threads.{thread_state}
use Rattle.objects.proofs.beginnings.begin_thread_bytes.Goals as goal

pub returns-clause-bytes : goal.returns-clause-bytes
returns-clause-bytes g c = thread-made (g.S.SlotStore.memory c.args.store.now) (g.S.SlotStore.memory c.begin_thread.new.store)
    (g.S.SlotStore.memory c.begin_thread-2.new.store) (g.S.SlotStore.memory c.put_replier.new.store) c.args.offset (c.requires.thread refl).0
    c.begin_thread.ensures.bytes (ap thread_state c.begin_thread-2.ensures.record) c.begin_thread-2.ensures.bytes c.put_replier.ensures.bytes
