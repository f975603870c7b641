-- One field of the thread changes.
use Rattle.std.proofs.Common.{refl}
use Rattle.model.specs.Kernel.State.{ThreadState}
use Rattle.objects.proofs.OneThread.{field-done, record-there}
use Rattle.objects.specs.thread_records.Threads.{status_of}
use Rattle.objects.proofs.tables.Objects.set_status_at.Goals as goal

pub set_status-requires : goal.set_status-requires
set_status-requires g c =
    record {
      there = record-there c.args.self.now (g.S.SlotMap.slots c.args.store.now) (g.S.SlotStore.memory c.args.store.now) c.requires.stands c.args.offset
          c.requires.there;
    }

pub returns-clause-state : goal.returns-clause-state
returns-clause-state g c =
    (field-done c.args.self.now (g.S.SlotMap.slots c.args.store.now) (g.S.SlotMap.slots c.set_status.new.store) (g.S.SlotStore.memory c.args.store.now)
    (g.S.SlotStore.memory c.set_status.new.store) c.requires.stands c.set_status.ensures.slots c.args.offset c.requires.there c.set_status.ensures.bytes _
    c.set_status.ensures.record refl refl (λ (t : ThreadState). record t { status = status_of c.args.status }) refl).0.state

pub returns-clause-bytes : goal.returns-clause-bytes
returns-clause-bytes g c =
    (field-done c.args.self.now (g.S.SlotMap.slots c.args.store.now) (g.S.SlotMap.slots c.set_status.new.store) (g.S.SlotStore.memory c.args.store.now)
    (g.S.SlotStore.memory c.set_status.new.store) c.requires.stands c.set_status.ensures.slots c.args.offset c.requires.there c.set_status.ensures.bytes _
    c.set_status.ensures.record refl refl (λ (t : ThreadState). record t { status = status_of c.args.status }) refl).1

pub returns-clause-stands : goal.returns-clause-stands
returns-clause-stands g c =
    (field-done c.args.self.now (g.S.SlotMap.slots c.args.store.now) (g.S.SlotMap.slots c.set_status.new.store) (g.S.SlotStore.memory c.args.store.now)
    (g.S.SlotStore.memory c.set_status.new.store) c.requires.stands c.set_status.ensures.slots c.args.offset c.requires.there c.set_status.ensures.bytes _
    c.set_status.ensures.record refl refl (λ (t : ThreadState). record t { status = status_of c.args.status }) refl).0.stands
