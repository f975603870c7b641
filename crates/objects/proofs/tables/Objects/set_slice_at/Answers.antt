-- One field of the thread changes.
use Rattle.std.proofs.Common.{refl}
use Rattle.model.specs.Kernel.State.{ThreadState}
use Rattle.objects.proofs.OneThread.{field-done, record-there}
use Rattle.objects.proofs.tables.Objects.set_slice_at.Goals as goal

pub set_slice-requires : goal.set_slice-requires
set_slice-requires g c =
    record {
      there = record-there c.args.self.now (g.S.SlotMap.slots c.args.store.now) (g.S.SlotStore.memory c.args.store.now) c.requires.stands c.args.offset
          c.requires.there;
    }

pub returns-clause-state : goal.returns-clause-state
returns-clause-state g c =
    (field-done c.args.self.now (g.S.SlotMap.slots c.args.store.now) (g.S.SlotMap.slots c.set_slice.new.store) (g.S.SlotStore.memory c.args.store.now)
    (g.S.SlotStore.memory c.set_slice.new.store) c.requires.stands c.set_slice.ensures.slots c.args.offset c.requires.there c.set_slice.ensures.bytes _
    c.set_slice.ensures.record refl refl (λ (t : ThreadState). record t { slice = c.args.slice }) refl).0.state

pub returns-clause-bytes : goal.returns-clause-bytes
returns-clause-bytes g c =
    (field-done c.args.self.now (g.S.SlotMap.slots c.args.store.now) (g.S.SlotMap.slots c.set_slice.new.store) (g.S.SlotStore.memory c.args.store.now)
    (g.S.SlotStore.memory c.set_slice.new.store) c.requires.stands c.set_slice.ensures.slots c.args.offset c.requires.there c.set_slice.ensures.bytes _
    c.set_slice.ensures.record refl refl (λ (t : ThreadState). record t { slice = c.args.slice }) refl).1

pub returns-clause-stands : goal.returns-clause-stands
returns-clause-stands g c =
    (field-done c.args.self.now (g.S.SlotMap.slots c.args.store.now) (g.S.SlotMap.slots c.set_slice.new.store) (g.S.SlotStore.memory c.args.store.now)
    (g.S.SlotStore.memory c.set_slice.new.store) c.requires.stands c.set_slice.ensures.slots c.args.offset c.requires.there c.set_slice.ensures.bytes _
    c.set_slice.ensures.record refl refl (λ (t : ThreadState). record t { slice = c.args.slice }) refl).0.stands
