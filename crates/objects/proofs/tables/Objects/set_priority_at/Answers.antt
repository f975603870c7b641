-- One field of the thread changes.
use Rattle.std.proofs.Common.{refl}
use Rattle.model.specs.Kernel.State.{ThreadState}
use Rattle.objects.proofs.OneThread.{field-done, record-there}
use Rattle.objects.proofs.tables.Objects.set_priority_at.Goals as goal

pub set_priority-requires : goal.set_priority-requires
set_priority-requires g c =
    record {
      there = record-there c.args.self.now (g.S.SlotMap.slots c.args.store.now) (g.S.SlotStore.memory c.args.store.now) c.requires.stands c.args.offset
          c.requires.there;
    }

pub returns-clause-state : goal.returns-clause-state
returns-clause-state g c =
    (field-done c.args.self.now (g.S.SlotMap.slots c.args.store.now) (g.S.SlotMap.slots c.set_priority.new.store) (g.S.SlotStore.memory c.args.store.now)
    (g.S.SlotStore.memory c.set_priority.new.store) c.requires.stands c.set_priority.ensures.slots c.args.offset c.requires.there c.set_priority.ensures.bytes _
    c.set_priority.ensures.record refl refl (λ (t : ThreadState). record t { priority = c.args.priority }) refl).0.state

pub returns-clause-bytes : goal.returns-clause-bytes
returns-clause-bytes g c =
    (field-done c.args.self.now (g.S.SlotMap.slots c.args.store.now) (g.S.SlotMap.slots c.set_priority.new.store) (g.S.SlotStore.memory c.args.store.now)
    (g.S.SlotStore.memory c.set_priority.new.store) c.requires.stands c.set_priority.ensures.slots c.args.offset c.requires.there c.set_priority.ensures.bytes _
    c.set_priority.ensures.record refl refl (λ (t : ThreadState). record t { priority = c.args.priority }) refl).1

pub returns-clause-stands : goal.returns-clause-stands
returns-clause-stands g c =
    (field-done c.args.self.now (g.S.SlotMap.slots c.args.store.now) (g.S.SlotMap.slots c.set_priority.new.store) (g.S.SlotStore.memory c.args.store.now)
    (g.S.SlotStore.memory c.set_priority.new.store) c.requires.stands c.set_priority.ensures.slots c.args.offset c.requires.there c.set_priority.ensures.bytes _
    c.set_priority.ensures.record refl refl (λ (t : ThreadState). record t { priority = c.args.priority }) refl).0.stands
