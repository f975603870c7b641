-- The thread waits nowhere, so no object shows what it sends.
use Rattle.std.proofs.Common.{◌∙◌, ap, refl, sym}
use Rattle.objects.specs.Contents.{is_thread_kind}
use Rattle.objects.proofs.OneThread.{of-state, record-there, sends-there, unsent-done}
use Rattle.objects.specs.declared.thread_records.records.Thread.{Thread}
use Rattle.objects.proofs.tables.Objects.set_sending_at.Goals as goal

pub set_sending-requires : goal.set_sending-requires
set_sending-requires g c =
    record {
      there = record-there c.args.self.now (g.S.SlotMap.slots c.args.store.now) (g.S.SlotStore.memory c.args.store.now) c.requires.stands c.args.thread
          c.requires.there;
    }

pub returns-clause-state : goal.returns-clause-state
returns-clause-state g c =
    (unsent-done c.args.self.now (g.S.SlotMap.slots c.args.store.now) (g.S.SlotMap.slots c.set_sending.new.store) (g.S.SlotStore.memory c.args.store.now)
    (g.S.SlotStore.memory c.set_sending.new.store) c.requires.stands c.set_sending.ensures.slots c.args.thread c.requires.there c.set_sending.ensures.bytes _
    c.set_sending.ensures.record c.args.sending c.requires.apart refl).0.state

pub returns-clause-bytes : goal.returns-clause-bytes
returns-clause-bytes g c =
    (unsent-done c.args.self.now (g.S.SlotMap.slots c.args.store.now) (g.S.SlotMap.slots c.set_sending.new.store) (g.S.SlotStore.memory c.args.store.now)
    (g.S.SlotStore.memory c.set_sending.new.store) c.requires.stands c.set_sending.ensures.slots c.args.thread c.requires.there c.set_sending.ensures.bytes _
    c.set_sending.ensures.record c.args.sending c.requires.apart refl).1

pub returns-clause-stands : goal.returns-clause-stands
returns-clause-stands g c =
    (unsent-done c.args.self.now (g.S.SlotMap.slots c.args.store.now) (g.S.SlotMap.slots c.set_sending.new.store) (g.S.SlotStore.memory c.args.store.now)
    (g.S.SlotStore.memory c.set_sending.new.store) c.requires.stands c.set_sending.ensures.slots c.args.thread c.requires.there c.set_sending.ensures.bytes _
    c.set_sending.ensures.record c.args.sending c.requires.apart refl).0.stands

pub returns-clause-sending : goal.returns-clause-sending
returns-clause-sending g c =
    sym (sends-there c.args.self.now (g.S.SlotMap.slots c.set_sending.new.store) (g.S.SlotStore.memory c.set_sending.new.store) c.args.thread
    (ap is_thread_kind (of-state c.args.self.now (g.S.SlotMap.slots c.args.store.now) (g.S.SlotStore.memory c.args.store.now) c.args.thread c.requires.there)))
    ∙ ap (λ (t : Thread). t.sending) c.set_sending.ensures.record
