-- One call after another.
use Rattle.std.proofs.Common.{◌∙◌, sym}
use Rattle.model.specs.Kernel.State.{ThreadObject}
use Rattle.objects.proofs.Frames.{moved-to, one-put, records-then}
use Rattle.objects.proofs.Replacing.{replaced-there}
use Rattle.objects.specs.Tables.{state_of}
use Rattle.objects.proofs.tables.Objects.wake_at.Goals as goal

pub returns-clause-bytes : goal.returns-clause-bytes
returns-clause-bytes g c =
    let first = (moved-to (state_of c.args.self.now (g.S.SlotMap.slots c.args.store.now) (g.S.SlotStore.memory c.args.store.now))
    (state_of c.set_status_at.new.self (g.S.SlotMap.slots c.set_status_at.new.store) (g.S.SlotStore.memory c.set_status_at.new.store)) _
    c.set_status_at.ensures.state (one-put (state_of c.args.self.now (g.S.SlotMap.slots c.args.store.now) (g.S.SlotStore.memory c.args.store.now))
    c.args.offset (ThreadObject _) c.requires.there)) in
    let second = moved-to (state_of c.set_status_at.new.self (g.S.SlotMap.slots c.set_status_at.new.store) (g.S.SlotStore.memory c.set_status_at.new.store))
    (state_of c.set_slice_at.new.self (g.S.SlotMap.slots c.set_slice_at.new.store) (g.S.SlotStore.memory c.set_slice_at.new.store)) _
    c.set_slice_at.ensures.state
    (one-put (state_of c.set_status_at.new.self (g.S.SlotMap.slots c.set_status_at.new.store) (g.S.SlotStore.memory c.set_status_at.new.store))
    c.args.offset (ThreadObject _) (replaced-there (state_of c.args.self.now (g.S.SlotMap.slots c.args.store.now) (g.S.SlotStore.memory c.args.store.now))
    (state_of c.set_status_at.new.self (g.S.SlotMap.slots c.set_status_at.new.store) (g.S.SlotStore.memory c.set_status_at.new.store)) c.args.offset _
    c.set_status_at.ensures.state)) in
    records-then (state_of c.args.self.now (g.S.SlotMap.slots c.args.store.now) (g.S.SlotStore.memory c.args.store.now))
    (state_of c.set_status_at.new.self (g.S.SlotMap.slots c.set_status_at.new.store) (g.S.SlotStore.memory c.set_status_at.new.store))
    (g.S.SlotStore.memory c.args.store.now) (g.S.SlotStore.memory c.set_status_at.new.store) _ (λ offset kind is. sym (first.kinds offset) ∙ is)
    c.set_status_at.ensures.bytes
    (records-then (state_of c.set_status_at.new.self (g.S.SlotMap.slots c.set_status_at.new.store) (g.S.SlotStore.memory c.set_status_at.new.store))
    (state_of c.set_slice_at.new.self (g.S.SlotMap.slots c.set_slice_at.new.store) (g.S.SlotStore.memory c.set_slice_at.new.store))
    (g.S.SlotStore.memory c.set_status_at.new.store) (g.S.SlotStore.memory c.set_slice_at.new.store) _ (λ offset kind is. sym (second.kinds offset) ∙ is)
    c.set_slice_at.ensures.bytes c.to_tail_at.ensures.bytes)
