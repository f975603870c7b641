-- One field of the thread changes.
use Rattle.std.proofs.Common.{refl}
use Rattle.model.specs.Kernel.State.{ThreadState}
use Rattle.objects.proofs.OneThread.{field-done, field-objects, record-there}
use Rattle.objects.proofs.lives.Live.set_pc.Goals as goal

pub set_pc-requires : goal.set_pc-requires
set_pc-requires g c =
    let slots = g.S.SlotMap.slots c.self.inside.store in
    let old = g.S.SlotStore.memory c.self.inside.store in
    let there = rw (← c.self.view_is) at c.requires.there in
    record {
      there = record-there c.self.inside.objects slots old c.self.invariant c.args.thread
          there;
    }

pub returns-clause-state : goal.returns-clause-state
returns-clause-state g c =
    let slots = g.S.SlotMap.slots c.self.inside.store in
    let old = g.S.SlotStore.memory c.self.inside.store in
    let there = rw (← c.self.view_is) at c.requires.there in
    rw (← c.self.view_is) ((field-done c.self.inside.objects slots (g.S.SlotMap.slots c.set_pc.new.store) old
    (g.S.SlotStore.memory c.set_pc.new.store) c.self.invariant c.set_pc.ensures.slots c.args.thread there
    c.set_pc.ensures.bytes _ c.set_pc.ensures.record refl refl
    (λ (t : ThreadState). record t { registers = record t.registers { pc = c.args.pc } })
    refl).0.state)

pub returns-clause-beside : goal.returns-clause-beside
returns-clause-beside g c =
    let slots = g.S.SlotMap.slots c.self.inside.store in
    let old = g.S.SlotStore.memory c.self.inside.store in
    let there = rw (← c.self.view_is) at c.requires.there in
    rw (← c.self.view_is) (record {
      slots = c.set_pc.ensures.slots;
      order = c.set_pc.ensures.order;
      bytes = (field-objects c.self.inside.objects slots (g.S.SlotMap.slots c.set_pc.new.store)
          old (g.S.SlotStore.memory c.set_pc.new.store) c.self.invariant c.set_pc.ensures.slots c.args.thread
          there c.set_pc.ensures.bytes _ c.set_pc.ensures.record refl refl
          (λ (t : ThreadState). record t { registers = record t.registers { pc = c.args.pc } })
          refl);
    })

pub invariant_of-self : goal.invariant_of-self
invariant_of-self g c =
    let slots = g.S.SlotMap.slots c.self.inside.store in
    let old = g.S.SlotStore.memory c.self.inside.store in
    let there = rw (← c.self.view_is) at c.requires.there in
    (field-done c.self.inside.objects slots (g.S.SlotMap.slots c.set_pc.new.store) old
    (g.S.SlotStore.memory c.set_pc.new.store) c.self.invariant c.set_pc.ensures.slots c.args.thread there
    c.set_pc.ensures.bytes _ c.set_pc.ensures.record refl refl
    (λ (t : ThreadState). record t { registers = record t.registers { pc = c.args.pc } })
    refl).0.stands
