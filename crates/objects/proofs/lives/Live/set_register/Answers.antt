-- One field of the thread changes.
use Rattle.std.proofs.Common.{refl}
use Rattle.model.specs.Kernel.State.{ThreadState}
use Rattle.model.specs.Machine.ProgramMemory.{write}
use Rattle.objects.proofs.OneThread.{field-done, field-objects, record-there}
use Rattle.objects.proofs.lives.Live.set_register.Goals as goal

pub set_register-requires : goal.set_register-requires
set_register-requires g c =
    let slots = g.S.SlotMap.slots c.self.inside.store in
    let old = g.S.SlotStore.memory c.self.inside.store in
    let there = rw (← c.self.view_is) at c.requires.there in
    record { there = record-there c.self.inside.objects slots old c.self.invariant c.args.thread there; named = c.requires.named }

pub returns-clause-state : goal.returns-clause-state
returns-clause-state g c =
    let slots = g.S.SlotMap.slots c.self.inside.store in
    let old = g.S.SlotStore.memory c.self.inside.store in
    let there = rw (← c.self.view_is) at c.requires.there in
    rw (← c.self.view_is) ((field-done c.self.inside.objects slots (g.S.SlotMap.slots c.set_register.new.store) old
    (g.S.SlotStore.memory c.set_register.new.store) c.self.invariant c.set_register.ensures.slots c.args.thread there
    c.set_register.ensures.bytes _ c.set_register.ensures.record refl refl
    (λ (t : ThreadState). record t { registers = write t.registers c.args.register c.args.value })
    refl).0.state)

pub returns-clause-beside : goal.returns-clause-beside
returns-clause-beside g c =
    let slots = g.S.SlotMap.slots c.self.inside.store in
    let old = g.S.SlotStore.memory c.self.inside.store in
    let there = rw (← c.self.view_is) at c.requires.there in
    rw (← c.self.view_is) (record {
      slots = c.set_register.ensures.slots;
      order = c.set_register.ensures.order;
      bytes = (field-objects c.self.inside.objects slots (g.S.SlotMap.slots c.set_register.new.store)
          old (g.S.SlotStore.memory c.set_register.new.store) c.self.invariant c.set_register.ensures.slots c.args.thread
          there c.set_register.ensures.bytes _ c.set_register.ensures.record refl refl
          (λ (t : ThreadState). record t { registers = write t.registers c.args.register c.args.value })
          refl);
    })

pub invariant_of-self : goal.invariant_of-self
invariant_of-self g c =
    let slots = g.S.SlotMap.slots c.self.inside.store in
    let old = g.S.SlotStore.memory c.self.inside.store in
    let there = rw (← c.self.view_is) at c.requires.there in
    (field-done c.self.inside.objects slots (g.S.SlotMap.slots c.set_register.new.store) old
    (g.S.SlotStore.memory c.set_register.new.store) c.self.invariant c.set_register.ensures.slots c.args.thread there
    c.set_register.ensures.bytes _ c.set_register.ensures.record refl refl
    (λ (t : ThreadState). record t { registers = write t.registers c.args.register c.args.value })
    refl).0.stands
