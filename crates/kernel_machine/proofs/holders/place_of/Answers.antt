-- No other holder has the slot.
use Rattle.std.proofs.Common.{sym, subst, arith}
use Rattle.kernel_machine.proofs.HeldSlots.{in-boot-cnode}
use Rattle.kernel_machine.proofs.holders.place_of.Goals as goal
use Rattle.model.specs.Kernel.Soundness.{HasSlot}
use Rattle.objects.specs.Tables.{state_of}

pub returns-clause-inside : goal.returns-clause-inside
returns-clause-inside g c =
    in-boot-cnode c.args.kernel.now.tables (g.S.SlotMap.slots c.args.kernel.now.store) (g.S.SlotStore.memory c.args.kernel.now.store) c.number-number.result
    c.requires.sound
    (subst (HasSlot (state_of c.args.kernel.now.tables (g.S.SlotMap.slots c.args.kernel.now.store) (g.S.SlotStore.memory c.args.kernel.now.store)))
    (sym c.number-number.ensures.value) c.requires.held)
    (λ index less. c.slots.invariant index (omega (arith, less, c.slots-test.false)))
