-- Untyped memory is in the slot of the call.
use Rattle.std.proofs.Common.{refl}
use Rattle.kernel_machine.proofs.perform_calls.Roots.{held-at}
use Rattle.kernel_machine.proofs.perform_calls.untyped_calls.on_untyped.Goals as goal
use Rattle.kernel_machine.specs.perform_calls.Calls.{call_of}
use Rattle.model.specs.declared.capabilities.Cap.TheVariants.{Untyped}

pub retype-requires-clause-held : goal.retype-requires-clause-held
retype-requires-clause-held g c =
    let kernel = c.args.kernel.now in
    let memory = c.args.memory in
    held-at kernel.tables (g.S.SlotMap.slots kernel.store) (g.S.SlotStore.memory kernel.store) (call_of c.args.call)
    (Untyped memory.offset memory.bits memory.watermark) c.requires.call c.requires.applies refl
