-- Interrupt control is in the slot of the call.
use Rattle.std.proofs.Common.{refl}
use Rattle.kernel_machine.proofs.perform_calls.Roots.{held-at}
use Rattle.kernel_machine.proofs.perform_calls.interrupt_calls.on_control.Goals as goal
use Rattle.kernel_machine.specs.perform_calls.Calls.{call_of}
use Rattle.model.specs.declared.capabilities.Cap.TheVariants.{InterruptControl}

pub get_handler-requires-clause-root : goal.get_handler-requires-clause-root
get_handler-requires-clause-root g c = c.requires.call.root

pub get_handler-requires-clause-held : goal.get_handler-requires-clause-held
get_handler-requires-clause-held g c =
    let kernel = c.args.kernel.now in
    held-at kernel.tables (g.S.SlotMap.slots kernel.store) (g.S.SlotStore.memory kernel.store) (call_of c.args.call) InterruptControl c.requires.call
    c.requires.applies refl

pub returns-clause-outcome : goal.returns-clause-outcome
returns-clause-outcome g c = c.get_handler.ensures.outcome (call_of c.args.call) refl refl
