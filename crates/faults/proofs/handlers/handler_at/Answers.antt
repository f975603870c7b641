-- The handler that the look-up finds.
use Rattle.std.proofs.Common.{◌∙◌, Err, Ok, sym, ap}
use Rattle.faults.proofs.Found.{found-in}
use Rattle.faults.proofs.handlers.handler_at.Goals as goal
use Rattle.model.specs.Capabilities.Slots.{Slots, capability_at}
use Rattle.model.specs.Kernel.Faults.{handler_of}

pub returns-in-Ok : goal.returns-in-Ok
returns-in-Ok g c = λ s same.
    c.handler_of.ensures ∙ ap handler_of (sym c.in-Ok.ensures.held ∙ ap (λ (slots : Slots). capability_at slots c.in-Ok.field-0-0) (sym same))
    ∙ found-in s (g.S.SlotMap.slots c.args.store.now) c.args.thread c.args.address c.new.result c.capability-root.result (Ok c.in-Ok.field-0-0) same
    c.new.ensures c.capability-root.ensures.value (rw c.in-Ok.is at c.called_capability.ensures.slot)

pub returns-in-Err : goal.returns-in-Err
returns-in-Err g c = λ s same.
    found-in s (g.S.SlotMap.slots c.args.store.now) c.args.thread c.args.address c.new.result c.capability-root.result (Err c.in-Err.field-0) same c.new.ensures
    c.capability-root.ensures.value (rw c.in-Err.is at c.called_capability.ensures.slot)
