-- The slots are the state's.
use Rattle.std.proofs.Common.{◌∙◌, ap}
use Rattle.irq.proofs.Bound.{bound-by}
use Rattle.irq.proofs.lines.binding.Goals as goal
use Rattle.model.specs.Capabilities.Slots.{capability_at}

pub returns : goal.returns
returns g c =
    let live = c.args.live.now in
    c.signal_of.ensures
    ∙ bound-by live.tables (g.S.SlotMap.slots live.store) (g.S.SlotStore.memory live.store) c.args.line c.binding-slot.result c.capability.result
    (c.capability.ensures.value ∙ ap (λ store. capability_at (g.S.SlotMap.slots store) c.binding-slot.result) c.store.ensures) c.binding-slot.ensures
