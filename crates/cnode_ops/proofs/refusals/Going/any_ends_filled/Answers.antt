-- What is full and not marked stays.
use Rattle.std.proofs.Common.{ℕ, ◌∙◌, ◌/◌, length}
use Rattle.cnode_ops.proofs.EndingSlots.{asked-by-marks}
use Rattle.cnode_ops.proofs.MarkedSlots.{unmarked-stays}
use Rattle.cnode_ops.proofs.refusals.Going.any_ends_filled.Goals as goal
use Rattle.model.specs.Capabilities.Slots.{Slots}

pub returns : goal.returns
returns g c =
    let going = c.args.self.now in
    let slots : Slots = g.S.SlotMap.slots going.store.now in
    let size : ℕ = length (g.S.SlotStore.memory going.store.now) / 16 in
    c.any_ends_unmarked.ensures
    ∙ asked-by-marks slots size going.set c.mark_all.new.marks (unmarked-stays slots going.set c.mark_all.new.marks c.mark_all.ensures)
