-- A destination is open, and empty.
use Rattle.std.proofs.Common.{sym}
use Rattle.model.proofs.ConditionTests.{met-tested}
use Rattle.model.specs.Capabilities.CapabilityFields.{is_capability}
use Rattle.cnode_ops.proofs.Lookups.{destination-free, destination-open}
use Rattle.cnode_ops.proofs.named.named_slots.Goals as goal

pub destination_slot-requires : goal.destination_slot-requires
unfolding is_capability
destination_slot-requires g c = met-tested _ c.args.call.node_valid

pub depth-depth-requires : goal.depth-depth-requires
depth-depth-requires g c = destination-open (g.S.SlotMap.slots c.args.store.now) c.args.call.node c.args.destination c.in_ok-to.to c.requires.nodes
    c.requires.there (sym c.in_ok-to.ensures)

pub source_slot-requires : goal.source_slot-requires
unfolding is_capability
source_slot-requires g c = met-tested _ c.args.call.root_valid

pub returns-clause-free : goal.returns-clause-free
returns-clause-free g c =
    destination-free (g.S.SlotMap.slots c.args.store.now) c.args.call.node c.args.destination c.in_ok-to.to c.depth-depth.ensures.derivation
    (destination-open (g.S.SlotMap.slots c.args.store.now) c.args.call.node c.args.destination c.in_ok-to.to c.requires.nodes c.requires.there
    (sym c.in_ok-to.ensures)) (sym c.in_ok-to.ensures)
