-- The rest of the lookup, through enough CNodes, is the whole lookup.
use Rattle.std.proofs.Common.{ℕ, ◌≡◌, ◌<◌, ◌≤◌}
use Rattle.model.specs.Capabilities.CapabilityWords.{IsCapability}
use Rattle.model.specs.Capabilities.Lookup.{lookup, lookup_within}
use Rattle.cspace.proofs.lookups.find.Given as goal

abbrev pub invariant-nodes : goal.invariant-nodes
invariant-nodes g l =
    let slots = g.S.SlotMap.slots l.slots in
    record {
      rest : (n : ℕ) × (l.left < n) × (lookup_within n slots l.held l.name.address l.left
          ≡ lookup slots l.fn.start.0 l.fn.start.1.address l.fn.start.1.depth);
      valid : IsCapability l.held;
      few : l.left ≤ 32;
    }

abbrev pub decreases-nodes : goal.decreases-nodes
decreases-nodes g l = l.left
