-- The slots that a removal takes away, but for the bindings of lines.
-- seL4 Reference Manual, "Deletion, Revocation, and Recycling".
use Rattle.std.specs.Prelude.{ℕ, List, [], ◌∷◌, if◌then◌else◌}
use Rattle.cnode_ops.specs.declared.sets.Removed.{Removed}
use Rattle.cnode_ops.specs.declared.sets.Removed.TheVariants.{Below, One}
use Rattle.model.specs.Capabilities.Orders.{descendants}
use Rattle.model.specs.Capabilities.Slots.{Slots, is_descendant, is_full}
use Rattle.model.specs.Kernel.Removal.{SlotSet}
use Rattle.removal_laws.specs.Steps.{alone}

abbrev pub set_of : Slots → Removed → SlotSet
set_of slots (One slot) = alone slot
set_of slots (Below root) = is_descendant slots root

-- the full slots of these, in the order of a list of all full slots
abbrev pub listed_in : List ℕ → Slots → Removed → List ℕ
listed_in order slots (One slot) = if is_full slots slot then slot ∷ [] else []
listed_in order slots (Below root) = descendants order slots root
