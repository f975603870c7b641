-- Slots that go from the slots at a point.
use Rattle.std.specs.Prelude.{Bool, false, List, [], ◌∷◌}
use Rattle.std.specs.Option.{option_map_or}
use Rattle.model.specs.Acceptance.NotedStates.{NotedSlot, SlotKey, is_same_key}
use Rattle.typestate.specs.declared.removal.Removal.{Removal}
use Rattle.typestate.specs.declared.slot_changes.Removed.{Removed}
use Rattle.typestate.specs.declared.slot_changes.Removed.TheVariants.{One, Below}
use Rattle.typestate.specs.Differences.{left_by, slots_of}
use Rattle.typestate.specs.SlotChanges.{emptied, is_parent, is_removed, noted_parent}

abbrev pub gone_by : Removal → SlotKey → Bool
gone_by r = is_removed (slots_of r.slots) r.which

-- whether a slot that stays may lose children
abbrev pub may_lose : List NotedSlot → Removed → SlotKey → Bool
may_lose slots (One gone) key = is_parent key (noted_parent slots gone)
may_lose slots (Below root) key = is_same_key key root

-- whether all that descends from the slot of a key goes
abbrev pub is_root : Removed → SlotKey → Bool
is_root (One gone) key = false
is_root (Below root) key = is_same_key key root

-- that the slot is emptied that a change leaves
abbrev pub emptied_by : NotedSlot → List NotedSlot
emptied_by c = option_map_or (λ s. emptied s.key ∷ []) (left_by c) []
