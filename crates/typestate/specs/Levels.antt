-- What descends from a slot, by the changes at a point.
use Rattle.std.specs.Prelude.{ℕ, ◌||◌, Bool, false, is_some, Option, List, []}
use Rattle.std.specs.List.{filter}
use Rattle.std.specs.Option.{option_map_or}
use Rattle.model.specs.Acceptance.NotedStates.{NotedSlot, SlotKey, is_same_key, slot_at}
use Rattle.typestate.specs.declared.points.NotedSlots.{NotedSlots}
use Rattle.typestate.specs.declared.slot_changes.Removed.{Removed}
use Rattle.typestate.specs.declared.slot_changes.Removed.TheVariants.{One, Below}
use Rattle.typestate.specs.Differences.{left_by, slots_of}
use Rattle.typestate.specs.SlotChanges.{noted_descends}

-- the changes whose slots descend from a root through at most so many slots
abbrev pub below_by : ℕ → NotedSlots → SlotKey → List NotedSlot
below_by n s root = filter (λ c. noted_descends n (slots_of s) root c.key) s.changes.now

-- whether what a slot holds was derived from a root, or from one of the slots of these changes
abbrev pub hangs_below : SlotKey → List NotedSlot → Option NotedSlot → Bool
hangs_below root going held =
    option_map_or (λ s. option_map_or (λ p. is_same_key p root || is_some (slot_at going p)) s.parent false) held false

-- the changes whose slots hang below a root or one of these
abbrev pub hanging_below : NotedSlots → SlotKey → List NotedSlot → List NotedSlot
hanging_below s root going = filter (λ c. hangs_below root going (left_by c)) s.changes.now

-- the changes whose slots go, where all that descends from a slot does
abbrev pub all_below : NotedSlots → Removed → List NotedSlot
all_below s (One gone) = []
all_below s (Below root) = below_by 256 s root

-- the slot that a removal names
abbrev pub named : Removed → SlotKey
named (One gone) = gone
named (Below root) = root

-- the changes whose slots were derived from what a removal names, or from what goes with it
abbrev pub touched_by : NotedSlots → Removed → List NotedSlot
touched_by s which = hanging_below s (named which) (all_below s which)
