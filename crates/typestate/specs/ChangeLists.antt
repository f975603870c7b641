-- What a call makes of the slots, as changes one after another.
use Rattle.std.specs.Prelude.{◌||◌, ◌&&◌, Bool, false, not, List, [], ◌∷◌, ◌++◌, flat_map, map, option_to_list, if◌then◌else◌}
use Rattle.std.specs.Option.{option_map_or}
use Rattle.model.specs.Acceptance.NotedStates.{NotedSlot, SlotKey, slot_at}
use Rattle.model.specs.Capabilities.CapabilityKinds.{is_untyped}
use Rattle.typestate.specs.declared.log_entries.LogEntry.{LogEntry}
use Rattle.typestate.specs.declared.log_entries.LogEntry.TheVariants.{Sets, Swaps}
use Rattle.typestate.specs.declared.points.NotedSlots.{NotedSlots}
use Rattle.typestate.specs.declared.slot_changes.Removed.{Removed}
use Rattle.typestate.specs.declared.slot_changes.Removed.TheVariants.{One, Below}
use Rattle.typestate.specs.declared.slot_changes.SlotChange.{SlotChange}
use Rattle.typestate.specs.declared.slot_changes.SlotChange.TheVariants.{Nothing, Puts, Moves, Removes}
use Rattle.typestate.specs.Differences.{left_by, slots_of}
use Rattle.typestate.specs.Families.{children_of}
use Rattle.typestate.specs.Levels.{touched_by}
use Rattle.typestate.specs.SlotChanges.{emptied, followed, heir, is_parent, is_removed, noted_parent, slot_left}

-- a slot that stays, and is then a child of the slot of a key
unfoldable pub kept_child : List NotedSlot → Removed → SlotKey → NotedSlot → Bool
kept_child slots which key s = not (is_removed slots which s.key) && is_parent key (heir (is_removed slots which) slots s)

-- what is told of the slot at a key, if it is full
abbrev pub told_at : (NotedSlot → List NotedSlot) → List NotedSlot → SlotKey → List NotedSlot
told_at tell slots key = option_map_or tell (slot_at slots key) []

-- what is told of what a change leaves, if it does not empty its slot
abbrev pub told_of : (NotedSlot → List NotedSlot) → NotedSlot → List NotedSlot
told_of tell c = option_map_or tell (left_by c) []

-- a slot that goes is emptied; of the others only children of what goes and pools may change
abbrev pub removal_change : (SlotKey → Bool) → List NotedSlot → NotedSlot → List NotedSlot
removal_change gone slots s =
    if gone s.key then emptied s.key ∷ []
    else if option_map_or gone s.parent false || is_untyped s.capability then slot_left gone slots s ∷ [] else []

-- The slots that a removal names: the one that goes and what it was derived from, or the one from which all that goes descends. Of
-- those that the image lists no others change, since they were derived from none of the thread's.
abbrev pub named_by : List NotedSlot → Removed → List SlotKey
named_by slots (One gone) = gone ∷ option_to_list (noted_parent slots gone)
named_by slots (Below root) = root ∷ []

abbrev pub removal_changes : NotedSlots → Removed → List NotedSlot
removal_changes n which =
    let tell = removal_change (is_removed (slots_of n) which) (slots_of n) in
    flat_map (told_at tell (slots_of n)) (named_by (slots_of n) which) ++ flat_map (told_of tell) (touched_by n which)

-- What was derived from the slot to which one moves stays with it. Nothing was, where that slot was empty and all else hangs below
-- full slots.
abbrev pub children_kept : NotedSlots → SlotKey → SlotKey → List NotedSlot
children_kept n from to = map (followed from to) (children_of n.changes.now to)

abbrev pub changes_of : NotedSlots → SlotChange → List LogEntry
changes_of n Nothing = []
changes_of n (Puts s) = Sets s ∷ []
changes_of n (Moves from s) = Swaps from s.key ∷ (map (λ c. Sets c) (children_kept n from s.key) ++ Sets s ∷ Sets (emptied from) ∷ [])
changes_of n (Removes which) = map (λ c. Sets c) (removal_changes n which)
