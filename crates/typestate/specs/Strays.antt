-- Slots that a thread may not have, as they are told by the places of the thread's CNodes.
use Rattle.std.specs.Prelude.{ℕ, ◌≡◌, ◌==◌, ◌^◌, Bool, true, false, not, ◌&&◌, ◌||◌, nat_lt, is_some, Result, Ok, Err, List}
use Rattle.std.specs.List.{list_any}
use Rattle.std.specs.Option.{option_map_or}
use Rattle.model.specs.Acceptance.NotedStates.{NotedSlot, SlotKey, is_foreign, is_own, is_same_parent, is_stray, slot_at}
use Rattle.model.specs.Acceptance.ThreadRules.{reached}
use Rattle.model.specs.Capabilities.CapabilityFields.{is_capability}
use Rattle.model.specs.Capabilities.Slots.{is_empty}
use Rattle.model.specs.Images.Image.{Image, Thread}
use Rattle.model.specs.declared.refusals.Refusal.{Refusal}
use Rattle.typestate.specs.Replays.{replayed}
use Rattle.typestate.specs.declared.log_entries.LogEntry.{LogEntry}
use Rattle.typestate.specs.SlotChanges.{is_parent}
use Rattle.typestate.specs.declared.behind.Behind.{Behind}
use Rattle.typestate.specs.declared.slot_changes.SlotChange.{SlotChange}
use Rattle.typestate.specs.declared.slot_changes.SlotChange.TheVariants.{Nothing, Puts, Moves, Removes}
use Rattle.typestate.specs.declared.window.Window.{Window}
use Rattle.typestate.specs.declared.spaces.Space.{Space}

-- whether a slot of this key stands in the CNode
abbrev pub has_key : SlotKey → Window → Bool
has_key key w = (key.cnode == w.cnode) && nat_lt key.index (2 ^ w.radix)

-- whether this is the CNode of an offset and a radix
abbrev pub is_at : ℕ → ℕ → Window → Bool
is_at offset radix w = (w.offset == offset) && (w.radix == radix)

-- the CNodes that the image gives the thread
abbrev pub cnodes_of : Space → List ℕ
cnodes_of space = reached space.image.now space.thread.now

-- whether a slot is one that the thread may not have
abbrev pub is_stray_in : Space → List NotedSlot → NotedSlot → Bool
is_stray_in space slots s = is_stray space.image.now space.thread.now (cnodes_of space) slots s

-- the same of what a slot of this key holds
abbrev pub is_stray_at : Space → List NotedSlot → SlotKey → Bool
is_stray_at space slots key = option_map_or (is_stray_in space slots) (slot_at slots key) false

-- no slot is one that the thread may not have
abbrev pub NoneStray : Image → Thread → List NotedSlot → Type 0
NoneStray image t slots = list_any (is_stray image t (reached image t) slots) slots ≡ false

-- whether a slot is one that the thread may not have, wherever its parents lead
abbrev pub is_unfit : Space → NotedSlot → Bool
is_unfit space s =
    not (is_own space.image.now (cnodes_of space) s.key) || is_foreign space.image.now space.thread.now (cnodes_of space) s.capability
    || not (is_capability s.capability)

-- ---- changes that leave no such slot where there was none

-- whether a slot that is put keeps the parent of what it takes the place of, or, where nothing stood, hangs below a full one
abbrev pub keeps_line : List NotedSlot → NotedSlot → Bool
keeps_line slots s =
    option_map_or (λ o. is_same_parent s.parent o.parent) (slot_at slots s.key) (option_map_or (λ p. is_some (slot_at slots p)) s.parent true)

abbrev pub is_tidy_put : Space → List NotedSlot → NotedSlot → Bool
is_tidy_put space slots s = not (is_unfit space s) && not (is_empty s.capability) && keeps_line slots s

-- what moves takes its parent along, to where nothing stood
abbrev pub keeps_parent : List NotedSlot → SlotKey → NotedSlot → Bool
keeps_parent slots from s = option_map_or (λ o. is_same_parent s.parent o.parent) (slot_at slots from) false

abbrev pub is_tidy_move : Space → List NotedSlot → SlotKey → NotedSlot → Bool
is_tidy_move space slots from s =
    not (is_unfit space s) && not (is_empty s.capability) && not (is_some (slot_at slots s.key)) && not (is_parent from s.parent) && keeps_parent slots from s

abbrev pub is_tidy : Space → List NotedSlot → SlotChange → Bool
is_tidy space slots Nothing = true
is_tidy space slots (Puts s) = is_tidy_put space slots s
is_tidy space slots (Moves from s) = is_tidy_move space slots from s
is_tidy space slots (Removes which) = true

-- changes that leave no such slot, if there was none
abbrev pub LeaveNoneStray : Image → Thread → List NotedSlot → List LogEntry → Type 0
LeaveNoneStray image t slots made = NoneStray image t slots → NoneStray image t (replayed slots made)

-- what a call that is not refused says of its changes
abbrev pub IsTidyCall : Image → Thread → List NotedSlot → List LogEntry → Result Bool Refusal → Type 0
IsTidyCall image t slots made (Ok tidy) = tidy ≡ true → LeaveNoneStray image t slots made
IsTidyCall image t slots made (Err refusal) = Unit {0}

abbrev pub IsTidyBehind : Image → Thread → List NotedSlot → List LogEntry → Result Behind Refusal → Type 0
IsTidyBehind image t slots made (Ok b) = b.is_tidy ≡ true → LeaveNoneStray image t slots made
IsTidyBehind image t slots made (Err refusal) = Unit {0}
