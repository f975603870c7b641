-- What a certificate notes of a point of a program: the ranges of the registers, the slots of the thread's CNodes, and the
-- measure.
use Rattle.std.specs.Prelude.{ℕ, zero, suc, ◌==◌, Bool, true, false, not, ◌&&◌, ◌||◌, nat_lt, Option, Some, None, List, [], ◌∷◌, filter, find, fold, length}
use Rattle.std.specs.Prelude.{map, replicate, if◌then◌else◌}
use Rattle.std.specs.Option.{option_map_or}
use Rattle.std.specs.List.{list_any}
use Rattle.model.specs.declared.capabilities.Cap.{Cap}
use Rattle.model.specs.declared.capabilities.Cap.TheVariants.{Empty, CNode, PageTable, Tcb, RootTable, InterruptControl}
use Rattle.model.specs.declared.entries.CapabilityEntry.{CapabilityEntry}
use Rattle.model.specs.declared.entries.SlotEntry.{SlotEntry}
use Rattle.model.specs.declared.ranges.Range.{Range}
use Rattle.model.specs.Capabilities.CapabilityFields.{is_capability, same_words, unpacked}
use Rattle.model.specs.Capabilities.CapabilityWords.{words_of}
use Rattle.model.specs.Images.Described.{listed_capability}
use Rattle.model.specs.Images.Image.{Image, Thread, StateRecord, pair_key, no_parent}
use Rattle.model.specs.Acceptance.Measures.{Measure, register_numbered}
use Rattle.model.specs.Images.Places.{offset_of, type_at}
use Rattle.model.specs.Acceptance.RangeRules.{range}
use Rattle.model.specs.Acceptance.Ranges.{full, with_range}
use Rattle.model.specs.Capabilities.Slots.{is_empty}
use Rattle.model.specs.Acceptance.ThreadRules.{is_member, reached}
use Rattle.model.specs.Acceptance.WellFormed.{has_slot, radix_of}

-- a slot by its CNode object and its index
pub record SlotKey : Type 0 where
  pub cnode : ℕ
  pub index : ℕ

-- a full slot; a slot without parent here has its parent in the boot CNode
pub record NotedSlot : Type 0 where
  pub key : SlotKey
  pub capability : Cap
  pub parent : Option SlotKey

pub record PointState : Type 0 where
  -- of registers 1 to 31
  pub ranges : List Range
  -- the full slots, their keys rising; all others are empty
  pub slots : List NotedSlot
  pub measure : Measure

-- ---- slots in the order of their keys

abbrev pub number_of : SlotKey → ℕ
number_of key = pair_key key.cnode key.index

abbrev pub is_same_key : SlotKey → SlotKey → Bool
is_same_key a b = number_of a == number_of b

abbrev pub slot_at : List NotedSlot → SlotKey → Option NotedSlot
slot_at slots key = find (λ s. is_same_key s.key key) slots

abbrev pub without_key : SlotKey → List NotedSlot → List NotedSlot
without_key key slots = filter (λ s. not (is_same_key s.key key)) slots

-- a slot among others with other keys
unfoldable pub put_in : NotedSlot → List NotedSlot → List NotedSlot
put_in slot [] = slot ∷ []
put_in slot (other ∷ others) =
    if nat_lt (number_of slot.key) (number_of other.key) then slot ∷ other ∷ others else other ∷ put_in slot others

-- a slot in place of what is there, or nothing there where it is empty
abbrev pub with_noted : List NotedSlot → NotedSlot → List NotedSlot
with_noted slots slot =
    let others = without_key slot.key slots in if is_empty slot.capability then others else put_in slot others

-- ---- equal slots: capabilities are compared by their words, of which each has its own

abbrev pub is_same_parent : Option SlotKey → Option SlotKey → Bool
is_same_parent None None = true
is_same_parent None (Some b) = false
is_same_parent (Some a) None = false
is_same_parent (Some a) (Some b) = is_same_key a b

abbrev pub is_same_slot : NotedSlot → NotedSlot → Bool
is_same_slot a b =
    is_same_key a.key b.key && same_words (words_of a.capability) (words_of b.capability) && is_same_parent a.parent b.parent

abbrev pub are_same_slots : List NotedSlot → List NotedSlot → Bool
are_same_slots [] [] = true
are_same_slots [] (b ∷ bs) = false
are_same_slots (a ∷ as_) [] = false
are_same_slots (a ∷ as_) (b ∷ bs) = is_same_slot a b && are_same_slots as_ bs

-- ---- what the image gives a thread

-- whether a slot is in one of the thread's CNodes
abbrev pub is_own : Image → List ℕ → SlotKey → Bool
is_own image cnodes key = is_member key.cnode cnodes && has_slot image key.cnode key.index

abbrev pub listed_slot : Image → CapabilityEntry → NotedSlot
listed_slot image c = record { key = record { cnode = c.cnode; index = c.index }; capability = listed_capability image c; parent = None }

-- the capabilities that its CNodes list, pools too
unfoldable pub image_slots : Image → Thread → List NotedSlot
image_slots image t =
    let cnodes = reached image t in
    map (listed_slot image) (filter (λ c. is_member c.cnode cnodes) image.capabilities)

-- ---- what a record notes

abbrev pub full_ranges : List Range
full_ranges = replicate 31 full

-- registers that are not listed have every value
abbrev pub record_ranges : StateRecord → List Range
record_ranges r = fold (λ ranges e. with_range ranges (register_numbered e.register) (range e.low e.high)) full_ranges r.ranges

abbrev pub entry_key : SlotEntry → SlotKey
entry_key e = record { cnode = e.cnode; index = e.index }

abbrev pub entry_parent : SlotEntry → Option SlotKey
entry_parent e = if e.parent_cnode == no_parent then None else Some (record { cnode = e.parent_cnode; index = e.parent_index })

abbrev pub entry_slot : SlotEntry → NotedSlot
entry_slot e = record {
  key = entry_key e;
  capability = option_map_or (λ capability. capability) (unpacked e.word0 e.word1) Empty;
  parent = entry_parent e;
}

-- slots that are not listed are as in the image
abbrev pub record_slots : Image → Thread → StateRecord → List NotedSlot
record_slots image t r = fold (λ slots e. with_noted slots (entry_slot e)) (image_slots image t) r.slots

abbrev pub record_measure : StateRecord → Measure
record_measure r = record { constant = r.header.constant; terms = r.terms }

unfoldable pub record_state : Image → Thread → StateRecord → PointState
record_state image t r = record { ranges = record_ranges r; slots = record_slots image t r; measure = record_measure r }

abbrev pub record_of : Thread → ℕ → Option StateRecord
record_of t point = find (λ r. r.header.point == point) t.records

-- ---- slots that a thread may not have

abbrev pub is_own_cnode : Image → List ℕ → ℕ → ℕ → Bool
is_own_cnode image cnodes offset radix =
    list_any (λ c. offset_of image c == offset && option_map_or (λ own. own == radix) (radix_of (type_at image c)) false) cnodes

-- threads, page tables, interrupt control, and CNodes and root tables that are not the thread's
abbrev pub is_foreign : Image → Thread → List ℕ → Cap → Bool
is_foreign image t cnodes (Tcb offset) = true
is_foreign image t cnodes (PageTable offset mapping) = true
is_foreign image t cnodes InterruptControl = true
is_foreign image t cnodes (CNode offset radix guard) = not (is_own_cnode image cnodes offset radix)
is_foreign image t cnodes (RootTable offset) = not (offset == offset_of image t.header.root)
is_foreign image t cnodes _ = false

-- whether parents lead, through at most so many full slots, to the boot CNode
unfoldable pub leads_to_boot : ℕ → List NotedSlot → Option SlotKey → Bool
leads_to_boot n slots None = true
leads_to_boot zero slots (Some key) = false
leads_to_boot (suc n) slots (Some key) = option_map_or (λ s. leads_to_boot n slots s.parent) (slot_at slots key) false

-- What no two words spell is no capability. A record cannot note it, and no call makes it: that is said here, so that slots with the
-- same words are the same slots.
abbrev pub is_stray : Image → Thread → List ℕ → List NotedSlot → NotedSlot → Bool
is_stray image t cnodes slots s =
    not (is_own image cnodes s.key) || is_foreign image t cnodes s.capability || not (is_capability s.capability)
    || not (leads_to_boot (length slots) slots s.parent)

-- whether a record notes a slot, full or empty, outside the thread's CNodes
abbrev pub notes_outside : Image → List ℕ → StateRecord → Bool
notes_outside image cnodes r = list_any (λ e. not (is_own image cnodes (entry_key e))) r.slots

-- whether some noted slot of a point is one that the thread may not have, or its record notes a slot outside the thread's CNodes
unfoldable pub has_stray_slots : Image → Thread → ℕ → PointState → Bool
has_stray_slots image t point state =
    let cnodes = reached image t in
    list_any (is_stray image t cnodes state.slots) state.slots
    || option_map_or (notes_outside image cnodes) (record_of t point) false
