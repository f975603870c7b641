-- The slots of a thread's CNodes by the kernel's numbers, from the places of the CNodes.
use Rattle.std.specs.Prelude.{ℕ, ◌≡◌, ◌-◌, ◌&&◌, Bool, true, false, not, Option, None, option_map, List, find}
use Rattle.std.specs.Option.{option_map_or}
use Rattle.std.specs.List.{list_all, list_any}
use Rattle.model.specs.declared.capabilities.Cap.TheVariants.{Empty}
use Rattle.model.specs.declared.slot_entries.Entry.{Entry}
use Rattle.model.specs.Acceptance.NotedKernel.{noted_root}
use Rattle.model.specs.Acceptance.NotedStates.{NotedSlot, SlotKey, is_foreign, is_own, slot_at}
use Rattle.model.specs.Acceptance.ThreadRules.{reached}
use Rattle.model.specs.Capabilities.CapabilityWords.{IsCapability}
use Rattle.model.specs.Capabilities.Slots.{Slots, is_empty}
use Rattle.model.specs.Images.Image.{Image, Thread}
use Rattle.model.specs.Images.Places.{offset_of}
use Rattle.model.specs.Kernel.State.{slot_of}
pub use Rattle.typestate.specs.GivenSpaces.{AreApart, AreWindows, HeldInBoot, IsThere, IsWindow, StandsApart, is_among, is_inside, stands_within}
use Rattle.typestate.specs.declared.window.Window.{Window}
use Rattle.typestate.specs.declared.spaces.Space.{Space}

-- ---- from numbers to keys

abbrev pub key_within : ℕ → Window → SlotKey
key_within slot w = record { cnode = w.cnode; index = slot - slot_of w.offset 0 }

-- the CNode and the index of a slot, if it stands in one of these
abbrev pub key_in : List Window → ℕ → Option SlotKey
key_in windows slot = option_map (key_within slot) (find (stands_within slot) windows)

-- ---- the slots as a map of capabilities; what each was derived from is not in it

abbrev pub entry_in : List NotedSlot → SlotKey → Entry
entry_in slots key = record { capability = option_map_or (λ s. s.capability) (slot_at slots key) Empty; parent = None }

abbrev pub own_slots : List Window → List NotedSlot → Slots
own_slots windows slots slot = option_map (entry_in slots) (key_in windows slot)

-- ---- the thread's slots

-- the CNodes that the image gives the thread, and the root of its capability space
pub record IsSpace (space : Space) : Type 0 where
  pub cnodes : AreWindows space.image.now (reached space.image.now space.thread.now) space.windows.now
  pub root_is : space.root ≡ noted_root space.image.now space.thread.now
  pub root_inside : is_inside space.image.now space.thread.now space.root ≡ true
  pub valid : IsCapability space.root
  pub table_is : space.table ≡ offset_of space.image.now space.thread.now.header.root

-- no slot holds what leads outside of the thread's CNodes
abbrev pub NothingLeadsOutside : Image → Thread → List NotedSlot → Type 0
NothingLeadsOutside image t slots = list_any (λ s. is_foreign image t (reached image t) s.capability) slots ≡ false

-- a full slot of the thread's CNodes, and what it was derived from is one too, or none of them
abbrev pub is_own_slot : Image → List ℕ → NotedSlot → Bool
is_own_slot image cnodes s = is_own image cnodes s.key && not (is_empty s.capability) && option_map_or (is_own image cnodes) s.parent true

abbrev pub AreOwn : Image → Thread → List NotedSlot → Type 0
AreOwn image t slots = list_all (is_own_slot image (reached image t)) slots ≡ true
