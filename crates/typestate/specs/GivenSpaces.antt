-- What a well-formed image gives a thread: the places of its CNodes, how they stand among all slots, and what is mapped.
use Rattle.std.specs.Prelude.{ℕ, ◌≡◌, ◌/◌, ◌^◌, ◌<◌, ◌≤◌, ◌⊎◌, Bool, true, false, None, Some, List, [], ◌∷◌, find, slice_get}
use Rattle.model.specs.declared.capabilities.Cap.{Cap}
use Rattle.model.specs.declared.capabilities.Cap.TheVariants.{Empty, CNode, Untyped}
use Rattle.model.specs.Acceptance.NotedKernel.{boot_parent, key_of, slots_of_cnode, stands_in}
use Rattle.model.specs.Acceptance.NotedStates.{SlotKey, is_own_cnode}
use Rattle.model.specs.Acceptance.ThreadRules.{is_member, reached}
use Rattle.model.specs.Acceptance.WellFormed.{radix_of}
use Rattle.model.specs.Capabilities.CapabilityKinds.{is_handler_of, is_untyped, names_object}
use Rattle.model.specs.Capabilities.CapabilityWords.{IsCapability}
use Rattle.model.specs.Capabilities.Slots.{capability_at, is_within, parent_at}
use Rattle.model.specs.Images.Described.{described}
use Rattle.model.specs.Images.Image.{Image, Thread}
use Rattle.model.specs.Images.Places.{offset_of, type_at}
use Rattle.model.specs.Kernel.Removal.{is_root_at, slot_count}
use Rattle.model.specs.Kernel.State.{boot_area_slots, line_slot, slot_of}
use Rattle.typestate.specs.Mappings.{MappingsAreListed}
use Rattle.typestate.specs.declared.window.Window.{Window}

-- ---- that places are those of an image's CNodes

pub record IsWindow (image : Image) (cnode : ℕ) (w : Window) : Type 0 where
  pub object : w.cnode ≡ cnode
  pub place : w.offset ≡ offset_of image cnode
  pub size : radix_of (type_at image cnode) ≡ Some w.radix

-- each of these CNodes in its turn
abbrev pub AreWindows : Image → List ℕ → List Window → Type 0
AreWindows image [] [] = Unit {0}
AreWindows image [] (w ∷ ws) = ⊥
AreWindows image (cnode ∷ cnodes) [] = ⊥
AreWindows image (cnode ∷ cnodes) (w ∷ ws) = IsWindow image cnode w × AreWindows image cnodes ws

-- one of these
abbrev pub IsThere : List Window → Window → Type 0
IsThere windows w = (n : ℕ) × (slice_get windows n ≡ Some w)

abbrev pub stands_within : ℕ → Window → Bool
stands_within slot w = is_within (slot_of w.offset 0) (2 ^ w.radix) slot

-- no slot stands in two of these: each is the one that is found for its slots
abbrev pub AreApart : List Window → Type 0
AreApart windows = (slot n : ℕ) (w : Window) → slice_get windows n ≡ Some w → stands_within slot w ≡ true → find (stands_within slot) windows ≡ Some w

-- a capability, if it is to a CNode, is to one of these by offset and radix
abbrev pub is_among : (ℕ → ℕ → Bool) → Cap → Bool
is_among own (CNode offset radix guard) = own offset radix
is_among own _ = true

-- the same for the thread's CNodes
abbrev pub is_inside : Image → Thread → Cap → Bool
is_inside image t capability = is_among (is_own_cnode image (reached image t)) capability

-- ---- how the thread's CNodes stand among all slots

-- a slot of the boot CNode holds such a capability
pub record HeldInBoot (image : Image) (test : Cap → Bool) : Type 0 where
  pub slot : ℕ
  pub boot : slot < 2 ^ image.header.boot_radix
  pub holds : test (capability_at (described image).slots slot) ≡ true

-- Slots of the thread's CNodes are told apart from one another and from all others, and nothing outside of them was derived
-- from what is inside; each object with slots, each line that is bound and the thread's root table have a capability in the
-- boot CNode. Well-formed images have it so.
pub record StandsApart (image : Image) (t : Thread) : Type 0 where
  pub listed : (cnode : ℕ) → is_member cnode (reached image t) ≡ true → cnode < image.header.objects
  pub small : (cnode : ℕ) → is_member cnode (reached image t) ≡ true → slots_of_cnode image cnode ≤ 2 ^ 14
  -- no two of the CNodes share a slot
  pub apart : (a b slot : ℕ) → is_member a (reached image t) ≡ true → is_member b (reached image t) ≡ true → stands_in image slot a ≡ true →
      stands_in image slot b ≡ true → a ≡ b
  -- they stand in memory, behind the boot CNode and the interrupt table
  pub within : (slot : ℕ) (key : SlotKey) → key_of image (reached image t) slot ≡ Some key → slot < 2 ^ image.header.memory_bits / 16
  pub behind : (slot : ℕ) → slot < boot_area_slots image.header.boot_radix → key_of image (reached image t) slot ≡ None
  pub room : boot_area_slots image.header.boot_radix ≤ 2 ^ image.header.memory_bits / 16
  -- what stands elsewhere was derived from what stands elsewhere
  pub outside : (slot parent : ℕ) → key_of image (reached image t) slot ≡ None → parent_at (described image).slots slot ≡ Some parent →
      key_of image (reached image t) parent ≡ None
  -- the boot slots that noted capabilities hang below: of untyped memory that was derived from nothing, and else of what
  -- was derived from such a slot
  pub parent_boot : (capability : Cap) → boot_parent image t capability < 2 ^ image.header.boot_radix
  pub parent_pool : (offset bits watermark : ℕ) → parent_at (described image).slots (boot_parent image t (Untyped offset bits watermark)) ≡ None
  pub parent_other : (capability : Cap) → is_untyped capability ≡ false
      → (above : ℕ) × (parent_at (described image).slots (boot_parent image t capability) ≡ Some above) × (parent_at (described image).slots above ≡ None)
  -- capabilities in the boot CNode
  pub objects : (offset : ℕ) → (slot_count ((described image).objects offset) ≡ 0) ⊎ HeldInBoot image (names_object offset)
  pub lines : (line : ℕ) → line < 64 → (capability_at (described image).slots (line_slot image.header.boot_radix line) ≡ Empty) ⊎ HeldInBoot image
      (is_handler_of line)
  pub root : HeldInBoot image (is_root_at (offset_of image t.header.root))

-- ---- the whole

-- the CNodes that an image gives a thread, with a root of its capability space that leads to one of them
pub record IsGivenSpace (image : Image) (t : Thread) (windows : List Window) (root : Cap) : Type 0 where
  pub cnodes : AreWindows image (reached image t) windows
  pub inside : is_inside image t root ≡ true
  pub valid : IsCapability root
  pub apart : StandsApart image t
  pub listed : MappingsAreListed image t
