-- Room for one new object: its slots are open and empty, or its page is zero.
-- seL4 Reference Manual, "Kernel Memory Allocation".
use Rattle.std.specs.Prelude.{ℕ, ◌≡◌, ◌+◌, ◌/◌, ◌^◌, ◌<◌, ◌≤◌, ◌⊎◌, Bool, true, false, None, List, length, slice_index}
use Rattle.model.specs.Capabilities.Slots.{Slots}
use Rattle.model.specs.Kernel.AddressSpaces.{page_size}
use Rattle.model.specs.Kernel.Retype.{NewObject, NewUntyped, NewThread, NewEndpoint, NewNotification, NewCNode, NewFrame, NewPageTable, NewRootTable}
use Rattle.model.specs.Kernel.Retype.{object_bits, with_new_slots}

-- whether an object is a page of zeros
abbrev pub has_page : NewObject → Bool
has_page NewFrame = true
has_page NewPageTable = true
has_page NewRootTable = true
has_page (NewUntyped bits) = false
has_page NewThread = false
has_page NewEndpoint = false
has_page NewNotification = false
has_page (NewCNode radix) = false

pub record RoomMade (before now : Slots) (old new : List ℕ) (kind : NewObject) (place : ℕ) : Type 0 where
  pub slots : now ≡ with_new_slots (record { kind = kind; first = place; count = 1 }) before
  pub size : length new ≡ length old
  -- bytes elsewhere are the same
  pub bytes : (other : ℕ) → now (other / 16) ≡ None → (other < place) ⊎ (place + 2 ^ object_bits kind ≤ other) → slice_index new other ≡ slice_index old other
  pub page : has_page kind ≡ true → (other : ℕ) → place ≤ other → other < place + page_size → slice_index new other ≡ 0
