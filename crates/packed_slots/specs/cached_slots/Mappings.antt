-- The leaves of the frames that capabilities map.
-- seL4 Reference Manual, "Address Spaces and Virtual Memory"; RISC-V Privileged Architecture, "Sv32: Page-Based 32-bit
-- Virtual-Memory Systems".
use Rattle.std.specs.Prelude.{ℕ, ◌≡◌, ◌≢◌, ◌<◌, ◌^◌, Option, Some, None, List, slice_index_or}
use Rattle.model.specs.Capabilities.Slots.{Slots}
use Rattle.model.specs.Kernel.AddressSpaces.{Maps}
use Rattle.model.specs.Machine.Sv32.{leaf_word}
use Rattle.model.specs.declared.rights.Rights.{Rights}
use Rattle.packed_slots.specs.cached_slots.KeptLeaves.{leaf_of}
use Rattle.packed_slots.specs.declared.cached_slots.caches.TlbEntry.{TlbEntry}

-- the capability in some slot maps a frame at a page under a root table, and this is its leaf
pub record IsMapped (slots : Slots) (root page leaf : ℕ) : Type 0 where
  pub frame : ℕ
  pub allowed : Rights
  pub maps : Maps slots root page frame allowed
  pub word : leaf ≡ leaf_word frame allowed.0

-- and the slot is another one than this
pub record IsMappedBeside (slots : Slots) (gone root page leaf : ℕ) : Type 0 where
  pub mapped : IsMapped slots root page leaf
  pub other : mapped.maps.slot ≢ gone

-- what is kept of a page is the leaf of a mapping
pub record AreMapped (slots : Slots) (entries : List (Option TlbEntry)) : Type 0 where
  pub each : (place : ℕ) (kept : TlbEntry) → slice_index_or entries place None ≡ Some kept → ∥ IsMapped slots kept.root kept.page kept.leaf ∥₁

-- and of a mapping in another slot than this
pub record AreMappedBeside (slots : Slots) (gone : ℕ) (entries : List (Option TlbEntry)) : Type 0 where
  pub each : (place : ℕ) (kept : TlbEntry) → slice_index_or entries place None ≡ Some kept → ∥ IsMappedBeside slots gone kept.root kept.page kept.leaf ∥₁

-- memory has the leaf of each mapping, and pages under a root table have no other
pub record LeavesAgree (slots : Slots) (memory : List ℕ) (root : ℕ) : Type 0 where
  pub leaves : (top page leaf : ℕ) → IsMapped slots top page leaf → leaf_of memory top page ≡ Some leaf
  pub only : (page leaf : ℕ) → page < 2 ^ 20 → leaf_of memory root page ≡ Some leaf → ∥ IsMapped slots root page leaf ∥₁
