-- What objects that ended leave to settle.
-- seL4 Reference Manual, "Deletion, Revocation, and Recycling".
use Rattle.std.specs.Prelude.{ℕ, ◌≡◌, ◌≢◌, ◌+◌, ◌-◌, ◌*◌, ◌%◌, ◌/◌, ◌^◌, ◌<◌, ◌≤◌, ◌&&◌, ◌||◌, nat_le, nat_lt, Bool, true, false, is_some, List, max, min}
use Rattle.std.specs.Prelude.{replicate, slice_index, if◌then◌else◌}
use Rattle.cnode_ops.specs.declared.settling.Unsettled.{Unsettled}
use Rattle.model.specs.Capabilities.Slots.{IsOpen, Slots}
use Rattle.model.specs.Kernel.Removal.{slot_count}
use Rattle.model.specs.Kernel.Soundness.{waiting_at, waits_at}
use Rattle.model.specs.Kernel.State.{State, boot_area_slots}
use Rattle.model.specs.Shared.Lists.{times_in}
use Rattle.removal_laws.specs.Finishing.{has_slot, slots_from}

-- before anything ends, in memory of so many slots
abbrev pub nothing : ℕ → Unsettled
nothing count = record { first = count; end = 0; starts = replicate 64 (2 ^ 20); waited = false }

-- the start of a block once some slots are noted: the first of those that it has, if it has some and did not start before
abbrev pub start_with : ℕ → ℕ → ℕ → ℕ → ℕ
start_with start first last block =
    if nat_le (first / 16384) block && nat_lt block (last / 16384 + 1) then min start (max first (16384 * block)) else start

-- an object ended as well that has so many slots from one on
pub record IsWithSlots (left : Unsettled) (first count : ℕ) (new : Unsettled) : Type 0 where
  pub first_is : new.first ≡ min left.first first
  pub end_is : new.end ≡ max left.end (first + count)
  pub starts_are : (block : ℕ) → slice_index new.starts block ≡ start_with (slice_index left.starts block) first (first + (count - 1)) block
  pub waited_is : new.waited ≡ left.waited

-- the start of the block of a slot
abbrev pub start_at : List ℕ → ℕ → ℕ
start_at starts slot = slice_index starts (slot / 16384)

-- from a slot on to one that is not before the start of its block, or to no other
pub data Lands (starts : List ℕ) (at : ℕ) : ℕ → Type 0 where
  stays : Lands starts at at
  jumps : (block start : ℕ) → block < 64 → slice_index starts block ≡ start → start < 16384 * block + 16384 → at ≤ start
      → ((slot : ℕ) → at ≤ slot → slot < start → slot < start_at starts slot) → Lands starts at start

-- and threads waited there, or not
abbrev pub with_waiting : Unsettled → Bool → Unsettled
with_waiting left waited = record left { waited = left.waited || waited }

-- objects that have slots lie in memory, after the boot area and apart
pub record ObjectsLie (s : State) : Type 0 where
  pub few : s.memory_bits ≤ 24
  pub aligned : (offset : ℕ) → slot_count (s.objects offset) ≢ 0 → offset % 16 ≡ 0
  pub inside : (n : ℕ) → slots_from s n ≢ 0 → n + slots_from s n ≤ 2 ^ s.memory_bits / 16
  pub boot : (n : ℕ) → slots_from s n ≢ 0 → boot_area_slots s.boot_radix ≤ n
  pub apart : (n m : ℕ) → n < m → slots_from s n ≢ 0 → slots_from s m ≢ 0 → n + slots_from s n ≤ m

-- who waits at an object that is there is in its queue, and nobody waits where nothing is unless that is noted
pub record WaitersAreNoted (s : State) (noted : Bool) : Type 0 where
  pub queued : (thread queue : ℕ) → waits_at s thread queue ≡ true → is_some (s.objects queue) ≡ true → 1 ≤ times_in (waiting_at (s.objects queue)) thread
  pub awake : noted ≡ false → (thread queue : ℕ) → waits_at s thread queue ≡ true → is_some (s.objects queue) ≡ true

-- What is left covers those of the open slots that belong to no object any more, and no object reaches over the first of
-- them, in memory and in each block; and the threads that wait at an object that is gone.
pub record Covers (slots : Slots) (s : State) (left : Unsettled) : Type 0 where
  pub lie : ObjectsLie s
  pub strays : (slot : ℕ) → IsOpen slots slot → has_slot s slot ≡ false → (left.first ≤ slot) × (slot < left.end)
  pub reach : (n : ℕ) → n < left.first → n + slots_from s n ≤ left.first
  pub noted : (slot : ℕ) → IsOpen slots slot → has_slot s slot ≡ false → start_at left.starts slot ≤ slot
  pub starts : (block n : ℕ) → block < 64 → slice_index left.starts block < 16384 * block + 16384 → n < slice_index left.starts block
      → n + slots_from s n ≤ slice_index left.starts block
  pub boot : boot_area_slots s.boot_radix ≤ left.first
  pub inside : left.end ≤ 2 ^ s.memory_bits / 16
  pub waiters : WaitersAreNoted s left.waited

-- what ended between two states is noted: what was left to settle becomes what is
pub record Notes (s : State) (old : Unsettled) (t : State) (new : Unsettled) : Type 0 where
  pub lie : ObjectsLie s → ObjectsLie t
  pub covered : (slots : Slots) → Covers slots s old → Covers slots t new
