-- What is left to do once a removal has emptied its slots: slots of objects that are gone close, and whoever waits where nothing is any
-- more runs again.
-- seL4 Reference Manual, "Deletion, Revocation, and Recycling".
use Rattle.std.specs.Prelude.{ℕ, ◌≡◌, ◌≢◌, ◌==◌, ◌+◌, ◌*◌, ◌/◌, ◌^◌, ◌<◌, ◌≤◌, ◌&&◌, ◌||◌, Bool, true, false, not, nat_lt, Some, is_some, filter, fold}
use Rattle.std.specs.Option.{option_map_or}
use Rattle.std.specs.List.{list_any}
use Rattle.model.specs.Kernel.Removal.{closing, is_slot_of, slot_count, thread_places}
use Rattle.model.specs.Capabilities.Slots.{IsOpen, empty_entry}
use Rattle.model.specs.Kernel.Scheduling.{wake}
use Rattle.model.specs.Kernel.State.{State, Status, Inactive, Runnable, Blocked, AwaitsReply, AwaitsHandler, as_thread, boot_area_slots, slots_of}

-- whether the boot area or an object has a slot
abbrev pub has_slot : State → ℕ → Bool
has_slot s slot = nat_lt slot (boot_area_slots s.boot_radix) || list_any (λ n. is_slot_of s (16 * n) slot) (slots_of s)

abbrev pub without_strays : State → State
without_strays s = closing s (λ slot. not (has_slot s slot))

-- whether a thread waits where nothing is
abbrev pub waits_nowhere : State → Status → Bool
waits_nowhere s (Blocked queue) = not (is_some (s.objects queue))
waits_nowhere s Inactive = false
waits_nowhere s Runnable = false
waits_nowhere s AwaitsReply = false
waits_nowhere s AwaitsHandler = false

abbrev pub is_stranded : State → ℕ → Bool
is_stranded s offset = option_map_or (λ t. waits_nowhere s t.status) (as_thread (s.objects offset)) false

abbrev pub settled : State → State
settled s = fold wake (without_strays s) (filter (is_stranded s) (thread_places s))

-- how many slots the object has that starts at a slot's place
abbrev pub slots_from : State → ℕ → ℕ
slots_from s n = slot_count (s.objects (16 * n))

-- what settling relies on: objects with slots lie in memory and apart, and open slots without an object are empty
pub record MaySettle (s : State) : Type 0 where
  pub inside : (n : ℕ) → slots_from s n ≢ 0 → n + slots_from s n ≤ 2 ^ s.memory_bits / 16
  pub boot : (n : ℕ) → slots_from s n ≢ 0 → boot_area_slots s.boot_radix ≤ n
  pub apart : (n m : ℕ) → n < m → slots_from s n ≢ 0 → slots_from s m ≢ 0 → n + slots_from s n ≤ m
  pub near : (slot : ℕ) → IsOpen s.slots slot → slot < 2 ^ s.memory_bits / 16
  pub strays : (slot : ℕ) → IsOpen s.slots slot → has_slot s slot ≡ false → s.slots slot ≡ Some empty_entry

-- the slots of no object below a number are closed
abbrev pub closed_below : State → ℕ → State
closed_below s bound = closing s (λ slot. nat_lt slot bound && not (has_slot s slot))

-- threads that wait nowhere run again
abbrev pub woken : State → State
woken s = fold wake s (filter (is_stranded s) (thread_places s))

abbrev pub without_slot : State → ℕ → State
without_slot s slot = closing s (λ other. other == slot)

-- a slot is closed if it belongs to no object
pub data StrayClosed (s : State) (slot : ℕ) (stray : Bool) (t : State) : Type 0 where
  stray_closed : stray ≡ true → t ≡ without_slot s slot → StrayClosed s slot stray t
  slot_kept : stray ≡ false → t ≡ s → StrayClosed s slot stray t
