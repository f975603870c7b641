-- How many slots hold a handler of each interrupt line.
-- seL4 Reference Manual, "Hardware I/O", "Interrupt Delivery".
use Rattle.std.specs.Prelude.{ℕ, zero, suc, ◌≡◌, ◌+◌, ◌^◌, ◌<◌, Bool, if◌then◌else◌, List, slice_index_or}
use Rattle.model.specs.Capabilities.CapabilityKinds.{is_handler_of}
use Rattle.model.specs.Capabilities.Slots.{Slots, capability_at}

-- how many of the first so many numbers pass a test
unfoldable pub times_of : (ℕ → Bool) → ℕ → ℕ
times_of test zero = 0
times_of test (suc n) = times_of test n + (if test n then 1 else 0)

abbrev pub handles : Slots → ℕ → ℕ → Bool
handles slots line slot = is_handler_of line (capability_at slots slot)

-- as many slots hold a handler of each line as are counted
pub record AreCounted (slots : Slots) (counts : List ℕ) : Type 0 where
  pub each : (line : ℕ) → line < 64 → slice_index_or counts line 0 ≡ times_of (handles slots line) (2 ^ 20)
