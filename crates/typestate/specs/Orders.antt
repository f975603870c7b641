-- Slots in the order of their keys.
use Rattle.std.specs.Prelude.{◌≡◌, ◌^◌, Bool, true, nat_lt, List, map}
use Rattle.std.specs.List.{list_all}
use Rattle.std.specs.List.Sorted.{IsStrictlyIncreasing}
use Rattle.std.specs.Option.{option_map_or}
use Rattle.model.specs.Acceptance.NotedStates.{NotedSlot, number_of}

-- keys rise from slot to slot
abbrev pub Rise : List NotedSlot → Type 0
Rise slots = IsStrictlyIncreasing (map (λ s. number_of s.key) slots)

-- what the slot was derived from has an index of 32 bits
abbrev pub is_narrow : NotedSlot → Bool
is_narrow s = option_map_or (λ key. nat_lt key.index (2 ^ 32)) s.parent true

abbrev pub AreNarrow : List NotedSlot → Type 0
AreNarrow slots = list_all is_narrow slots ≡ true
