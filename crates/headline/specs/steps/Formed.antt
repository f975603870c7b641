-- Noted slots that differ by what the rules compare.
use Rattle.std.specs.Prelude.{◌≡◌, ◌^◌, ◌<◌, Bool, true, nat_lt, List, [], ◌∷◌, length}
use Rattle.std.specs.Option.{option_map_or}
use Rattle.std.specs.List.{list_all}
use Rattle.model.specs.Acceptance.NotedStates.{NotedSlot, PointState}
use Rattle.model.specs.Capabilities.CapabilityWords.{IsCapability}

-- what the slot was derived from has an index of 32 bits
abbrev pub is_low : NotedSlot → Bool
is_low s = option_map_or (λ key. nat_lt key.index (2 ^ 32)) s.parent true

-- indices have 32 bits, and the capability is one
pub record IsFormed (s : NotedSlot) : Type 0 where
  pub index : s.key.index < 2 ^ 32
  pub valid : IsCapability s.capability
  pub low : is_low s ≡ true

abbrev pub AreFormed : List NotedSlot → Type 0
AreFormed [] = Unit {0}
AreFormed (s ∷ rest) = IsFormed s × AreFormed rest

-- what a certificate notes of a point has its form: 31 ranges, and parents with indices of 32 bits
pub record HasForm (state : PointState) : Type 0 where
  pub long : length state.ranges ≡ 31
  pub low : list_all is_low state.slots ≡ true
