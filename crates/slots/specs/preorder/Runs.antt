-- Slots with one key are side by side in a list: a run for each key.
-- seL4 Reference Manual, "Capability Derivation Tree": what is next to a capability shows there too whether it is an object's last.
use Rattle.std.specs.Prelude.{ℕ, ◌≡◌, ◌≢◌, ◌==◌, ◌<◌, ◌⊎◌, nat_lt, if◌then◌else◌, Option, Some, None, List, [], ◌∷◌}
use Rattle.model.specs.Capabilities.Orders.{first_of}
use Rattle.model.specs.Shared.Lists.{times_in}
use Rattle.slots.specs.preorder.Preorder.{Row}

-- the key of each slot, if it has one: the object that its capability names
abbrev pub Keys : Type 0 → Type 0
Keys K = ℕ → Option K

-- there is a slot, and it has a key
abbrev pub HasKey : {K : Type 0} → Keys K → K → Option ℕ → Type 0
HasKey keys key None = ⊥
HasKey keys key (Some slot) = keys slot ≡ Some key

-- no slot of a list has a key
abbrev pub NoneHas : {K : Type 0} → Keys K → K → List ℕ → Type 0
NoneHas keys key slots = (s : ℕ) → 0 < times_in slots s → keys s ≢ Some key

-- the first slot of a list has a key, or none has
abbrev pub IsAtOnce : {K : Type 0} → Keys K → K → List ℕ → Type 0
IsAtOnce keys key slots = HasKey keys key (first_of slots) ⊎ NoneHas keys key slots

-- the key of each slot goes on right after it, or not at all
abbrev pub AreRuns : {K : Type 0} → Keys K → List ℕ → Type 0
AreRuns keys [] = Unit
AreRuns {K} keys (slot ∷ rest) = ((key : K) → keys slot ≡ Some key → IsAtOnce keys key rest) × AreRuns keys rest

-- a slot may be put right after another: it has the other's key, or the other has none and no slot has the new one's
abbrev pub MayFollow : {K : Type 0} → Keys K → ℕ → ℕ → List ℕ → Type 0
MayFollow {K} keys at slot slots = (keys slot ≡ keys at) ⊎ ((keys at ≡ None) × ((key : K) → keys slot ≡ Some key → NoneHas keys key slots))

-- ---- what follows all that descends from a slot

-- the rows from the first on that is not deeper than a depth
abbrev pub past : ℕ → List Row → List Row
past depth [] = []
past depth (r ∷ rest) = if nat_lt depth r.depth then past depth rest else r ∷ rest

abbrev pub behind_run : ℕ → List Row → List Row
behind_run root [] = []
behind_run root (r ∷ rest) = if r.slot == root then past r.depth rest else behind_run root rest
