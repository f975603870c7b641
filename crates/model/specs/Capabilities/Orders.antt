-- The order in which a store lists its full slots, and those of them that descend from one.
-- seL4 Reference Manual, "Capability Derivation Tree".
use Rattle.std.specs.Prelude.{ℕ, ◌≡◌, ◌==◌, Option, Some, None, List, [], ◌∷◌, filter, if◌then◌else◌}
use Rattle.model.specs.Capabilities.Slots.{Slots, is_descendant, is_full}
use Rattle.model.specs.Shared.Lists.{times_in}

-- the list has each full slot once, and nothing else
abbrev pub IsOrderOf : List ℕ → Slots → Type 0
IsOrderOf order slots = (slot : ℕ) → times_in order slot ≡ (if is_full slots slot then 1 else 0)

abbrev pub first_of : List ℕ → Option ℕ
first_of [] = None
first_of (slot ∷ rest) = Some slot

-- the slot after another in a list
abbrev pub next_after : List ℕ → ℕ → Option ℕ
next_after [] previous = None
next_after (slot ∷ rest) previous = if slot == previous then first_of rest else next_after rest previous

-- the slot after a slot, or the first one
abbrev pub next_in : List ℕ → Option ℕ → Option ℕ
next_in order None = first_of order
next_in order (Some previous) = next_after order previous

-- the descendants of a root, in the order of a list
abbrev pub descendants : List ℕ → Slots → ℕ → List ℕ
descendants order slots root = filter (is_descendant slots root) order
