-- Which slots name an object, and whether some slot holds a handler of an interrupt line.
-- seL4 Reference Manual, "Capability-based Access Control" and "Hardware I/O".
use Rattle.std.specs.Prelude.{ℕ, Bool, List, filter}
use Rattle.std.specs.List.{list_any, range_with_len}
use Rattle.model.specs.Capabilities.CapabilityKinds.{is_handler_of, names_object}
use Rattle.model.specs.Capabilities.Slots.{Slots, capability_at}

-- whether a slot names the object at an offset
abbrev pub is_naming : Slots → ℕ → ℕ → Bool
is_naming slots object slot = names_object object (capability_at slots slot)

-- the slots that do, in the order of a list
abbrev pub naming : List ℕ → Slots → ℕ → List ℕ
naming order slots object = filter (is_naming slots object) order

-- of the first so many slots one holds a handler of the line
abbrev pub is_handled : Slots → ℕ → ℕ → Bool
is_handled slots count line = list_any (λ slot. is_handler_of line (capability_at slots slot)) (range_with_len 0 count)
