-- For each page of memory a slot that names the object which starts there.
-- seL4 Reference Manual, "Capability-based Access Control".
use Rattle.std.specs.Prelude.{ℕ, ◌≡◌, ◌≢◌, ◌*◌, ◌^◌, ◌<◌, Bool, if◌then◌else◌, Option, Some, None, List, slice_index_or}
use Rattle.model.specs.Capabilities.CapabilityKinds.{names_object}
use Rattle.model.specs.Capabilities.Slots.{Slots}
use Rattle.model.specs.declared.capabilities.Cap.{Cap}
use Rattle.packed_slots.specs.Words.{is_one}
use Rattle.slots.specs.Kin.{object_at}

-- a capability names what starts at a page
abbrev pub names_page : Cap → ℕ → Bool
names_page capability page = names_object (2 ^ 12 * page) capability

abbrev pub slot_named : List (Option ℕ) → ℕ → Option ℕ
slot_named named page = slice_index_or named page None

-- what is known of a page once a slot more holds a capability
abbrev pub or_slot : ℕ → Option ℕ → Option ℕ
or_slot slot None = Some slot
or_slot slot (Some known) = Some known

abbrev pub with_slot : Cap → ℕ → ℕ → Option ℕ → Option ℕ
with_slot capability slot page known = if names_page capability page then or_slot slot known else known

-- and once a slot is another, or none
abbrev pub replaced : ℕ → Option ℕ → Option ℕ → Option ℕ
replaced gone other known = if is_one gone known then other else known

abbrev pub without_slot : Cap → ℕ → Option ℕ → ℕ → Option ℕ → Option ℕ
without_slot capability gone other page known = if names_page capability page then replaced gone other known else known

-- some slot is known of each page whose object is named
pub record AreNamed (slots : Slots) (named : List (Option ℕ)) : Type 0 where
  pub some : (page slot : ℕ) → page < 2 ^ 12 → slot_named named page ≡ Some slot → object_at slots slot ≡ Some (2 ^ 12 * page)
  pub none : (page slot : ℕ) → page < 2 ^ 12 → slot_named named page ≡ None → object_at slots slot ≢ Some (2 ^ 12 * page)
