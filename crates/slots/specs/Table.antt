-- Slots as a table with a record for each 16 bytes of memory.
use Rattle.std.specs.Prelude.{ℕ, zero, suc, ◌≡◌, ◌+◌, ◌*◌, ◌^◌, ◌≤◌, Option, None, List, [], ◌∷◌, length, slice_index_or, if◌then◌else◌}
use Rattle.model.specs.Capabilities.Slots.{Slots, IsDerivation, is_full}
use Rattle.model.specs.declared.slot_entries.Entry.{Entry}

-- the slots of a table; nothing is open after its end
abbrev pub table_slots : List (Option Entry) → Slots
table_slots records slot = slice_index_or records slot None

-- the full slots from a slot on, of so many, in rising order
abbrev pub full_from : Slots → ℕ → ℕ → List ℕ
full_from slots first zero = []
full_from slots first (suc n) =
    if is_full slots first then first ∷ full_from slots (first + 1) n else full_from slots (first + 1) n

-- the table is as long as the memory, and its derivation is sound
pub record IsTable (memory : List ℕ) (records : List (Option Entry)) : Type 0 where
  pub long : 16 * length records ≡ length memory
  pub few : length records ≤ 2 ^ 20
  pub derivation : IsDerivation (table_slots records)
