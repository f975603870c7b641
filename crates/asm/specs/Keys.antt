-- Entries in rising order of their keys.
use Rattle.std.specs.Prelude.{ℕ, ◌-◌, ◌==◌, Bool, true, false, not, if◌then◌else◌, zero, suc, List, length, slice_get, nat_lt, Result, Ok, Err}
use Rattle.std.specs.List.{insert}
use Rattle.std.specs.Option.{option_map_or}
use Rattle.asm_line.specs.Words.{◌>>=◌}

-- the last key, if there is one, is below this one
abbrev pub is_behind : {E : Type 0} → (E → ℕ) → ℕ → List E → Bool
is_behind key_of key entries = option_map_or (λ entry. nat_lt (key_of entry) key) (slice_get entries (length entries - 1)) true

-- the entry at this place, if there is one, has a lesser key
abbrev pub is_before : {E : Type 0} → (E → ℕ) → ℕ → List E → ℕ → Bool
is_before key_of key entries place = option_map_or (λ entry. nat_lt (key_of entry) key) (slice_get entries place) true

-- where an entry with this key belongs among the first so many: after the last one whose key is less
abbrev pub place_among : {E : Type 0} → (E → ℕ) → ℕ → List E → ℕ → ℕ
place_among key_of key entries zero = 0
place_among key_of key entries (suc place) = if is_before key_of key entries place then suc place else place_among key_of key entries place

abbrev pub place_of : {E : Type 0} → (E → ℕ) → ℕ → List E → ℕ
place_of key_of key entries = place_among key_of key entries (length entries)

-- the entry at this place has this key
abbrev pub has_key : {E : Type 0} → (E → ℕ) → ℕ → List E → ℕ → Bool
has_key key_of key entries place = option_map_or (λ entry. key_of entry == key) (slice_get entries place) false

-- ---- tests of a step: it goes on, or is at fault with this kind

abbrev pub must : Bool → ℕ → Result (Unit {0}) ℕ
must test fault = if test then Ok tt else Err fault

-- fewer than so many
abbrev pub has_room : {E : Type 0} → ℕ → List E → Result (Unit {0}) ℕ
has_room most entries = must (nat_lt (length entries) most) 4

-- Entries that rise in their keys, with one more where its key belongs. It shares its key with none: entries whose keys
-- rise have it nowhere if not at this place.
unfoldable pub sorted_with : {E : Type 0} → (E → ℕ) → ℕ → E → List E → Result (List E) ℕ
sorted_with key_of most entry entries = do
  room ← has_room most entries
  single ← must (not (has_key key_of (key_of entry) entries (place_of key_of (key_of entry) entries))) 4
  Ok (insert entries (place_of key_of (key_of entry) entries) entry)
