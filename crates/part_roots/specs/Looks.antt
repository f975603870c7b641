-- What a state says of slots, as they are compared: by the words of capabilities and the numbers of slots.
use Rattle.std.specs.Prelude.{ℕ, ◌≡◌, ◌≢◌, ◌==◌, ◌+◌, ◌*◌, ◌/◌, ◌%◌, if◌then◌else◌, List, [], ◌∷◌, Option, None, Some, option_map}
use Rattle.std.specs.Option.{option_map_or}
use Rattle.model.specs.Acceptance.NotedStates.{NotedSlot, number_of}
use Rattle.model.specs.Capabilities.CapabilityWords.{words_of}
use Rattle.typestate.specs.Families.{found}

-- what a slot holds, as it is compared
pub record Look : Type 0 where
  pub words : List ℕ
  pub parent : Option ℕ

abbrev pub look_of : NotedSlot → Look
look_of s = record { words = words_of s.capability; parent = option_map (λ p. number_of p) s.parent }

-- that of the slot of a number, if it is full
abbrev pub seen : List NotedSlot → ℕ → Option Look
seen slots n = option_map look_of (found slots n)

-- ---- by what states hold at numbers: one of slots, one of names, and one of names of which something is a child

-- the slot that stands for a name: that of this number, where none is noted
abbrev pub slot_named : (ℕ → Option ℕ) → ℕ → ℕ
slot_named names name = option_map_or (λ m. m) (names (2 * name)) name

-- the name that stands for a slot
abbrev pub name_of : (ℕ → Option ℕ) → ℕ → ℕ
name_of names slot = option_map_or (λ m. m) (names (2 * slot + 1)) slot

-- the two words in one number
abbrev pub words_in : ℕ → List ℕ
words_in code = code / 4294967296 ∷ code % 4294967296 ∷ []

-- what words and the name of a parent say, by what names stand for: nothing, where there are no words
abbrev pub coded : (ℕ → ℕ) → ℕ → Option ℕ → Option Look
coded named code parent = if code == 0 then None else Some (record { words = words_in code; parent = option_map named parent })

-- the slot is as the image lists it, where no words are noted
abbrev pub said_by : (ℕ → ℕ) → List NotedSlot → ℕ → Option ℕ → Option ℕ → Option Look
said_by named image n None parent = seen image n
said_by named image n (Some code) parent = coded named code parent

abbrev pub said : (ℕ → Option ℕ) → (ℕ → Option ℕ) → List NotedSlot → ℕ → Option Look
said held names image n = said_by (slot_named names) image n (held (2 * n)) (held (2 * n + 1))

-- slots are what states say, by names that go there and back, of which those of parents are noted
pub record Says (held names parents : ℕ → Option ℕ) (image slots : List NotedSlot) : Type 0 where
  pub looks : (n : ℕ) → seen slots n ≡ said held names image n
  pub names_back : (n : ℕ) → (slot_named names (name_of names n) ≡ n) × (name_of names (slot_named names n) ≡ n)
  pub noted : (n name : ℕ) → held (2 * n + 1) ≡ Some name → parents (2 * name) ≢ None

-- a value put at a number
abbrev pub put_in : (ℕ → Option ℕ) → ℕ → Option ℕ → ℕ → Option ℕ
put_in held key value other = if key == other then value else held other
