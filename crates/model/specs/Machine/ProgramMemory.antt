-- Registers, and memory as a program sees it (RISC-V Unprivileged ISA, 2.1 and 2.6).
use Rattle.std.specs.Prelude.{◌≡◌, ℕ, zero, suc, ◌+◌, ◌*◌, ◌%◌, ◌^◌, ◌<◌, ◌==◌, List, [], ◌∷◌, map, Option, Some, None, Result, Ok, Err, if◌then◌else◌}
use Rattle.std.specs.Prelude.{slice_index, slice_set}
use Rattle.std.specs.Int.{Width, w8, w16, w32, byte_len, from_le_bytes, to_le_bytes}
use Rattle.model.specs.declared.instructions.Register.{Register}
use Rattle.model.specs.declared.instructions.AccessSize.{AccessSize}
use Rattle.model.specs.declared.instructions.AccessSize.TheVariants.{Byte, Halfword, Word}
use Rattle.model.specs.declared.instructions.Access.{Access}
use Rattle.model.specs.declared.instructions.Access.TheVariants as accesses
use Rattle.model.specs.declared.instructions.MemoryFault.{MemoryFault}

-- ---- registers (2.1)

-- the pc and the 32 registers; the entry of register 0 is never read
pub record RegisterFile : Type 0 where
  pub pc : ℕ
  pub words : List ℕ

abbrev pub read : RegisterFile → Register → ℕ
read r x = if x.0 == 0 then 0 else slice_index r.words x.0

abbrev pub write : RegisterFile → Register → ℕ → RegisterFile
write r x value = if x.0 == 0 then r else record r { words = slice_set r.words x.0 value }

-- ---- memory

-- Memory as a program sees it: the place that an address names for an access, if that has the right there, and the
-- byte in each place. Two addresses may name one place.
pub record Content : Type 0 where
  pub place : Access → ℕ → Option ℕ
  pub byte : ℕ → ℕ

infixl 10 ◌>>=◌
abbrev pub ◌>>=◌ : {A B : Type 0} → Result A MemoryFault → (A → Result B MemoryFault) → Result B MemoryFault
(Ok x) >>= f = f x
(Err fault) >>= f = Err fault

-- the place that an address names, or the fault
abbrev pub place_or_fault : Option ℕ → Access → ℕ → Result ℕ MemoryFault
place_or_fault (Some place) access address = Ok place
place_or_fault None access address = Err (record { address = address; access = access })

abbrev pub place_at : Content → Access → ℕ → Result ℕ MemoryFault
place_at content access address = place_or_fault (content.place access address) access address

-- some address names the place for some access
pub record IsNamed (content : Content) (place : ℕ) : Type 0 where
  pub access : Access
  pub address : ℕ
  pub names : place_at content access address ≡ Ok place

-- the address of the next byte, which wraps
abbrev pub next_address : ℕ → ℕ
next_address address = (address + 1) % 2 ^ 32

-- the places of the bytes from an address on, or the fault at the first of them without the right
abbrev pub places_from : Content → Access → ℕ → ℕ → Result (List ℕ) MemoryFault
places_from content access address zero = Ok []
places_from content access address (suc count) = do
  place ← place_at content access address
  others ← places_from content access (next_address address) count
  Ok (place ∷ others)

-- what the places hold once the bytes are put there one after another
abbrev pub put_byte : Content → ℕ → ℕ → Content
put_byte content place value = record content { byte = λ other. if other == place then value else content.byte other }

abbrev pub put_bytes : Content → List ℕ → List ℕ → Content
put_bytes content [] values = content
put_bytes content (place ∷ places) [] = content
put_bytes content (place ∷ places) (value ∷ values) = put_bytes (put_byte content place value) places values

abbrev pub width_of : AccessSize → Width
width_of Byte = w8
width_of Halfword = w16
width_of Word = w32

-- the number has no more bytes than this
abbrev pub FitsSize : AccessSize → ℕ → Type 0
FitsSize size n = n < 2 ^ (8 * byte_len (width_of size))

-- the number of this size at an address, lowest byte first
abbrev pub loaded : Content → Access → AccessSize → ℕ → Result ℕ MemoryFault
loaded content access size address = do
  places ← places_from content access address (byte_len (width_of size))
  Ok (from_le_bytes (width_of size) (map content.byte places))

-- memory with the low bytes of a number stored at an address, the lowest first
abbrev pub stored : Content → AccessSize → ℕ → ℕ → Result Content MemoryFault
stored content size address value = do
  places ← places_from content accesses.Store address (byte_len (width_of size))
  Ok (put_bytes content places (to_le_bytes (width_of size) value))
