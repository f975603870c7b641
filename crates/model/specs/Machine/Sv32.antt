-- Sv32: the place in memory that a virtual address names through two levels of page tables.
-- RISC-V Privileged Architecture, "Sv32: Page-Based 32-bit Virtual-Memory Systems", "Virtual Address Translation
-- Process". Physical memory starts at 2^31. A walk never sets a bit: it fails where A, or D at a store, is 0.
use Rattle.std.specs.Prelude.{ℕ, ◌==◌, ◌+◌, ◌-◌, ◌*◌, ◌/◌, ◌%◌, ◌^◌, ◌&&◌, ◌||◌, Bool, not, nat_le, nat_lt, if◌then◌else◌, Option, Some, None, option_and_then}
use Rattle.std.specs.Prelude.{List, length}
use Rattle.model.specs.Shared.Bytes.{word_at}
use Rattle.model.specs.declared.instructions.Access.{Access}
use Rattle.model.specs.declared.instructions.Access.TheVariants.{Load, Store, Fetch}
use Rattle.model.specs.declared.instructions.PageFault.{PageFault}

infixl 10 ◌>>=◌
abbrev pub ◌>>=◌ : {A B : Type 0} → Option A → (A → Option B) → Option B
o >>= f = option_and_then f o

-- ---- a page table entry: V, R, W, X, U, G, A, D in bits 0 to 7, two bits for software, and the number of a
-- physical page in bits 10 to 31

abbrev pub has_bit : ℕ → ℕ → Bool
has_bit entry place = entry / 2 ^ place % 2 == 1

-- valid, and not writable without being readable
abbrev pub is_valid : ℕ → Bool
is_valid entry = has_bit entry 0 && (has_bit entry 1 || not (has_bit entry 2))

-- an entry that is readable or executable is a leaf; another one names the next table
abbrev pub is_leaf : ℕ → Bool
is_leaf entry = has_bit entry 1 || has_bit entry 3

-- the physical address of the page that an entry names, of 34 bits
abbrev pub page_address : ℕ → ℕ
page_address entry = entry / 2 ^ 10 * 2 ^ 12

-- a leaf has the right for an access
abbrev pub has_right : ℕ → Access → Bool
has_right entry Load = has_bit entry 1
has_right entry Store = has_bit entry 2 && has_bit entry 7
has_right entry Fetch = has_bit entry 3

-- a leaf lets a user's access pass
abbrev pub permits : ℕ → Access → Bool
permits entry access = has_bit entry 4 && has_bit entry 6 && has_right entry access

-- ---- the walk

-- the place of a physical address, if it does not lie before memory
abbrev pub place_of : ℕ → Option ℕ
place_of physical = if nat_le (2 ^ 31) physical then Some (physical - 2 ^ 31) else None

-- the entry of this number in the table at a place, if memory has its bytes and it is valid
unfoldable pub entry_at : List ℕ → ℕ → ℕ → Option ℕ
entry_at memory table number =
    let at = table + 4 * number in
    if nat_le (at + 4) (length memory) && is_valid (word_at memory at) then Some (word_at memory at) else None

-- the place that an address has in the aligned page of 2 ^ bits bytes that a leaf names, if memory has it and the
-- leaf permits the access
unfoldable pub leaf_place : List ℕ → ℕ → ℕ → ℕ → Access → Option ℕ
leaf_place memory entry bits address access = do
  place ← place_of (page_address entry + address % 2 ^ bits)
  if permits entry access && page_address entry % 2 ^ bits == 0 && nat_lt place (length memory)
      then Some place else None

-- the place that an address names for an access, under the root table at a place; the address has 10 bits for the
-- root table's entry, 10 for the next table's, and 12 for the byte
unfoldable pub walk : List ℕ → ℕ → ℕ → Access → Option ℕ
walk memory root address access = do
  top ← entry_at memory root (address / 2 ^ 22)
  if is_leaf top then leaf_place memory top 22 address access else do
    table ← place_of (page_address top)
    last ← entry_at memory table (address / 2 ^ 12 % 2 ^ 10)
    if is_leaf last then leaf_place memory last 12 address access else None

abbrev pub page_fault : PageFault
page_fault = record {}

-- ---- the entries that the kernel writes

-- a pointer to the table at a place has V alone
abbrev pub table_word : ℕ → ℕ
table_word place = 2 ^ 10 * ((2 ^ 31 + place) / 2 ^ 12) + 1

-- a leaf of the page at a place, with the rights word's execute, write and read, has V, U, A and D too
abbrev pub leaf_word : ℕ → ℕ → ℕ
leaf_word place rights =
    2 ^ 10 * ((2 ^ 31 + place) / 2 ^ 12) + 2 ^ 7 + 2 ^ 6 + 2 ^ 4
    + 2 ^ 3 * (rights / 4 % 2) + 2 ^ 2 * (rights % 2) + 2 * (rights / 2 % 2) + 1
