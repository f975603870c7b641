-- Memories that the rows on walks start from: a root table, a page table and a page, one after another.
use Rattle.std.specs.Prelude.{ℕ, ◌-◌, List, replicate}
use Rattle.model.specs.Shared.Bytes.{word_bytes, written}
use Rattle.model.specs.Machine.Sv32.{leaf_word, table_word}

unfoldable pub memory_with : ℕ → ℕ → List ℕ
memory_with pointer leaf = written (written (replicate 0x3000 0) 4 (word_bytes pointer)) 0x1004 (word_bytes leaf)

-- the page at 0x2000 is read and written
abbrev pub two_tables : List ℕ
two_tables = memory_with (table_word 0x1000) (leaf_word 0x2000 3)

-- its leaf has write and no read: bit 2 without bit 1
abbrev pub write_only : List ℕ
write_only = memory_with (table_word 0x1000) (leaf_word 0x2000 3 - 2)

-- the root table's entry is a leaf that does not name a multiple of 4 MiB
abbrev pub misaligned : List ℕ
misaligned = memory_with (leaf_word 0x2000 3) 0
