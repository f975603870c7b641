-- Machine memory as a list of bytes: the little-endian word at a place, and what a write leaves.
-- RISC-V Unprivileged ISA, 1.4 "Memory".
use Rattle.std.specs.Prelude.{ℕ, ◌+◌, ◌*◌, ◌^◌, ◌<◌, ◌++◌, List, length, slice_index, take, drop, All}
use Rattle.std.specs.Int.{to_le_bytes, w32}

-- each number is one byte
abbrev pub AreBytes : List ℕ → Type 0
AreBytes bytes = All (λ byte. byte < 256) bytes

-- the 32-bit number in the four bytes from a place, the lowest byte first
abbrev pub word_at : List ℕ → ℕ → ℕ
word_at bytes at = slice_index bytes at + 2 ^ 8 * slice_index bytes (at + 1)
    + 2 ^ 16 * slice_index bytes (at + 2) + 2 ^ 24 * slice_index bytes (at + 3)

-- the four bytes of a 32-bit number, the lowest byte first
abbrev pub word_bytes : ℕ → List ℕ
word_bytes word = to_le_bytes w32 word

-- the bytes with `piece` in place of as many bytes from a place on
abbrev pub written : List ℕ → ℕ → List ℕ → List ℕ
written bytes at piece = take at bytes ++ piece ++ drop (at + length piece) bytes
