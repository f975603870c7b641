-- What a write of bytes keeps and changes.
use Rattle.std.proofs.Common.{ℕ, ◌≡◌, ◌∙◌, ◌+◌, ◌*◌, ◌/◌, ◌%◌, ◌^◌, ◌<◌, ◌≤◌, List, length, slice_index, ap, arith}
use Rattle.std.proofs.lemmas.Grind.{common_steps}
use Rattle.model.specs.Shared.Bytes.{word_at, word_bytes, written}

-- a write that fits keeps the number of bytes
pub length-written : (bytes : List ℕ) (at : ℕ) (piece : List ℕ) → at + length piece ≤ length bytes → length (written bytes at piece) ≡ length bytes
length-written bytes at piece fits = grind (arith, common_steps)

-- the bytes that were written
pub slice_index-written_inside : (bytes : List ℕ) (at : ℕ) (piece : List ℕ) (k : ℕ) → at + length piece ≤ length bytes → k < length piece →
    slice_index (written bytes at piece) (at + k) ≡ slice_index piece k
slice_index-written_inside bytes at piece k fits inside = grind (arith, common_steps)

-- the bytes before and after them
pub slice_index-written_before : (bytes : List ℕ) (at : ℕ) (piece : List ℕ) (k : ℕ) → at + length piece ≤ length bytes → k < at →
    slice_index (written bytes at piece) k ≡ slice_index bytes k
slice_index-written_before bytes at piece k fits before = grind (arith, common_steps)

pub slice_index-written_behind : (bytes : List ℕ) (at : ℕ) (piece : List ℕ) (k : ℕ) → at + length piece ≤ length bytes → at + length piece ≤ k →
    slice_index (written bytes at piece) k ≡ slice_index bytes k
slice_index-written_behind bytes at piece k fits behind = grind (arith, common_steps)

-- a word that was written is read back
word-of_bytes : (word : ℕ) → word < 2 ^ 32 → word % 256 + 256 * (word / 256 % 256) + 65536 * (word / 65536 % 256) + 16777216 * (word / 16777216 % 256) ≡ word
word-of_bytes word small = omega arith

pub word_at-written : (bytes : List ℕ) (at word : ℕ) → at + 4 ≤ length bytes → word < 2 ^ 32 → word_at (written bytes at (word_bytes word)) at ≡ word
word_at-written bytes at word fits small =
    let piece = word_bytes word in
    let new = written bytes at piece in
    let start : at ≡ at + 0 = omega arith in
    let first : slice_index new at ≡ word % 256 = ap (slice_index new) start ∙ slice_index-written_inside bytes at piece 0 fits (omega arith) in
    let second : slice_index new (at + 1) ≡ word / 256 % 256 = slice_index-written_inside bytes at piece 1 fits (omega arith) in
    let third : slice_index new (at + 2) ≡ word / 65536 % 256 = slice_index-written_inside bytes at piece 2 fits (omega arith) in
    let fourth : slice_index new (at + 3) ≡ word / 16777216 % 256 = slice_index-written_inside bytes at piece 3 fits (omega arith) in
    omega (arith, first, second, third, fourth, word-of_bytes word small)

-- a word is the same where its four bytes are
pub word_at-same : (old new : List ℕ) (at : ℕ) → ((k : ℕ) → at ≤ k → k < at + 4 → slice_index new k ≡ slice_index old k) → word_at new at ≡ word_at old at
word_at-same old new at same =
    let first = same at (omega arith) (omega arith) in
    let second = same (at + 1) (omega arith) (omega arith) in
    let third = same (at + 2) (omega arith) (omega arith) in
    let fourth = same (at + 3) (omega arith) (omega arith) in
    omega (arith, first, second, third, fourth)

-- a write beside a word leaves it
pub word_at-written_before : (bytes : List ℕ) (at : ℕ) (piece : List ℕ) (word_place : ℕ) → at + length piece ≤ length bytes → word_place + 4 ≤ at →
    word_at (written bytes at piece) word_place ≡ word_at bytes word_place
word_at-written_before bytes at piece word_place fits before =
    word_at-same bytes (written bytes at piece) word_place (λ k low high. slice_index-written_before bytes at piece k fits (omega arith))

pub word_at-written_behind : (bytes : List ℕ) (at : ℕ) (piece : List ℕ) (word_place : ℕ) → at + length piece ≤ length bytes → at + length piece ≤ word_place →
    word_at (written bytes at piece) word_place ≡ word_at bytes word_place
word_at-written_behind bytes at piece word_place fits behind =
    word_at-same bytes (written bytes at piece) word_place (λ k low high. slice_index-written_behind bytes at piece k fits (omega arith))
