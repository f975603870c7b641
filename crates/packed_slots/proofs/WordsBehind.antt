-- What is read beyond the end of memory.
use Rattle.std.proofs.Common.{ℕ, ◌≡◌, ◌+◌, ◌*◌, ◌%◌, ◌<◌, ◌≤◌, inl, inr, List, length, ap, arith}
use Rattle.std.proofs.lemmas.Bool.{cases_lt}
use Rattle.std.proofs.lemmas.List.{get_or_past}
use Rattle.model.specs.Shared.Bytes.{word_at}
use Rattle.packed_slots.specs.Words.{depth_in, word_of}

pub word_past : (memory : List ℕ) (place : ℕ) → length memory ≤ place → word_at memory place ≡ 0
word_past memory place past =
    let first = get_or_past memory place 0 past in
    let second = get_or_past memory (place + 1) 0 (omega (arith, past)) in
    let third = get_or_past memory (place + 2) 0 (omega (arith, past)) in
    let fourth = get_or_past memory (place + 3) 0 (omega (arith, past)) in
    omega (arith, first, second, third, fourth)

-- a slot that is deeper than another lies in memory
pub deep_inside : (memory : List ℕ) (slot depth : ℕ) → length memory % 16 ≡ 0 → depth < depth_in (word_of memory slot 2) → 16 * (slot + 1) ≤ length memory
deep_inside memory slot depth whole deep = elim (cases_lt (16 * slot + 8) (length memory)) [
  | inl inside ↦ omega (arith, inside, whole)
  | inr past ↦ absurd (let none : word_of memory slot 2 ≡ 0 = word_past memory (16 * slot + 8) past in
      let zero' : depth_in (word_of memory slot 2) ≡ 0 = ap depth_in none in omega (arith, deep, zero'))
]
