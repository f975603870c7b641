-- What the walk's steps find in the entries that the kernel writes.
use Rattle.std.proofs.Common.{◌≡◌, ℕ, ◌+◌, ◌-◌, ◌*◌, ◌/◌, ◌%◌, ◌^◌, ◌≤◌, ◌==◌, ◌&&◌, ◌||◌, true, false, not, Some, None, List, length, refl, arith}
use Rattle.std.specs.Prelude.{nat_le, if◌then◌else◌}
use Rattle.std.proofs.lemmas.Bool.Decides.{nat_tests}
use Rattle.model.specs.Shared.Bytes.{word_at}
use Rattle.model.specs.Capabilities.CapabilityWords.{AreMappingRights}
use Rattle.model.specs.Machine.Sv32.{entry_at, is_valid, leaf_word, page_address, place_of, table_word}
use Rattle.vspace.specs.Tables.{table_in}

-- a table's pointer: valid, no leaf, and naming the table
pub table_word-valid : (place : ℕ) → is_valid (table_word place) ≡ true
table_word-valid place =
    let v : (table_word place / 2 ^ 0 % 2 == 1) ≡ true = grind (arith, nat_tests) in
    let w : (table_word place / 2 ^ 2 % 2 == 1) ≡ false = grind (arith, nat_tests) in
    let r : (table_word place / 2 ^ 1 % 2 == 1) ≡ false = grind (arith, nat_tests) in
    rw (v, w, r) refl

pub table_word-place : (place : ℕ) → place % 2 ^ 12 ≡ 0 → place_of (page_address (table_word place)) ≡ Some place
table_word-place place aligned =
    let address : page_address (table_word place) ≡ 2 ^ 31 + place = omega arith in
    let above : nat_le (2 ^ 31) (2 ^ 31 + place) ≡ true = grind (arith, nat_tests) in
    let back : 2 ^ 31 + place - 2 ^ 31 ≡ place = omega arith in
    rw (address, above, back) refl

-- no entry of all zero is valid
pub zero-invalid : is_valid 0 ≡ false
zero-invalid = refl

-- the entry at a place that memory has
pub entry_at-valid : (memory : List ℕ) (table number entry : ℕ) → table + 4 * number + 4 ≤ length memory → word_at memory (table + 4 * number) ≡ entry →
    is_valid entry ≡ true → entry_at memory table number ≡ Some entry
unfolding entry_at
entry_at-valid memory table number entry fits is valid =
    let inside : nat_le (table + 4 * number + 4) (length memory) ≡ true = grind (arith, nat_tests) in
    rw (inside, is, valid) refl

pub entry_at-zero : (memory : List ℕ) (table number : ℕ) → word_at memory (table + 4 * number) ≡ 0 → entry_at memory table number ≡ None
unfolding entry_at
entry_at-zero memory table number is =
    elim (nat_le (table + 4 * number + 4) (length memory))
    as (λ b. (if b && is_valid (word_at memory (table + 4 * number)) then Some (word_at memory (table + 4 * number)) else None) ≡ None) [
      | true ↦ rw is refl
      | false ↦ refl
    ]

-- a leaf is valid
pub leaf_word-valid : (place rights : ℕ) → AreMappingRights rights → is_valid (leaf_word place rights) ≡ true
leaf_word-valid place rights known =
    let v : (leaf_word place rights / 2 ^ 0 % 2 == 1) ≡ true = grind (arith, nat_tests) in
    let r : (leaf_word place rights / 2 ^ 1 % 2) ≡ rights / 2 % 2 = omega arith in
    let w : (leaf_word place rights / 2 ^ 2 % 2) ≡ rights % 2 = omega arith in
    let known_r : ((rights / 2 % 2 == 1) || not (rights % 2 == 1)) ≡ true = grind (arith, nat_tests) in
    rw (v, r, w) known_r

-- the page table that a root table names for a region
pub table_in-some : (memory : List ℕ) (root region table : ℕ) → root + 4 * region + 4 ≤ length memory → table % 2 ^ 12 ≡ 0 →
    word_at memory (root + 4 * region) ≡ table_word table → table_in memory root region ≡ Some table
unfolding table_in
table_in-some memory root region table fits aligned is =
    let entry = entry_at-valid memory root region (table_word table) fits is (table_word-valid table) in
    rw entry (table_word-place table aligned)

pub table_in-none : (memory : List ℕ) (root region : ℕ) → word_at memory (root + 4 * region) ≡ 0 → table_in memory root region ≡ None
unfolding table_in
table_in-none memory root region is = rw (entry_at-zero memory root region is) refl
