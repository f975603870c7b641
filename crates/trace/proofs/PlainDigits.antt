-- Digits of addresses in one page.
use Rattle.std.proofs.Common.{◌≡◌, ℕ, ◌/◌, ◌%◌, ◌^◌, refl}
use Rattle.std.proofs.Common.{arith}
use Rattle.std.specs.Prelude.{slice_set}
use Rattle.model.specs.Shared.Trace.{hex_digit, hex_word}
use Rattle.trace.specs.PlainLines.{plain_text}

-- the three last digits of an address make the line of another one of its page that of this one
pub same_page : (thread pc old : ℕ) → pc / 0x1000 ≡ old / 0x1000
    → slice_set (slice_set (slice_set (plain_text thread old) 14 (hex_digit (pc / 0x100 % 0x100 % 0x10))) 15 (hex_digit (pc % 0x100 / 0x10))) 16
    (hex_digit (pc % 0x100 % 0x10)) ≡ plain_text thread pc
unfolding hex_word
same_page thread pc old page =
    let first : old / 2 ^ 24 ≡ pc / 2 ^ 24 = omega (arith, page) in
    let second : old / 2 ^ 16 % 2 ^ 8 ≡ pc / 2 ^ 16 % 2 ^ 8 = omega (arith, page) in
    let third : old / 2 ^ 8 % 2 ^ 8 / 16 ≡ pc / 2 ^ 8 % 2 ^ 8 / 16 = omega (arith, page) in
    rw (first, second, third) refl

-- and the last one that of another one of its row
pub same_row : (thread pc old : ℕ) → pc / 0x10 ≡ old / 0x10
    → slice_set (plain_text thread old) 16 (hex_digit (pc % 0x100 % 0x10)) ≡ plain_text thread pc
unfolding hex_word
same_row thread pc old row =
    let first : old / 2 ^ 24 ≡ pc / 2 ^ 24 = omega (arith, row) in
    let second : old / 2 ^ 16 % 2 ^ 8 ≡ pc / 2 ^ 16 % 2 ^ 8 = omega (arith, row) in
    let third : old / 2 ^ 8 % 2 ^ 8 ≡ pc / 2 ^ 8 % 2 ^ 8 = omega (arith, row) in
    let fourth : old % 2 ^ 8 / 16 ≡ pc % 2 ^ 8 / 16 = omega (arith, row) in
    rw (first, second, third, fourth) refl
