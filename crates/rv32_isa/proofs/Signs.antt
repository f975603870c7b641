-- Signed immediates come back from their bits.
use Rattle.std.proofs.Common.{◌≡◌, ◌+◌, ◌*◌, ◌^◌, ℤ, arith}
use Rattle.model.specs.Machine.Instructions.{bits, word_of, IsImmediate, IsBranchOffset, IsJumpOffset}
use Rattle.model.specs.Machine.Decoding.{sign_extended}

pub i-sign : (z : ℤ) → IsImmediate z → sign_extended (bits (word_of z) 0 12) (2 ^ 11) ≡ z
i-sign z fits = grind arith

pub b-sign : (z : ℤ) → IsBranchOffset z →
    sign_extended (2 * bits (word_of z) 1 4 + 2 ^ 5 * bits (word_of z) 5 6 + 2 ^ 11 * bits (word_of z) 11 1 + 2 ^ 12 * bits (word_of z) 12 1) (2 ^ 12) ≡ z
b-sign z fits = grind arith

pub j-sign : (z : ℤ) → IsJumpOffset z →
    sign_extended (2 * bits (word_of z) 1 10 + 2 ^ 11 * bits (word_of z) 11 1 + 2 ^ 12 * bits (word_of z) 12 8 + 2 ^ 20 * bits (word_of z) 20 1) (2 ^ 20) ≡ z
j-sign z fits = grind arith
