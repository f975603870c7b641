-- The slots of a CNode lie below 2^20.
use Rattle.std.proofs.Common.{ℕ, ◌≡◌, ◌+◌, ◌-◌, ◌*◌, ◌/◌, ◌%◌, ◌^◌, ◌<◌, ◌≤◌, ap, arith}
use Rattle.std.proofs.Math.Nat.{mul-le-mul_right, lt_of_mul-lt-mul_right}
use Rattle.std.proofs.lemmas.Nat.{pow-add, div-add-mod'}

-- a multiple of a size that lies below a greater multiple ends before it
multiple_ends : (a b size place : ℕ) → place ≡ a * size → place < b * size → place + size ≤ b * size
multiple_ends a b size place is below =
    let less : a < b = lt_of_mul-lt-mul_right size (rw (← is) below) in
    let step : (a + 1) * size ≤ b * size = mul-le-mul_right size (omega arith) in
    grind (arith, step)

-- an object of 2^bits bytes ends within 2^24
object_ends : (offset bits rest : ℕ) → bits + rest ≡ 24 → offset % 2 ^ bits ≡ 0 → offset < 2 ^ 24 → offset + 2 ^ bits ≤ 2 ^ 24
object_ends offset bits rest whole multiple below =
    let size = 2 ^ bits in
    let split : 2 ^ (bits + rest) ≡ 2 ^ bits * 2 ^ rest = pow-add 2 bits rest in
    let all : 2 ^ (bits + rest) ≡ 2 ^ 24 = ap (λ n. 2 ^ n) whole in
    let product : 2 ^ 24 ≡ 2 ^ rest * 2 ^ bits = grind (arith, split, all) in
    let is : offset ≡ (offset / 2 ^ bits) * 2 ^ bits = omega (arith, div-add-mod' offset (2 ^ bits), multiple) in
    rw product (multiple_ends (offset / 2 ^ bits) (2 ^ rest) (2 ^ bits) offset is (rw (← product) below))

pub slot_below : (offset radix index : ℕ) → radix ≤ 14 → offset % 2 ^ (radix + 4) ≡ 0 → offset < 2 ^ 24 → index < 2 ^ radix → offset / 16 + index < 2 ^ 20
slot_below offset radix index small multiple below inside =
    let ends = object_ends offset (radix + 4) (20 - radix) (omega arith) multiple below in
    let size : 2 ^ (radix + 4) ≡ 2 ^ radix * 2 ^ 4 = pow-add 2 radix 4 in
    omega (arith, ends, size)
