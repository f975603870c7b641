-- Multiples of one size.
use Rattle.std.proofs.Common.{◌≡◌, ◌∙◌, ℕ, ◌+◌, ◌*◌, ◌%◌, ◌<◌, ◌≤◌, arith}
use Rattle.std.proofs.Math.Nat.{add-mul-mod_self_right, mul-mod_left, mul-le-mul_right}

-- a sum of two multiples is one
pub sum_is_multiple : (first q i size : ℕ) → first ≡ q * size → (first + i * size) % size ≡ 0
sum_is_multiple first q i size is =
    rw is (add-mul-mod_self_right (q * size) i size ∙ mul-mod_left q size)

-- what lies at a multiple ends before the next one begins
pub ends_before : (i j size : ℕ) → i < j → i * size + size ≤ j * size
ends_before i j size less =
    let step : (i + 1) * size ≤ j * size = mul-le-mul_right size (omega arith) in
    grind (arith, step)
