-- An object that a program may make has at most 2^12 bytes.
use Rattle.std.proofs.Common.{ℕ, ◌≡◌, ◌∙◌, ◌^◌, ◌≤◌, ap, arith}
use Rattle.std.proofs.Math.Pow.{pow_mono}
use Rattle.model.specs.Kernel.ObjectTypes.{new_type}
use Rattle.model.specs.Kernel.Retype.{object_bits}
use Rattle.typestate.proofs.MadeTypes.{made-bits}
use Rattle.typestate.proofs.pool_calls.size_of.Goals as goal

pub power-requires : goal.power-requires
power-requires c =
    let few = made-bits (new_type c.args.new) c.requires in
    let is = c.bits.ensures in
    omega (arith, few, is)

pub returns-clause-value : goal.returns-clause-value
returns-clause-value c =
    let small : 2 ^ object_bits (new_type c.args.new) ≤ 2 ^ 12 = pow_mono (made-bits (new_type c.args.new) c.requires) in
    let is : c.power.result ≡ 2 ^ object_bits (new_type c.args.new) = c.power.ensures.value ∙ ap (λ (n : ℕ). 2 ^ n) c.bits.ensures in
    omega (arith, small, is)

pub returns-clause-few : goal.returns-clause-few
returns-clause-few c =
    let small : 2 ^ object_bits (new_type c.args.new) ≤ 2 ^ 12 = pow_mono (made-bits (new_type c.args.new) c.requires) in
    let is : c.power.result ≡ 2 ^ object_bits (new_type c.args.new) = c.power.ensures.value ∙ ap (λ (n : ℕ). 2 ^ n) c.bits.ensures in
    omega (arith, small, is)
