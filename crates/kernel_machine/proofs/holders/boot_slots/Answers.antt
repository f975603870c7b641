-- A radix is 14 at most.
use Rattle.std.proofs.Common.{ℕ, ◌≡◌, ◌∙◌, ◌*◌, ◌%◌, ◌^◌, ◌≤◌, ap, arith}
use Rattle.std.proofs.Math.Pow.{pow_mono}
use Rattle.kernel_machine.proofs.holders.boot_slots.Goals as goal
use Rattle.objects.specs.Lives.{state_in}

pub returns-clause-value : goal.returns-clause-value
returns-clause-value g c =
    let less : 2 ^ c.boot_radix.result ≤ 2 ^ 14 = pow_mono c.boot_radix.ensures.most in
    (let e : 1 * 2 ^ c.boot_radix.result % 2 ^ 32 ≡ 2 ^ c.boot_radix.result = omega (arith, less) in e)
    ∙ ap (λ (n : ℕ). 2 ^ n) c.boot_radix.ensures.value
    ∙ ap (λ k. 2 ^ (state_in g.S.SlotMap.slots g.S.SlotStore.memory k).boot_radix) c.kernel.view_is

pub returns-clause-most : goal.returns-clause-most
returns-clause-most g c = let less : 2 ^ c.boot_radix.result ≤ 2 ^ 14 = pow_mono c.boot_radix.ensures.most in omega (arith, less)
