-- Whether some slot holds such a capability: none does where each slot does not, and one does where a boot slot does.
use Rattle.std.proofs.Common.{ℕ, ◌≡◌, ◌+◌, ◌*◌, ◌^◌, ◌<◌, ◌≤◌, Bool, true, false, arith}
use Rattle.std.proofs.Math.Pow.{pow_mono}
use Rattle.std.proofs.lemmas.Bool.{both_ways, false_from_ne_true}
use Rattle.std.proofs.lemmas.Nat.{pow-add}
use Rattle.model.specs.Capabilities.Slots.{capability_at}
use Rattle.model.specs.Kernel.Soundness.{HasShape}
use Rattle.model.specs.Kernel.State.{State, holds_some}
use Rattle.model.specs.declared.capabilities.Cap.{Cap}
use Rattle.soundness.proofs.Carried.{held-at, held-by}

pub none-held : (s : State) (test : Cap → Bool) → ((slot : ℕ) → test (capability_at s.slots slot) ≡ false) → holds_some s test ≡ false
none-held s test none =
    false_from_ne_true (holds_some s test) (λ is. let found = held-by s test is in both_ways (test (capability_at s.slots found.0)) (none found.0) found.1)

pub boot-held : (s : State) (test : Cap → Bool) (slot : ℕ) → HasShape s → slot < 2 ^ s.boot_radix → test (capability_at s.slots slot) ≡ true
    → holds_some s test ≡ true
boot-held s test slot shape below is =
    let room : 2 ^ (s.boot_radix + 5) ≤ 2 ^ s.memory_bits = pow_mono shape.room in
    let split : 2 ^ (s.boot_radix + 5) ≡ 2 ^ s.boot_radix * 2 ^ 5 = pow-add 2 s.boot_radix 5 in
    held-at s test slot (omega (arith, room, split, below)) is
