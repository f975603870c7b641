-- A thread that is there lies in memory.
use Rattle.std.proofs.Common.{ℕ, ◌≡◌, ◌^◌, ◌<◌, ◌≤◌, Some, arith}
use Rattle.std.proofs.Math.Pow.{pow_mono}
use Rattle.model.specs.Kernel.Kinds.{kind_at}
use Rattle.model.specs.Kernel.Retype.{NewThread}
use Rattle.model.specs.Kernel.Soundness.{IsSound}
use Rattle.model.specs.Kernel.State.{State}
use Rattle.soundness.proofs.Laws.{object-inside}

-- a thread lies in the 2^24 bytes that memory has at most
pub thread-near : (s : State) (thread : ℕ) → IsSound s → kind_at s thread ≡ Some NewThread → thread < 2 ^ 24
thread-near s thread sound is =
    let inside = (object-inside s sound.memory thread NewThread is).1 in
    let most : 2 ^ s.memory_bits ≤ 2 ^ 24 = pow_mono sound.shape.most_bits in
    omega (arith, inside, most)
