-- No slot after those that a store counts is open.
use Rattle.std.proofs.Common.{ℕ, ◌≡◌, ◌*◌, ◌<◌, List, length, arith}
use Rattle.cnode_ops.specs.Refusals.{AreNear}
use Rattle.model.specs.Capabilities.Slots.{IsOpen, Slots}

pub counted-near : (slots : Slots) (memory : List ℕ) (count : ℕ) → 16 * count ≡ length memory → ((s : ℕ) → IsOpen slots s → s < count) → AreNear slots memory
counted-near slots memory count size near s opens = omega (arith, near s opens, size)
