-- Copies of one range are in order where it is.
use Rattle.std.proofs.Common.{ℕ, zero, suc, arith}
use Rattle.std.specs.Prelude.{replicate, slice_index_or}
use Rattle.model.specs.declared.ranges.Range.{Range}
use Rattle.model.specs.Acceptance.Ranges.{full}
use Rattle.ranges.specs.Orders.{IsOrdered}

pub copies-ordered : (n : ℕ) (r : Range) (k : ℕ) → IsOrdered r → IsOrdered (slice_index_or (replicate n r) k full)
copies-ordered zero r k is = omega arith
copies-ordered (suc n) r zero is = is
copies-ordered (suc n) r (suc k) is = copies-ordered n r k is
