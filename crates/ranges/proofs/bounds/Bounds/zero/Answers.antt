-- They are copies of one range.
use Rattle.std.proofs.Common.{arith, refl}
use Rattle.model.specs.Acceptance.Ranges.{single}
use Rattle.ranges.proofs.Copies.{copies-ordered}
use Rattle.ranges.proofs.bounds.Bounds.zero.Goals as goal

pub invariant_of-result : goal.invariant_of-result
invariant_of-result c = (refl, λ k less. copies-ordered 31 (single 0) k (omega arith))
