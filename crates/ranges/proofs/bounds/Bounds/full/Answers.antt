-- They are copies of one range.
use Rattle.std.proofs.Common.{arith, refl}
use Rattle.model.specs.Acceptance.Ranges.{full}
use Rattle.ranges.proofs.Copies.{copies-ordered}
use Rattle.ranges.proofs.bounds.Bounds.full.Goals as goal

pub invariant_of-result : goal.invariant_of-result
invariant_of-result c = (refl, λ k less. copies-ordered 31 full k (omega arith))
