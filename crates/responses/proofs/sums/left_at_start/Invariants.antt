-- The sum so far, with that of the threads that are left.
use Rattle.std.proofs.Common.{◌≡◌, ◌+◌, drop}
use Rattle.response.specs.Left.{total}
use Rattle.responses.proofs.sums.left_at_start.Given as goal
use Rattle.responses.specs.Checks.{left_by}

abbrev pub invariant-loop-program : goal.invariant-loop-program
invariant-loop-program l =
    l.sum + total (left_by l.priority l.weights) (drop l.program-index l.programs) ≡ total (left_by l.priority l.weights) l.programs
