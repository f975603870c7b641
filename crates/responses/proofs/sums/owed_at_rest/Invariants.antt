-- The sum so far, with that of the threads that are left.
use Rattle.std.proofs.Common.{◌≡◌, ◌+◌, drop}
use Rattle.response.specs.Left.{total}
use Rattle.responses.proofs.sums.owed_at_rest.Given as goal
use Rattle.responses.specs.Numbers.{number_at}

abbrev pub invariant-loop-program : goal.invariant-loop-program
invariant-loop-program l =
    l.sum + total (λ p. number_at l.owed p.number) (drop l.program-index l.programs) ≡ total (λ p. number_at l.owed p.number) l.programs
