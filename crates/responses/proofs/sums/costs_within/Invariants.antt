-- The sum so far, with that of the rates that are left.
use Rattle.std.proofs.Common.{◌≡◌, ◌+◌, ◌*◌, ◌/◌, drop}
use Rattle.response.specs.Left.{total}
use Rattle.responses.proofs.sums.costs_within.Given as goal
use Rattle.responses.specs.Checks.{price_of_line}

abbrev pub invariant-loop-rate : goal.invariant-loop-rate
invariant-loop-rate l =
    l.sum + total (λ r. (r.burst + l.steps / r.period) * price_of_line l.weights.prices l.bells r.line) (drop l.rate-index l.rates)
    ≡ total (λ r. (r.burst + l.steps / r.period) * price_of_line l.weights.prices l.bells r.line) l.rates
