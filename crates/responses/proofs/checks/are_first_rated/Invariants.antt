-- The lines that are left decide.
use Rattle.std.proofs.Common.{◌≡◌, ◌-◌}
use Rattle.std.specs.List.{list_all, range_with_len}
use Rattle.responses.proofs.checks.are_first_rated.Given as goal
use Rattle.responses.specs.Checks.{is_rated}

abbrev pub invariant-loop-line : goal.invariant-loop-line
invariant-loop-line l =
    list_all (is_rated l.weights.prices l.bells l.rates) (range_with_len l.line (l.count - l.line))
    ≡ list_all (is_rated l.weights.prices l.bells l.rates) (range_with_len 0 l.count)
