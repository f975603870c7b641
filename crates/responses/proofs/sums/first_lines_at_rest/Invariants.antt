-- The sum so far, with that of the lines that are left.
use Rattle.std.proofs.Common.{◌≡◌, ◌+◌, ◌-◌, if◌then◌else◌}
use Rattle.std.specs.List.{range_with_len}
use Rattle.response.specs.Left.{total}
use Rattle.responses.proofs.sums.first_lines_at_rest.Given as goal
use Rattle.responses.specs.Checks.{price_of_line}
use Rattle.responses.specs.Numbers.{is_among}

abbrev pub invariant-loop-line : goal.invariant-loop-line
invariant-loop-line l =
    l.sum + total (λ line. if is_among l.lines line then 0 else price_of_line l.weights.prices l.bells line)
    (range_with_len l.line (l.count - l.line))
    ≡ total (λ line. if is_among l.lines line then 0 else price_of_line l.weights.prices l.bells line) (range_with_len 0 l.count)
