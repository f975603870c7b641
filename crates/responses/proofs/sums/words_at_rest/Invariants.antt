-- The sum so far, with that of the prices that are left.
use Rattle.std.proofs.Common.{◌≡◌, ◌+◌, drop, if◌then◌else◌}
use Rattle.response.specs.Left.{total}
use Rattle.responses.proofs.sums.words_at_rest.Given as goal
use Rattle.responses.specs.Numbers.{is_among}

abbrev pub invariant-loop-price : goal.invariant-loop-price
invariant-loop-price l =
    l.sum + total (λ p. if is_among l.taken p.object then 0 else p.price) (drop l.price-index l.prices)
    ≡ total (λ p. if is_among l.taken p.object then 0 else p.price) l.prices
