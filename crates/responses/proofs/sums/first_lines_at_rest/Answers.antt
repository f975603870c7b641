-- By one line more.
use Rattle.std.proofs.Common.{if◌then◌else◌, arith}
use Rattle.responses.proofs.Totals.{sum-next}
use Rattle.responses.proofs.sums.first_lines_at_rest.Goals as goal
use Rattle.responses.specs.Checks.{price_of_line}
use Rattle.responses.specs.Numbers.{is_among}

pub loop-line-preserved : goal.loop-line-preserved
loop-line-preserved c =
    let next = sum-next (λ line. if is_among c.args.lines.now line then 0 else price_of_line c.args.weights.now.prices c.args.bells.now line)
    c.loop-line.line c.args.count (omega (arith, c.loop-line-test.true)) in
    let sum = c.in_ok-sum.ensures in
    let so_far = c.loop-line.invariant in
    let one = c.unless.ensures in
    let open_so = c.is_one_of.ensures in
    let price = c.price_of_line.ensures in
    grind (arith, next, sum, so_far, one, open_so, price)
