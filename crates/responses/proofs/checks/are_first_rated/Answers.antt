-- By one line more.
use Rattle.std.proofs.Common.{◌∙◌, ◌-◌, ◌+◌, ◌&&◌, Bool, ℕ, sym, ap, arith}
use Rattle.std.specs.List.{list_all, range_with_len}
use Rattle.responses.proofs.Totals.{all-next}
use Rattle.responses.proofs.checks.are_first_rated.Goals as goal
use Rattle.responses.specs.Checks.{is_rated}

pub loop-line-preserved : goal.loop-line-preserved
loop-line-preserved c =
    let test : ℕ → Bool = is_rated c.args.weights.now.prices c.args.bells.now c.args.rates.now in
    let k = c.loop-line.line in
    sym (ap (λ b. b && list_all test (range_with_len (k + 1) (c.args.count - (k + 1)))) (sym c.is_rated.ensures ∙ c.if-not-is_rated.false))
    ∙ sym (all-next test k c.args.count (omega (arith, c.loop-line-test.true))) ∙ c.loop-line.invariant
