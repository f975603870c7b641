-- The objects so far rise.
use Rattle.responses.proofs.prices.do_rise.Given as goal
use Rattle.responses.specs.Prices.{RiseTo}

abbrev pub invariant-loop-place : goal.invariant-loop-place
invariant-loop-place l = RiseTo l.place l.prices
