-- The spans of the points so far.
use Rattle.responses.proofs.Drawing.{AreSpanned}
use Rattle.responses.proofs.spans.spans_of.Given as goal

abbrev pub invariant-loop-point : goal.invariant-loop-point
invariant-loop-point l = AreSpanned l.places l.point l.spans.items l.run
