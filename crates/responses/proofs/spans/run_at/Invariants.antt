-- The run so far, with the spans that are left, says that of the point.
use Rattle.std.proofs.Common.{◌≡◌, drop}
use Rattle.responses.proofs.spans.run_at.Given as goal
use Rattle.responses.specs.Outlines.{run_from}

abbrev pub invariant-loop-span : goal.invariant-loop-span
invariant-loop-span l = run_from l.run (drop l.span-index l.spans) l.point ≡ run_from 0 l.spans l.point
