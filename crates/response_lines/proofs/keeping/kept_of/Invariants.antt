-- So far each is kept.
use Rattle.std.proofs.Common.{All}
use Rattle.response_lines.proofs.keeping.kept_of.Given as goal
use Rattle.response_lines.specs.AskedLines.{IsKeptByAll}

abbrev pub invariant-loop-one : goal.invariant-loop-one
invariant-loop-one l = All (IsKeptByAll l.rows) l.kept.items
