-- So far each row holds.
use Rattle.std.proofs.Common.{All, map}
use Rattle.responses.proofs.rows.rows_of.Given as goal
use Rattle.responses.specs.Bounds.{IsResponseOf}
use Rattle.responses.specs.Found.{rate_of}

abbrev pub invariant-loop-priority : goal.invariant-loop-priority
invariant-loop-priority l = All (λ row. IsResponseOf l.levels row.priority (map rate_of l.rates) row.response) l.rows.items
