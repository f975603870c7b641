-- What is found among the records that are left is what is found among all.
use Rattle.std.proofs.Common.{◌≡◌, ◌==◌}
use Rattle.std.specs.Prelude.{find}
use Rattle.model.specs.Acceptance.NotedStates.{record_of}
use Rattle.explaining.proofs.scenes.record_at.Given as goal

abbrev pub invariant-loop-record : goal.invariant-loop-record
invariant-loop-record l = find (λ r. r.header.point == l.fn.point) l.record-iterator ≡ record_of l.fn.thread l.fn.point
