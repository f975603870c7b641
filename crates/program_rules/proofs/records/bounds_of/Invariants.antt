-- What is set so far, and then the rest, is all of the record's ranges.
use Rattle.std.proofs.Common.{◌≡◌, ◌≤◌, All, length}
use Rattle.std.specs.Prelude.{fold}
use Rattle.model.specs.Acceptance.NotedStates.{record_ranges}
use Rattle.program_rules.proofs.Recorded.{with_entry}
use Rattle.program_rules.proofs.records.bounds_of.Given as goal

abbrev pub invariant-loop-entry : goal.invariant-loop-entry
invariant-loop-entry l = (fold with_entry l.bounds l.entry-iterator ≡ record_ranges l.fn.noted) × (length l.bounds ≡ 31)
    × All (λ e. e.low ≤ e.high) l.entry-iterator
