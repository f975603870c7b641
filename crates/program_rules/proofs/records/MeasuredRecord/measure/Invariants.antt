-- The terms so far, and then the rest, are all of the record's.
use Rattle.std.proofs.Common.{◌≡◌, ◌≤◌, ◌++◌, length}
use Rattle.measure.specs.Measures.{measure_of}
use Rattle.program_rules.proofs.records.MeasuredRecord.measure.Given as goal

abbrev pub invariant-loop-term : goal.invariant-loop-term
invariant-loop-term l =
    ((measure_of l.measure).constant ≡ l.self.noted.now.header.constant) × ((measure_of l.measure).terms ++ l.term-iterator ≡ l.self.noted.now.terms)
    × (length l.self.noted.now.terms ≤ 4)
