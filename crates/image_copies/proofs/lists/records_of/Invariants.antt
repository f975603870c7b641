-- Where counts are lengths: what was copied, with what is left, is all, and they are lengths in what is left.
use Rattle.std.proofs.Common.{◌≡◌, ◌++◌, All}
use Rattle.image_copies.specs.Counts.{HasRecordCounts}
use Rattle.image_copies.proofs.lists.records_of.Given as goal

abbrev pub invariant-loop-point : goal.invariant-loop-point
invariant-loop-point l =
    All HasRecordCounts l.fn.records → (l.all.items ++ l.point-iterator ≡ l.fn.records) × All HasRecordCounts l.point-iterator
