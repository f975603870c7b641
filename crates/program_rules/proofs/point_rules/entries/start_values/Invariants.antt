-- What is set so far, and then the rest, is all that the thread starts with.
use Rattle.std.proofs.Common.{◌≡◌, length}
use Rattle.std.specs.Prelude.{fold, slice_set}
use Rattle.model.specs.Images.Described.{listed_registers}
use Rattle.program_rules.proofs.point_rules.entries.start_values.Given as goal

abbrev pub invariant-loop-entry : goal.invariant-loop-entry
invariant-loop-entry l = (fold (λ words r. slice_set words r.register r.value) l.words l.entry-iterator ≡ listed_registers l.fn.thread) × (length l.words ≡ 32)
