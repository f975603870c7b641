-- What is left decides what the whole is.
use Rattle.std.proofs.Common.{◌≡◌, length}
use Rattle.asm_line.specs.Lines.{number_pairs}
use Rattle.asm_line.proofs.sections.check_pairs.Given as goal

abbrev pub invariant-pairs : goal.invariant-pairs
invariant-pairs l = number_pairs l.rest ≡ number_pairs l.fn.words

abbrev pub decreases-pairs : goal.decreases-pairs
decreases-pairs l = length l.rest
