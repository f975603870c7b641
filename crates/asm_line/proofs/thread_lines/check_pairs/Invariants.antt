use Rattle.std.proofs.Common.{◌≡◌, length}
use Rattle.asm_line.specs.Lines.{all_pairs}
use Rattle.asm_line.proofs.thread_lines.check_pairs.Given as goal

-- what is left decides what the whole is
abbrev pub invariant-pairs : goal.invariant-pairs
invariant-pairs l = all_pairs l.rest ≡ all_pairs l.fn.words

abbrev pub decreases-pairs : goal.decreases-pairs
decreases-pairs l = length l.rest
