use Rattle.std.proofs.Common.{◌≡◌, length}
use Rattle.asm_line.specs.Lines.{all_terms}
use Rattle.asm_line.proofs.thread_lines.check_terms.Given as goal

-- what is left decides what the whole is
abbrev pub invariant-terms : goal.invariant-terms
invariant-terms l = all_terms l.rest ≡ all_terms l.fn.words

abbrev pub decreases-terms : goal.decreases-terms
decreases-terms l = length l.rest
