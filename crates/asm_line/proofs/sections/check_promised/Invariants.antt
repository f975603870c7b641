-- What is left decides what the whole is.
use Rattle.std.proofs.Common.{◌≡◌, length}
use Rattle.asm_line.specs.Lines.{all_promised}
use Rattle.asm_line.proofs.sections.check_promised.Given as goal

abbrev pub invariant-words : goal.invariant-words
invariant-words l = all_promised l.rest ≡ all_promised l.fn.words

abbrev pub decreases-words : goal.decreases-words
decreases-words l = length l.rest
