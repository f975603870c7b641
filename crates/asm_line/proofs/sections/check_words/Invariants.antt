use Rattle.std.proofs.Common.{◌≡◌, length}
use Rattle.asm_line.specs.Lines.{all_words}
use Rattle.asm_line.proofs.sections.check_words.Given as goal

-- what is left decides what the whole is
abbrev pub invariant-words : goal.invariant-words
invariant-words l = all_words l.rest ≡ all_words l.fn.words

abbrev pub decreases-words : goal.decreases-words
decreases-words l = length l.rest
