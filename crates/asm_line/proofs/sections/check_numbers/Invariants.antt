use Rattle.std.proofs.Common.{◌≡◌, length}
use Rattle.asm_line.specs.Lines.{all_numbers, some_numbers}
use Rattle.asm_line.proofs.sections.check_numbers.Given as goal

-- what is left decides what the whole is
abbrev pub invariant-numbers : goal.invariant-numbers
invariant-numbers l = all_numbers l.rest ≡ some_numbers l.fn.words

abbrev pub decreases-numbers : goal.decreases-numbers
decreases-numbers l = length l.rest
