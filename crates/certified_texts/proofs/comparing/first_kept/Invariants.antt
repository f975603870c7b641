-- What is left has the lines that are kept of all.
use Rattle.std.proofs.Common.{◌≡◌, length}
use Rattle.certified_texts.specs.Lines.{kept_lines, lines_of}
use Rattle.certified_texts.proofs.comparing.first_kept.Given as goal

abbrev pub invariant-lines : goal.invariant-lines
invariant-lines l = kept_lines l.fn.text ≡ kept_lines l.left

abbrev pub decreases-lines : goal.decreases-lines
decreases-lines l = length (lines_of l.left)
