-- Where what is left is the same, all is.
use Rattle.std.proofs.Common.{length}
use Rattle.certified_texts.specs.Lines.{kept_lines}
use Rattle.certified_texts.proofs.SameLines.{Decides}
use Rattle.certified_texts.proofs.comparing.is_same_but_certificates.Given as goal

abbrev pub invariant-lines : goal.invariant-lines
invariant-lines l = Decides l.left l.others l.fn.given l.fn.made

abbrev pub decreases-lines : goal.decreases-lines
decreases-lines l = length (kept_lines l.left)
