use Rattle.std.proofs.Common.{◌≡◌, [], length}
use Rattle.asm.specs.Meaning.{sorted_terms, terms_said}
use Rattle.asm.proofs.open_threads.terms_in.Given as goal

-- what is left, sorted into what is read, are all the terms
abbrev pub invariant-terms : goal.invariant-terms
invariant-terms l = sorted_terms l.read.items (terms_said l.rest) ≡ sorted_terms [] (terms_said l.fn.words)

abbrev pub decreases-terms : goal.decreases-terms
decreases-terms l = length l.rest
