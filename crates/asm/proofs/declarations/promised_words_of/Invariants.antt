use Rattle.std.proofs.Common.{length}
use Rattle.asm.proofs.WordsSaid.{PromisedLeft}
use Rattle.asm.proofs.declarations.promised_words_of.Given as goal

-- what is read and what is left are all the words
abbrev pub invariant-words : goal.invariant-words
invariant-words l = PromisedLeft l.read.items l.rest l.fn.words

abbrev pub decreases-words : goal.decreases-words
decreases-words l = length l.rest
