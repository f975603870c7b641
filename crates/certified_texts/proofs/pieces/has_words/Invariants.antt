-- The words that are left and those that are not missing any more are all.
use Rattle.std.proofs.Common.{◌≡◌, ◌+◌, length}
use Rattle.certified_texts.specs.Lines.{words_of}
use Rattle.certified_texts.proofs.pieces.has_words.Given as goal

abbrev pub invariant-words : goal.invariant-words
invariant-words l = length (words_of l.fn.text) + l.missing ≡ l.fn.count + length (words_of l.left)

abbrev pub decreases-words : goal.decreases-words
decreases-words l = length (words_of l.left)
