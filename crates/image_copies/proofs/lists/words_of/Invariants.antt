-- The words so far.
use Rattle.std.proofs.Common.{◌≡◌, take}
use Rattle.image_copies.proofs.lists.words_of.Given as goal

abbrev pub invariant-loop-index : goal.invariant-loop-index
invariant-loop-index l = l.words.items ≡ take l.index l.fn.thread.words
