-- What was copied, with what is left, is all.
use Rattle.std.proofs.Common.{◌≡◌, ◌++◌}
use Rattle.image_copies.proofs.lists.contents_of.Given as goal

abbrev pub invariant-loop-content : goal.invariant-loop-content
invariant-loop-content l = l.all.items ++ l.content-iterator ≡ l.fn.contents
