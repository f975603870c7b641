-- What was copied, with what is left, is the section.
use Rattle.std.proofs.Common.{◌≡◌, ◌++◌}
use Rattle.image_copies.proofs.lists.entries_of.Given as goal

abbrev pub invariant-loop-entry : goal.invariant-loop-entry
invariant-loop-entry g l = l.all.items ++ l.entry-iterator ≡ l.fn.section
