-- What was read, with what is left, is all of them.
use Rattle.std.proofs.Common.{◌≡◌, ◌++◌}
use Rattle.parts.proofs.uses.frames_of.Given as goal

abbrev pub invariant-loop-entry : goal.invariant-loop-entry
invariant-loop-entry l = l.frames.items ++ l.entry-iterator ≡ l.fn.image.frames
