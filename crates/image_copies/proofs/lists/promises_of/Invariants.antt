-- Where counts are lengths: what was copied, with what is left, is all, and they are lengths in what is left.
use Rattle.std.proofs.Common.{◌≡◌, ◌++◌, All}
use Rattle.image_copies.specs.Counts.{HasPromiseCount}
use Rattle.image_copies.proofs.lists.promises_of.Given as goal

abbrev pub invariant-loop-promise : goal.invariant-loop-promise
invariant-loop-promise l =
    All HasPromiseCount l.fn.promises → (l.all.items ++ l.promise-iterator ≡ l.fn.promises) × All HasPromiseCount l.promise-iterator
