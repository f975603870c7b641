-- Where counts are lengths: what was copied, with what is left, is all, and they are lengths in what is left.
use Rattle.std.proofs.Common.{◌≡◌, ◌++◌, All}
use Rattle.image_copies.specs.Counts.{HasThreadCounts}
use Rattle.image_copies.proofs.copies.threads_of.Given as goal

abbrev pub invariant-loop-thread : goal.invariant-loop-thread
invariant-loop-thread l =
    All HasThreadCounts l.fn.threads → (l.all.items ++ l.thread-iterator ≡ l.fn.threads) × All HasThreadCounts l.thread-iterator
