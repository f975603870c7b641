-- What was made, with what is made of the rest, is of all threads.
use Rattle.std.proofs.Common.{◌++◌, List, length}
use Rattle.parts.specs.Uses.{AreUses}
use Rattle.parts.specs.declared.uses.Uses.{Uses}
use Rattle.parts.proofs.image_parts.all_uses.Given as goal

abbrev pub invariant-loop-thread : goal.invariant-loop-thread
invariant-loop-thread l =
    (rest : List Uses) → AreUses l.fn.image (length l.all.items) l.thread-iterator rest → AreUses l.fn.image 0 l.fn.image.threads (l.all.items ++ rest)
