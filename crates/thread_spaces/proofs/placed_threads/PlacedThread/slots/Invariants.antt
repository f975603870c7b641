-- What is noted so far, and then the rest, is all of it.
use Rattle.std.proofs.Common.{◌≡◌, ◌++◌, drop}
use Rattle.thread_spaces.proofs.ListedSlots.{slots_in}
use Rattle.thread_spaces.proofs.placed_threads.PlacedThread.slots.Given as goal

abbrev pub invariant-loop-number : goal.invariant-loop-number
invariant-loop-number l = l.slots.items ++ slots_in l.fn.self.placed.now.image.now l.fn.cnodes (drop l.number l.fn.self.placed.now.image.now.capabilities)
    ≡ slots_in l.fn.self.placed.now.image.now l.fn.cnodes l.fn.self.placed.now.image.now.capabilities
