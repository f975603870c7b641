-- The CNodes so far have their places.
use Rattle.std.proofs.Common.{take}
use Rattle.typestate.specs.Spaces.{AreWindows}
use Rattle.thread_spaces.proofs.placed_threads.PlacedThread.windows.Given as goal

abbrev pub invariant-cnodes : goal.invariant-cnodes
invariant-cnodes l = AreWindows l.fn.self.placed.now.image.now (take l.place l.fn.cnodes) l.windows.items
