use Rattle.std.proofs.Common.{◌≡◌, slice_get}
use Rattle.image_reading.proofs.reading.ImageRef.thread.Given as goal

abbrev pub invariant-loop-thread : goal.invariant-loop-thread
invariant-loop-thread l = slice_get l.thread-iterator l.before ≡ slice_get l.fn.self.threads l.number
