use Rattle.std.proofs.Common.{◌≡◌, slice_get}
use Rattle.image_reading.proofs.reading.ImageRef.content.Given as goal

abbrev pub invariant-loop-content : goal.invariant-loop-content
invariant-loop-content l = slice_get l.content-iterator l.before ≡ slice_get l.fn.self.contents l.number
