-- What is in the set, and what is named by the contents that are left, is all that contents name.
use Rattle.wellformed.proofs.Named.{AreLeft}
use Rattle.wellformed.proofs.mappings.filled_frames.Given as goal

abbrev pub invariant-loop-content : goal.invariant-loop-content
invariant-loop-content l = AreLeft (λ c. c.header.frame) l.fn.image.contents l.content-iterator l.filled
