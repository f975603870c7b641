-- So much of each untyped is used by the objects that are placed.
use Rattle.wellformed.specs.Used.{IsUsed}
use Rattle.listed_images.proofs.places.places_of.Given as goal

abbrev pub invariant-loop-number : goal.invariant-loop-number
invariant-loop-number l = IsUsed l.image l.number l.used.used
