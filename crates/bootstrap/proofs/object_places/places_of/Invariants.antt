-- So many objects are placed, and so much of each untyped is used by them.
use Rattle.wellformed.specs.Used.{IsUsed}
use Rattle.bootstrap.specs.Filling.{ArePlaces}
use Rattle.bootstrap.proofs.object_places.places_of.Given as goal

abbrev pub invariant-loop-number : goal.invariant-loop-number
invariant-loop-number l = record {
  used : IsUsed l.image l.number l.used.used;
  placed : ArePlaces l.image l.number l.places.items;
}
