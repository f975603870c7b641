-- So much of each untyped is used by the objects that have their places.
use Rattle.wellformed.specs.Used.{IsUsed}
use Rattle.system_reports.proofs.memory_maps.places_of.Given as goal

abbrev pub invariant-loop-number : goal.invariant-loop-number
invariant-loop-number l = record { used : IsUsed l.image l.number l.used.used }
