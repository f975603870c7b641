-- The place is not before the keys that are left, and not after them.
use Rattle.std.proofs.Common.{◌-◌, map}
use Rattle.image_reading.proofs.image_entries.Laws.{AreHalved}
use Rattle.image_reading.proofs.entries.Section.place_of.Given as goal

abbrev pub invariant-loop-low : goal.invariant-loop-low
invariant-loop-low g l = AreHalved l.number (map g.E.Keyed.key l.fn.self) l.low l.high

abbrev pub decreases-loop-low : goal.decreases-loop-low
decreases-loop-low g l = l.high - l.low
