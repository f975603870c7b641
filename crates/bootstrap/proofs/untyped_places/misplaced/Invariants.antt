-- None of the untypeds so far is misplaced.
use Rattle.std.proofs.Common.{◌≡◌}
use Rattle.bootstrap.proofs.Searches.{overlapping_from}
use Rattle.bootstrap.proofs.untyped_places.misplaced.Given as goal

abbrev pub invariant-loop-number : goal.invariant-loop-number
invariant-loop-number l = overlapping_from l.image.read.now 0 ≡ overlapping_from l.image.read.now l.number
