-- The capabilities of so many of the CNodes that are found have been followed.
use Rattle.wellformed.proofs.Reached.{AreFound}
use Rattle.wellformed.proofs.reach.reached.Given as goal

abbrev pub invariant-loop-place : goal.invariant-loop-place
invariant-loop-place l = AreFound l.fn.image l.fn.thread.header.cnode l.place l.found
