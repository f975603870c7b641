-- Those so far have none.
use Rattle.parts.proofs.ObjectSets.{share_none}
use Rattle.parts.proofs.object_sets.share_no_bit.Given as goal

abbrev pub invariant-loop-place : goal.invariant-loop-place
invariant-loop-place l = share_none l.fn.one l.fn.other l.place
