-- What the capabilities that are left lead to is what all of them do.
use Rattle.std.proofs.Common.{◌≡◌, drop}
use Rattle.std.specs.Prelude.{fold}
use Rattle.wellformed.specs.Answering.{with_listed}
use Rattle.wellformed.proofs.reach.follow_listed.Given as goal

abbrev pub invariant-loop-item : goal.invariant-loop-item
invariant-loop-item l =
    fold (with_listed l.fn.image l.cnode) l.found (drop l.item l.fn.image.capabilities) ≡ fold (with_listed l.fn.image l.cnode) l.fn.found
    l.fn.image.capabilities
