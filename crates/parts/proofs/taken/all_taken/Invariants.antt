-- What is found of those so far.
use Rattle.std.proofs.Common.{◌≡◌, take}
use Rattle.std.specs.List.{flat_map}
use Rattle.parts.specs.Taken.{taken_inside}
use Rattle.parts.proofs.taken.all_taken.Given as goal

abbrev pub invariant-loop-taker : goal.invariant-loop-taker
invariant-loop-taker l = l.found.items ≡ flat_map (taken_inside l.fn.objects l.fn.threads l.all) (take l.taker-index l.all)
