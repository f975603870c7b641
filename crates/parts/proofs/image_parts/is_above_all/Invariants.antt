-- It is above those so far.
use Rattle.std.proofs.Common.{◌≡◌, true, take}
use Rattle.std.specs.List.{list_all}
use Rattle.parts.specs.Uses.{is_high}
use Rattle.parts.proofs.image_parts.is_above_all.Given as goal

abbrev pub invariant-loop-other : goal.invariant-loop-other
invariant-loop-other l = list_all (is_high l.fn.threads l.all l.fn.own) (take l.other-index l.all) ≡ true
