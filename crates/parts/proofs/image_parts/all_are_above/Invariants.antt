-- Those are above the others so far.
use Rattle.std.proofs.Common.{◌≡◌, true, take}
use Rattle.std.specs.List.{list_all}
use Rattle.parts.specs.Uses.{is_high}
use Rattle.parts.proofs.image_parts.all_are_above.Given as goal

abbrev pub invariant-loop-own : goal.invariant-loop-own
invariant-loop-own l = list_all (λ own. list_all (is_high l.fn.threads l.all own) l.all) (take l.own-index l.all) ≡ true
