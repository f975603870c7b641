-- It takes nothing from those so far.
use Rattle.std.proofs.Common.{◌≡◌, true, take}
use Rattle.std.specs.List.{list_all}
use Rattle.parts.specs.Uses.{is_separate}
use Rattle.parts.proofs.image_parts.takes_nothing_from_all.Given as goal

abbrev pub invariant-loop-other : goal.invariant-loop-other
invariant-loop-other l = list_all (is_separate l.fn.objects l.fn.threads l.all l.fn.taker) (take l.other-index l.all) ≡ true
