-- Those take nothing so far.
use Rattle.std.proofs.Common.{◌≡◌, true, take}
use Rattle.std.specs.List.{list_all}
use Rattle.parts.specs.Uses.{is_separate}
use Rattle.parts.proofs.image_parts.all_take_nothing.Given as goal

abbrev pub invariant-loop-taker : goal.invariant-loop-taker
invariant-loop-taker l = list_all (λ taker. list_all (is_separate l.fn.objects l.fn.threads l.all taker) l.all) (take l.taker-index l.all) ≡ true
