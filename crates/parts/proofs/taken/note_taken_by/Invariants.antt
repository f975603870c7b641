-- What is found from those so far.
use Rattle.std.proofs.Common.{◌≡◌, ◌++◌, take}
use Rattle.std.specs.List.{flat_map}
use Rattle.parts.specs.Taken.{taken_outside}
use Rattle.parts.proofs.taken.note_taken_by.Given as goal

abbrev pub invariant-loop-other : goal.invariant-loop-other
invariant-loop-other l =
    l.found.items ≡ l.initial.found.items ++ flat_map (taken_outside l.fn.objects l.fn.threads l.all l.fn.taker) (take l.other-index l.all)
