-- What was found, with what is left of the objects.
use Rattle.std.proofs.Common.{◌≡◌, ◌++◌, ◌&&◌}
use Rattle.model.specs.Acceptance.ThreadRules.{is_member}
use Rattle.parts.specs.Taken.{taken_between}
use Rattle.parts.proofs.TakenLists.{objects_left}
use Rattle.parts.proofs.taken.note_between.Given as goal

abbrev pub invariant-loop-object : goal.invariant-loop-object
invariant-loop-object l =
    l.found.items ++ objects_left (λ object. record { taker = l.fn.taker.number; object = object; other = l.fn.other.number })
    (λ object. is_member object l.fn.taker.takes && is_member object l.fn.other.changes) l.fn.objects l.object
    ≡ l.initial.found.items ++ taken_between l.fn.objects l.fn.taker l.fn.other
