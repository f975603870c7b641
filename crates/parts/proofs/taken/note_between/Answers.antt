-- By one object more.
use Rattle.std.proofs.Common.{◌&&◌}
use Rattle.model.specs.Acceptance.ThreadRules.{is_member}
use Rattle.parts.proofs.Apart.{nothing-found}
use Rattle.parts.proofs.TakenLists.{object-next, object-none}
use Rattle.parts.proofs.taken.note_between.Goals as goal

pub returns-then-is_apart : goal.returns-then-is_apart
returns-then-is_apart c =
    nothing-found (λ object. record { taker = c.args.taker.now.number; object = object; other = c.args.other.now.number })
    (λ object. is_member object c.args.taker.now.takes && is_member object c.args.other.now.changes) c.args.objects c.is_apart.result
    c.args.found.now.items c.is_apart.ensures c.if-is_apart.true

pub loop-object-preserved : goal.loop-object-preserved
loop-object-preserved c =
    object-next (λ object. record { taker = c.args.taker.now.number; object = object; other = c.args.other.now.number })
    (λ object. is_member object c.args.taker.now.takes && is_member object c.args.other.now.changes) c.args.objects c.loop-object.found.items
    c.note_if.new.found.items _ c.is_taken-passed.result c.loop-object.object c.loop-object-test.true c.is_taken-passed.ensures c.in_ok-note_if.ensures
    c.loop-object.invariant

pub returns : goal.returns
returns c =
    object-none (λ object. record { taker = c.args.taker.now.number; object = object; other = c.args.other.now.number })
    (λ object. is_member object c.args.taker.now.takes && is_member object c.args.other.now.changes) c.args.objects c.loop-object.found.items
    _ c.loop-object.object c.loop-object-test.false c.loop-object.invariant
