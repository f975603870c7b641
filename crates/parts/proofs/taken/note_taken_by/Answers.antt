-- By one thread more.
use Rattle.std.proofs.Common.{◌∙◌, append-nil, sym, ap, not, [], ◌++◌, if◌then◌else◌}
use Rattle.parts.specs.Taken.{taken_between, taken_outside}
use Rattle.parts.proofs.TakenLists.{thread-next, thread-none}
use Rattle.parts.proofs.taken.note_taken_by.Goals as goal

pub loop-other-init : goal.loop-other-init
loop-other-init c = sym (append-nil c.args.found.now.items)

pub loop-other-preserved : goal.loop-other-preserved
loop-other-preserved c =
    thread-next (taken_outside c.args.objects c.args.threads c.args.all.now c.args.taker.now) c.args.all.now c.loop-other.other-index
    c.args.found.now.items c.other-item.result c.loop-other.found.items c.note_outside.new.found.items c.loop-other-test.true c.other-item.is
    c.loop-other.invariant
    (c.in_ok-note_outside.ensures
    ∙ ap (λ b. c.loop-other.found.items ++ (if not b then taken_between c.args.objects c.args.taker.now c.other-item.result else []))
    c.is_in-is_outside.ensures)

pub returns : goal.returns
returns c =
    thread-none (taken_outside c.args.objects c.args.threads c.args.all.now c.args.taker.now) c.args.all.now c.loop-other.other-index
    c.args.found.now.items c.loop-other.found.items c.loop-other-test.false c.loop-other.invariant
