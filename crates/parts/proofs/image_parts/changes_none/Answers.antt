-- By one object more that the thread takes.
use Rattle.std.proofs.Common.{◌∙◌, ◌≤◌, length, not, sym, ap, arith}
use Rattle.std.proofs.lemmas.Option.{get_or_from_slice_get}
use Rattle.parts.proofs.Apart.{apart-is, keeps}
use Rattle.parts.proofs.Left.{all-end, all-fails, all-more}
use Rattle.parts.proofs.image_parts.changes_none.Goals as goal

pub returns-then-may_change : goal.returns-then-may_change
returns-then-may_change c =
    let takes = c.args.takes.now in
    let changes = c.args.other.now.changes in
    all-fails (keeps c.args.objects takes changes) takes c.loop-place.place c.at.result (omega (arith, c.loop-place-test.true, c.len-place-end.ensures))
    (sym (get_or_from_slice_get takes c.loop-place.place c.at.result c.at.result c.at.ensures)) (ap not (sym c.may_change.ensures ∙ c.if-may_change.true))
    ∙ apart-is c.args.objects takes changes

pub loop-place-preserved : goal.loop-place-preserved
loop-place-preserved c =
    let takes = c.args.takes.now in
    let changes = c.args.other.now.changes in
    all-more (keeps c.args.objects takes changes) takes c.loop-place.place c.at.result (omega (arith, c.loop-place-test.true, c.len-place-end.ensures))
    (sym (get_or_from_slice_get takes c.loop-place.place c.at.result c.at.result c.at.ensures)) (ap not (sym c.may_change.ensures ∙ c.if-may_change.false))
    c.loop-place.invariant

pub returns : goal.returns
returns c =
    let takes = c.args.takes.now in
    let changes = c.args.other.now.changes in
    let past : length takes ≤ c.loop-place.place = omega (arith, c.loop-place-test.false, c.len-place-end.ensures) in
    all-end (keeps c.args.objects takes changes) takes c.loop-place.place past c.loop-place.invariant ∙ apart-is c.args.objects takes changes
