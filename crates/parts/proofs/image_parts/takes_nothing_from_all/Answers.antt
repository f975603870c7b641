-- By one item more.
use Rattle.std.proofs.Common.{◌∙◌, sym}
use Rattle.parts.specs.Uses.{is_separate}
use Rattle.parts.proofs.Apart.{outside-separate}
use Rattle.parts.proofs.Left.{all-end, all-fails, all-more}
use Rattle.parts.proofs.image_parts.takes_nothing_from_all.Goals as goal

pub returns-then-not-is_in : goal.returns-then-not-is_in
returns-then-not-is_in c =
    outside-separate c.args.threads c.args.all.now c.args.taker.now c.is_in.result c.is_in.ensures c.if-not-is_in.true c.args.objects

pub returns-then-not-is_separate : goal.returns-then-not-is_separate
returns-then-not-is_separate c =
    all-fails (is_separate c.args.objects c.args.threads c.args.all.now c.args.taker.now) c.args.all.now c.loop-other.other-index c.other-item.result
    c.loop-other-test.true c.other-item.is
    (sym c.is_separate.ensures ∙ c.if-not-is_separate.true)

pub loop-other-preserved : goal.loop-other-preserved
loop-other-preserved c =
    all-more (is_separate c.args.objects c.args.threads c.args.all.now c.args.taker.now) c.args.all.now c.loop-other.other-index c.other-item.result
    c.loop-other-test.true c.other-item.is
    (sym c.is_separate.ensures ∙ c.if-not-is_separate.false) c.loop-other.invariant

pub returns : goal.returns
returns c = all-end (is_separate c.args.objects c.args.threads c.args.all.now c.args.taker.now) c.args.all.now c.loop-other.other-index c.loop-other-test.false
    c.loop-other.invariant
