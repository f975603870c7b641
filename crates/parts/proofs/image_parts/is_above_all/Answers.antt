-- By one item more.
use Rattle.std.proofs.Common.{◌∙◌, sym}
use Rattle.parts.specs.Uses.{is_high}
use Rattle.parts.proofs.Apart.{outside-high}
use Rattle.parts.proofs.Left.{all-end, all-fails, all-more}
use Rattle.parts.proofs.image_parts.is_above_all.Goals as goal

pub returns-then-not-is_in : goal.returns-then-not-is_in
returns-then-not-is_in c = outside-high c.args.threads c.args.all.now c.args.own.now c.is_in.result c.is_in.ensures c.if-not-is_in.true

pub returns-then-not-is_high : goal.returns-then-not-is_high
returns-then-not-is_high c =
    all-fails (is_high c.args.threads c.args.all.now c.args.own.now) c.args.all.now c.loop-other.other-index c.other-item.result c.loop-other-test.true
    c.other-item.is
    (sym c.is_high.ensures ∙ c.if-not-is_high.true)

pub loop-other-preserved : goal.loop-other-preserved
loop-other-preserved c =
    all-more (is_high c.args.threads c.args.all.now c.args.own.now) c.args.all.now c.loop-other.other-index c.other-item.result c.loop-other-test.true
    c.other-item.is
    (sym c.is_high.ensures ∙ c.if-not-is_high.false) c.loop-other.invariant

pub returns : goal.returns
returns c = all-end (is_high c.args.threads c.args.all.now c.args.own.now) c.args.all.now c.loop-other.other-index c.loop-other-test.false
    c.loop-other.invariant
