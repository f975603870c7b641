-- By one item more.
use Rattle.std.proofs.Common.{◌∙◌, sym}
use Rattle.std.specs.List.{list_all}
use Rattle.parts.specs.Uses.{is_separate}
use Rattle.parts.proofs.Left.{all-end, all-fails, all-more}
use Rattle.parts.proofs.image_parts.all_take_nothing.Goals as goal

pub returns-then-not-takes_nothing_from_all : goal.returns-then-not-takes_nothing_from_all
returns-then-not-takes_nothing_from_all c =
    all-fails (λ taker. list_all (is_separate c.args.objects c.args.threads c.args.all.now taker) c.args.all.now) c.args.all.now c.loop-taker.taker-index
    c.taker-item.result c.loop-taker-test.true c.taker-item.is
    (sym c.takes_nothing_from_all.ensures ∙ c.if-not-takes_nothing_from_all.true)

pub loop-taker-preserved : goal.loop-taker-preserved
loop-taker-preserved c =
    all-more (λ taker. list_all (is_separate c.args.objects c.args.threads c.args.all.now taker) c.args.all.now) c.args.all.now c.loop-taker.taker-index
    c.taker-item.result c.loop-taker-test.true c.taker-item.is
    (sym c.takes_nothing_from_all.ensures ∙ c.if-not-takes_nothing_from_all.false) c.loop-taker.invariant

pub returns : goal.returns
returns c = all-end (λ taker. list_all (is_separate c.args.objects c.args.threads c.args.all.now taker) c.args.all.now) c.args.all.now c.loop-taker.taker-index
    c.loop-taker-test.false c.loop-taker.invariant
