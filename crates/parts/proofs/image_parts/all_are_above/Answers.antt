-- By one item more.
use Rattle.std.proofs.Common.{◌∙◌, sym}
use Rattle.std.specs.List.{list_all}
use Rattle.parts.specs.Uses.{is_high}
use Rattle.parts.proofs.Left.{all-end, all-fails, all-more}
use Rattle.parts.proofs.image_parts.all_are_above.Goals as goal

pub returns-then-not-is_above_all : goal.returns-then-not-is_above_all
returns-then-not-is_above_all c =
    all-fails (λ own. list_all (is_high c.args.threads c.args.all.now own) c.args.all.now) c.args.all.now c.loop-own.own-index c.own-item.result
    c.loop-own-test.true c.own-item.is
    (sym c.is_above_all.ensures ∙ c.if-not-is_above_all.true)

pub loop-own-preserved : goal.loop-own-preserved
loop-own-preserved c =
    all-more (λ own. list_all (is_high c.args.threads c.args.all.now own) c.args.all.now) c.args.all.now c.loop-own.own-index c.own-item.result
    c.loop-own-test.true c.own-item.is
    (sym c.is_above_all.ensures ∙ c.if-not-is_above_all.false) c.loop-own.invariant

pub returns : goal.returns
returns c = all-end (λ own. list_all (is_high c.args.threads c.args.all.now own) c.args.all.now) c.args.all.now c.loop-own.own-index c.loop-own-test.false
    c.loop-own.invariant
