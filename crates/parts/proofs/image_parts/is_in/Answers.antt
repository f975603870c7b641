-- By one item more.
use Rattle.std.proofs.Common.{◌∙◌, ◌==◌, ◌&&◌, sym}
use Rattle.std.specs.Int.{bit_at}
use Rattle.parts.proofs.Left.{any-end, any-found, any-more}
use Rattle.parts.proofs.image_parts.is_in.Goals as goal

pub returns-then-has_block : goal.returns-then-has_block
returns-then-has_block c =
    any-found (λ u. bit_at c.args.threads u.number == 1 && u.tcb == c.args.tcb) c.args.all.now c.loop-uses.uses-index c.uses-item.result c.loop-uses-test.true
    c.uses-item.is
    (sym c.has_block.ensures ∙ c.if-has_block.true)

pub loop-uses-preserved : goal.loop-uses-preserved
loop-uses-preserved c =
    any-more (λ u. bit_at c.args.threads u.number == 1 && u.tcb == c.args.tcb) c.args.all.now c.loop-uses.uses-index c.uses-item.result c.loop-uses-test.true
    c.uses-item.is
    (sym c.has_block.ensures ∙ c.if-has_block.false) c.loop-uses.invariant

pub returns : goal.returns
returns c = any-end (λ u. bit_at c.args.threads u.number == 1 && u.tcb == c.args.tcb) c.args.all.now c.loop-uses.uses-index c.loop-uses-test.false
    c.loop-uses.invariant
