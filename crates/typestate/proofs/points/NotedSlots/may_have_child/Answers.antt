-- One parent more, and the slot without one.
use Rattle.std.proofs.Common.{ℕ, ◌∙◌, ◌+◌, nat_lt, ap, sym}
use Rattle.typestate.specs.Differences.{slots_of}
use Rattle.typestate.specs.SlotChanges.{noted_depth}
use Rattle.typestate.proofs.SlotLines.{depth-above, depth-ends}
use Rattle.typestate.proofs.points.NotedSlots.may_have_child.Goals as goal

pub returns-in-None : goal.returns-in-None
returns-in-None c =
    let slots = slots_of c.args.self.now in
    ap (λ (d : ℕ). nat_lt (c.loop-above.above + d) 255) c.depth_at_top.ensures.value
    ∙ depth-ends c.loop-above.above (noted_depth 256 slots c.args.key) slots c.loop-above.place c.loop-above-test.true (sym c.in-None.ensures)
    c.loop-above.invariant

pub loop-above-preserved : goal.loop-above-preserved
loop-above-preserved c =
    depth-above 256 c.loop-above.above (noted_depth 256 (slots_of c.args.self.now) c.args.key) (slots_of c.args.self.now) c.loop-above.place c.in-Some.parent
    c.loop-above-test.true (sym c.in-Some.ensures) c.loop-above.invariant
