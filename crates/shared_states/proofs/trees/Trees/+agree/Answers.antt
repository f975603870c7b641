use Rattle.std.proofs.Common.{◌≡◌, ◌+◌, ◌-◌, arith, sym}
use Rattle.shared_states.proofs.Held.{agree_above, agree_at, agree_leaf, agree_nowhere}
use Rattle.shared_states.proofs.trees.Trees.+agree.Goals as goal

pub returns-then-asked-eq-EMPTY : goal.returns-then-asked-eq-EMPTY
returns-then-asked-eq-EMPTY t c _ =
    rw (sym c.self.view_is)
    (agree_nowhere c.self.inside.entries.items c.args.height c.args.one c.args.other c.args.asked c.self.invariant c.if-asked-eq-EMPTY.true)

pub returns-then-height-eq0 : goal.returns-then-height-eq0
returns-then-height-eq0 t c is =
    agree_leaf c.args.self.now c.args.height c.args.one c.args.other c.args.asked c.if-height-eq0.true (c.have_same_value.ensures.same is)

pub returns : goal.returns
returns t c is =
    let b = c.args.height - 1 in
    let above : c.args.height ≡ b + 1 = omega (arith, c.if-height-eq0.false) in
    let all = c.args.self.now in
    agree_above all b c.args.height c.args.one c.args.other c.args.asked above
    (agree_at all b _ _ _ _ _ _ c.side.ensures.same c.side-2.ensures.same c.side-3.ensures.same (c.agree-low.ensures c.if-not-low.false))
    (agree_at all b _ _ _ _ _ _ c.side-4.ensures.same c.side-5.ensures.same c.side-6.ensures.same (c.agree.ensures is))
