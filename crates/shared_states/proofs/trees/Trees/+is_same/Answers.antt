use Rattle.std.proofs.Common.{◌≡◌, ◌+◌, ◌-◌, ◌∙◌, [], false, true, arith, sym}
use Rattle.shared_states.proofs.Held.{same_above, same_below, same_at, same_to, same_from, same_of}
use Rattle.shared_states.proofs.trees.Trees.+is_same.Goals as goal

pub returns-then-height-eq0-clause-differ : goal.returns-then-height-eq0-clause-differ
returns-then-height-eq0-clause-differ t c same =
    c.have_same_value.ensures.differ
    (same_of c.args.self.now c.args.height c.args.one c.args.other _ _ (c.first-first.ensures.same c.args.self.now c.requires.noted)
    (c.first-second.ensures.same c.args.self.now (c.first-first.ensures.noted c.args.self.now c.requires.noted)) same [] (omega arith))

pub returns-then-not-low-clause-differ : goal.returns-then-not-low-clause-differ
returns-then-not-low-clause-differ t c same =
    let above : c.args.height ≡ (c.args.height - 1) + 1 = omega (arith, c.if-height-eq0.false) in
    let firsts = same_of c.args.self.now c.args.height c.args.one c.args.other _ _ (c.first-first.ensures.same c.args.self.now c.requires.noted)
    (c.first-second.ensures.same c.args.self.now (c.first-first.ensures.noted c.args.self.now c.requires.noted)) same in
    sym c.if-not-low.true ∙ c.in_ok-low.ensures.differ
    (same_to c.args.self.now (c.args.height - 1) _ _ _ _ c.side.ensures.same c.side-2.ensures.same
    (same_below c.args.self.now (c.args.height - 1) c.args.height c.first-first.result c.first-second.result false above firsts))

pub returns-then-not-high-clause-differ : goal.returns-then-not-high-clause-differ
returns-then-not-high-clause-differ t c same =
    let above : c.args.height ≡ (c.args.height - 1) + 1 = omega (arith, c.if-height-eq0.false) in
    let firsts = same_of c.args.self.now c.args.height c.args.one c.args.other _ _ (c.first-first.ensures.same c.args.self.now c.requires.noted)
    (c.first-second.ensures.same c.args.self.now (c.first-first.ensures.noted c.args.self.now c.requires.noted)) same in
    sym c.if-not-high.true ∙ c.in_ok-high.ensures.differ
    (same_to c.args.self.now (c.args.height - 1) _ _ _ _ c.side-3.ensures.same c.side-4.ensures.same
    (same_below c.args.self.now (c.args.height - 1) c.args.height c.first-first.result c.first-second.result true above firsts))

pub returns-in_err-note-clause-noted : goal.returns-in_err-note-clause-noted
returns-in_err-note-clause-noted t c =
    let above : c.args.height ≡ (c.args.height - 1) + 1 = omega (arith, c.if-height-eq0.false) in
    c.note.ensures c.args.self.now (c.first-first.ensures.within c.args.self.now c.requires.one)
    (c.first-second.ensures.within c.args.self.now c.requires.other)
    (same_above c.args.self.now (c.args.height - 1) c.args.height c.first-first.result c.first-second.result above
    (same_at c.args.self.now (c.args.height - 1) _ _ _ _ c.side.ensures.same c.side-2.ensures.same (c.in_ok-low.ensures.same c.if-not-low.false))
    (same_at c.args.self.now (c.args.height - 1) _ _ _ _ c.side-3.ensures.same c.side-4.ensures.same (c.in_ok-high.ensures.same c.if-not-high.false)))
    c.in_ok-high.ensures.noted

pub returns-clause-same : goal.returns-clause-same
returns-clause-same t c is =
    let above : c.args.height ≡ (c.args.height - 1) + 1 = omega (arith, c.if-height-eq0.false) in
    same_from c.args.self.now c.args.height c.args.one c.args.other _ _ (c.first-first.ensures.same c.args.self.now c.requires.noted)
    (c.first-second.ensures.same c.args.self.now (c.first-first.ensures.noted c.args.self.now c.requires.noted))
    (same_above c.args.self.now (c.args.height - 1) c.args.height c.first-first.result c.first-second.result above
    (same_at c.args.self.now (c.args.height - 1) _ _ _ _ c.side.ensures.same c.side-2.ensures.same (c.in_ok-low.ensures.same c.if-not-low.false))
    (same_at c.args.self.now (c.args.height - 1) _ _ _ _ c.side-3.ensures.same c.side-4.ensures.same (c.in_ok-high.ensures.same c.if-not-high.false)))

pub returns-clause-noted : goal.returns-clause-noted
returns-clause-noted t c =
    let above : c.args.height ≡ (c.args.height - 1) + 1 = omega (arith, c.if-height-eq0.false) in
    c.note.ensures c.args.self.now (c.first-first.ensures.within c.args.self.now c.requires.one)
    (c.first-second.ensures.within c.args.self.now c.requires.other)
    (same_above c.args.self.now (c.args.height - 1) c.args.height c.first-first.result c.first-second.result above
    (same_at c.args.self.now (c.args.height - 1) _ _ _ _ c.side.ensures.same c.side-2.ensures.same (c.in_ok-low.ensures.same c.if-not-low.false))
    (same_at c.args.self.now (c.args.height - 1) _ _ _ _ c.side-3.ensures.same c.side-4.ensures.same (c.in_ok-high.ensures.same c.if-not-high.false)))
    c.in_ok-high.ensures.noted
