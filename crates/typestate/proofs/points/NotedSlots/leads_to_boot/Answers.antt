-- By the steps that are left.
use Rattle.std.proofs.Common.{◌∙◌, ◌+◌, Option, sym, ap, subst, rules, arith}
use Rattle.model.specs.Acceptance.NotedStates.{NotedSlot, SlotKey}
use Rattle.typestate.proofs.ParentLines.{Leaves, line-breaks, line-ends, line-goes-on, line-left}
use Rattle.typestate.proofs.points.NotedSlots.leads_to_boot.Goals as goal

pub returns-in_default : goal.returns-in_default
returns-in_default c =
    line-ends c.args.self.now.image.now c.args.self.now.changes.now c.args.self.now.unlinked c.args.parent c.line.counter c.line.place
    c.in_default.is c.line.invariant

pub returns-in_default-at : goal.returns-in_default-at
returns-in_default-at c =
    line-breaks c.args.self.now.image.now c.args.self.now.changes.now c.args.self.now.unlinked c.args.parent c.line.counter c.line.place c.in-Some.key
    (let test = c.line-test.true in omega (arith, test, c.len-end.ensures.value)) c.in-Some.is
    (sym c.at.ensures ∙ c.in_default-at.is) c.line.invariant

pub line-preserved : goal.line-preserved
line-preserved c =
    let image = c.args.self.now.image.now in
    let changes = c.args.self.now.changes.now in
    subst (λ (p : Option SlotKey). Leaves image changes c.args.self.now.unlinked c.args.parent (c.line.counter + 1) p)
    (sym (ap (λ (s : NotedSlot). s.parent) c.slot.view_is))
    (line-goes-on image changes c.args.self.now.unlinked c.args.parent c.line.counter c.line.place c.in-Some.key c.in-Some-at.slot
    (let test = c.line-test.true in omega (arith, test, c.len-end.ensures.value)) c.in-Some.is (sym c.at.ensures ∙ c.in-Some-at.is) c.line.invariant)

pub returns : goal.returns
returns c = line-left c.args.self.now.image.now c.args.self.now.changes.now c.args.self.now.unlinked c.args.parent c.line.counter c.line.place c.is_none.result
    (let test = c.line-test.false in omega (arith, test, c.len-end.ensures.value)) (search rules) c.line.invariant
