-- The test of the depth, and then what is put.
use Rattle.std.proofs.Common.{◌≡◌, ◌∙◌, false, Result, sym, ap, subst}
use Rattle.std.specs.Prelude.{IfOk}
use Rattle.model.specs.Capabilities.Slots.{is_empty}
use Rattle.model.specs.Acceptance.CallRules.{may_travel}
use Rattle.model.specs.Acceptance.NotedKernel.{noted_slots}
use Rattle.model.specs.declared.capabilities.Cap.{Cap}
use Rattle.model.specs.declared.errors.KError.{KError}
use Rattle.typestate.specs.CNodeCalls.{allowed_slots, with_child}
use Rattle.typestate.specs.Differences.{slots_of}
use Rattle.typestate.proofs.CopyCalls.{child-put, too-deep}
use Rattle.typestate.proofs.Rising.{changes-rise, from-first}
use Rattle.typestate.proofs.cnode_calls.put_copy.Goals as goal

pub returns-then-not-may_have_child : goal.returns-then-not-may_have_child
returns-then-not-may_have_child c = λ image t root name x y stand own are.
    let slots = slots_of c.args.slots.now in
    ap (λ (r : Result Cap KError). allowed_slots image t c.args.at (may_travel c.args.ends.held) (with_child (noted_slots image t slots) x y r)) c.in-Ok.is
    ∙ too-deep image t c.args.at slots root name x y c.args.ends stand own are c.in-Ok.capability (may_travel c.args.ends.held)
    (sym c.if-not-may_have_child.ensures)

pub returns : goal.returns
returns c = λ image t root name x y stand own are.
    let slots = slots_of c.args.slots.now in
    ap (λ (r : Result Cap KError). allowed_slots image t c.args.at (may_travel c.args.ends.held) (with_child (noted_slots image t slots) x y r)) c.in-Ok.is
    ∙ child-put image t c.args.at slots root name x y c.args.ends stand own are c.in-Ok.capability (may_travel c.args.ends.held)
    (changes-rise c.args.slots.now.image.now c.args.slots.now.changes.now (from-first c.args.slots.now.image.now c.args.slots.now.rising))
    (subst (λ (r : Result Cap KError). IfOk r (λ capability. is_empty capability ≡ false)) c.in-Ok.is c.requires.made) (sym c.if-not-may_have_child.ensures)
    (sym c.if-not-may_travel.ensures)
