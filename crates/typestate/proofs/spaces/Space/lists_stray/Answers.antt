-- One slot more is none that the thread may not have.
use Rattle.std.proofs.Common.{◌∙◌, Bool, [], sym}
use Rattle.std.specs.List.{list_any}
use Rattle.model.specs.Acceptance.NotedStates.{NotedSlot}
use Rattle.typestate.specs.Strays.{is_stray_in}
use Rattle.typestate.proofs.SlotsLeft.{none-passed, one-fails, this-passes}
use Rattle.typestate.proofs.spaces.Space.lists_stray.Goals as goal

pub loop-slot-preserved : goal.loop-slot-preserved
loop-slot-preserved c =
    let test : NotedSlot → Bool = is_stray_in c.args.self.now [] in
    one-fails test c.args.listed.now c.loop-slot.slot-index c.slot-item.result (list_any test c.args.listed.now) c.loop-slot-test.true c.slot-item.is
    (sym c.is_stray_alone.ensures ∙ c.if-is_stray_alone.false) c.loop-slot.invariant

pub returns-then-is_stray_alone : goal.returns-then-is_stray_alone
returns-then-is_stray_alone c =
    let test : NotedSlot → Bool = is_stray_in c.args.self.now [] in
    this-passes test c.args.listed.now c.loop-slot.slot-index c.slot-item.result (list_any test c.args.listed.now) c.loop-slot-test.true c.slot-item.is
    (sym c.is_stray_alone.ensures ∙ c.if-is_stray_alone.true) c.loop-slot.invariant

pub returns : goal.returns
returns c =
    let test : NotedSlot → Bool = is_stray_in c.args.self.now [] in
    none-passed test c.args.listed.now c.loop-slot.slot-index (list_any test c.args.listed.now) c.loop-slot-test.false c.loop-slot.invariant
