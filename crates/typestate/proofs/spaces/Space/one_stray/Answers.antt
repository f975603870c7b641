-- One slot more is none that the thread may not have.
use Rattle.std.proofs.Common.{◌∙◌, Bool, sym, ap}
use Rattle.std.specs.List.{list_any}
use Rattle.model.specs.Acceptance.NotedStates.{NotedSlot}
use Rattle.typestate.specs.Differences.{slots_of}
use Rattle.typestate.specs.Strays.{is_stray_at}
use Rattle.typestate.proofs.SlotsLeft.{none-passed, one-fails, this-passes}
use Rattle.typestate.proofs.spaces.Space.one_stray.Goals as goal

pub loop-slot-preserved : goal.loop-slot-preserved
loop-slot-preserved c =
    let test : NotedSlot → Bool = λ k. is_stray_at c.args.self.now (slots_of c.args.slots.now) k.key in
    one-fails test c.args.keys.now c.loop-slot.slot-index c.slot-item.result (list_any test c.args.keys.now) c.loop-slot-test.true c.slot-item.is
    (sym (c.holds_stray.ensures ∙ ap test c.slot.view_is) ∙ c.if-holds_stray.false) c.loop-slot.invariant

pub returns-then-holds_stray : goal.returns-then-holds_stray
returns-then-holds_stray c =
    let test : NotedSlot → Bool = λ k. is_stray_at c.args.self.now (slots_of c.args.slots.now) k.key in
    this-passes test c.args.keys.now c.loop-slot.slot-index c.slot-item.result (list_any test c.args.keys.now) c.loop-slot-test.true c.slot-item.is
    (sym (c.holds_stray.ensures ∙ ap test c.slot.view_is) ∙ c.if-holds_stray.true) c.loop-slot.invariant

pub returns : goal.returns
returns c =
    let test : NotedSlot → Bool = λ k. is_stray_at c.args.self.now (slots_of c.args.slots.now) k.key in
    none-passed test c.args.keys.now c.loop-slot.slot-index (list_any test c.args.keys.now) c.loop-slot-test.false c.loop-slot.invariant
