-- One parent more, and the end.
use Rattle.std.proofs.Common.{◌∙◌, ◌+◌, ◌-◌, ap, sym, arith}
use Rattle.typestate.specs.Differences.{slots_of}
use Rattle.typestate.specs.SlotChanges.{is_removed, noted_outside}
use Rattle.typestate.proofs.SlotLines.{outside-end, outside-here, outside-more, outside-none}
use Rattle.typestate.proofs.removal.Removal.outside.Goals as goal

pub returns-in-None : goal.returns-in-None
returns-in-None c =
    let slots = slots_of c.args.self.now.slots in
    let gone = is_removed slots c.args.self.now.which in
    sym (c.loop.invariant ∙ ap (noted_outside (256 - c.loop.counter) gone slots) c.in-None.is ∙ outside-none (256 - c.loop.counter) gone slots)

pub returns-then-not-goes : goal.returns-then-not-goes
returns-then-not-goes c =
    let slots = slots_of c.args.self.now.slots in
    let gone = is_removed slots c.args.self.now.which in
    sym (outside-here 256 c.loop.counter (noted_outside 256 gone slots c.args.first) gone slots c.in-Some.key c.loop-test.true (sym c.if-not-goes.ensures)
    (c.loop.invariant ∙ ap (noted_outside (256 - c.loop.counter) gone slots) c.in-Some.is))

pub loop-preserved : goal.loop-preserved
loop-preserved c =
    let slots = slots_of c.args.self.now.slots in
    let gone = is_removed slots c.args.self.now.which in
    outside-more 256 c.loop.counter (noted_outside 256 gone slots c.args.first) gone slots c.in-Some.key c.loop-test.true (sym c.if-not-goes.ensures)
    (c.loop.invariant ∙ ap (noted_outside (256 - c.loop.counter) gone slots) c.in-Some.is)
    ∙ ap (noted_outside (256 - (c.loop.counter + 1)) gone slots) (sym c.parent-parent.ensures)

pub returns : goal.returns
returns c =
    let slots = slots_of c.args.self.now.slots in
    let gone = is_removed slots c.args.self.now.which in
    sym (outside-end 256 c.loop.counter (noted_outside 256 gone slots c.args.first) gone slots c.loop.parent (omega arith) c.loop.invariant)
