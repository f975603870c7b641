-- One capability more.
use Rattle.std.proofs.Common.{◌≡◌, List, sym, ap, subst, arith}
use Rattle.model.specs.declared.entries.ImageHeader.{ImageHeader}
use Rattle.model.specs.Acceptance.NotedStates.{NotedSlot, image_slots}
use Rattle.typestate.specs.Orders.{Rise}
use Rattle.thread_spaces.proofs.ListedSlots.{listed-next, listed-end, slots-rise}
use Rattle.thread_spaces.proofs.placed_threads.PlacedThread.slots.Goals as goal

pub loop-number-preserved : goal.loop-number-preserved
loop-number-preserved c =
    listed-next c.args.self.now.placed.now.image.now c.args.cnodes.now c.loop-number.number c.capability_of.result c.loop-number.slots.items
    c.note_listed.new.slots.items _
    c.capability_of.ensures c.in_ok-note_listed.ensures c.loop-number.invariant

pub returns-clause-slots : goal.returns-clause-slots
returns-clause-slots c =
    let count = ap (λ (h : ImageHeader). h.capabilities) c.header_of-number-end.ensures.value in
    let many = c.header_of-number-end.ensures.counts.capabilities in
    listed-end c.args.self.now.placed.now.image.now c.args.self.now.thread.now c.args.cnodes.now c.loop-number.number c.loop-number.slots.items
    c.requires.cnodes
    (let last = c.loop-number-test.false in omega (arith, last, count, many)) c.loop-number.invariant

pub returns-clause-rise : goal.returns-clause-rise
returns-clause-rise c =
    let count = ap (λ (h : ImageHeader). h.capabilities) c.header_of-number-end.ensures.value in
    let many = c.header_of-number-end.ensures.counts.capabilities in
    let all : c.loop-number.slots.items ≡ image_slots c.args.self.now.placed.now.image.now c.args.self.now.thread.now =
    listed-end c.args.self.now.placed.now.image.now c.args.self.now.thread.now c.args.cnodes.now c.loop-number.number c.loop-number.slots.items
    c.requires.cnodes
    (let last = c.loop-number-test.false in omega (arith, last, count, many)) c.loop-number.invariant in
    subst (λ (slots : List NotedSlot). Rise slots) (sym all) (slots-rise c.args.self.now.placed.now.image.now c.args.self.now.thread.now
    c.header_of-number-end.ensures.fitting)
