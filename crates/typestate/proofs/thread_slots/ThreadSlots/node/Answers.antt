-- What the slot that is named holds stays inside.
use Rattle.std.proofs.Common.{◌∙◌, sym, ap}
use Rattle.model.specs.Acceptance.NotedKernel.{noted_slots}
use Rattle.model.specs.Kernel.Arguments.{argument_slot}
use Rattle.typestate.specs.Differences.{slots_of}
use Rattle.typestate.specs.Spaces.{is_inside}
use Rattle.typestate.proofs.GivenFacts.{decides-test, space-of}
use Rattle.typestate.proofs.Inside.{named-ok}
use Rattle.typestate.proofs.SlotMaps.{held-inside, noted-holds}
use Rattle.typestate.proofs.thread_slots.ThreadSlots.node.Goals as goal

pub invariant_of-root : goal.invariant_of-root
invariant_of-root c = record {
  inside = (space-of c.args.self.now.space).root_inside;
  valid = decides-test c.args.self.now.space.root (space-of c.args.self.now.space).valid;
}

pub invariant_of-root-2 : goal.invariant_of-root-2
invariant_of-root-2 c =
    let image = c.args.self.now.space.image.now in
    let t = c.args.self.now.space.thread.now in
    let slots = slots_of c.args.self.now.slots in
    let all = noted_slots image t slots in
    let x = named-ok image t all (argument_slot all c.args.self.now.space.root c.args.name) c.in-Ok.found.0 c.in-Ok.found.1 c.in-Ok.ensures.value in
    record {
      inside = ap (is_inside image t) (sym x.3 ∙ noted-holds image t slots x.0 c.in-Ok.found.0 x.2)
          ∙ held-inside image t slots c.in-Ok.found.0 c.args.self.now.inside;
      valid = decides-test c.in-Ok.found.1 c.in-Ok.ensures.valid;
    }
