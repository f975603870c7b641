-- The root of the space is inside.
use Rattle.typestate.proofs.GivenFacts.{decides-test, space-of}
use Rattle.typestate.proofs.thread_slots.ThreadSlots.named.Goals as goal

pub invariant_of-root : goal.invariant_of-root
invariant_of-root c = record {
  inside = (space-of c.args.self.now.space).root_inside;
  valid = decides-test c.args.self.now.space.root (space-of c.args.self.now.space).valid;
}
