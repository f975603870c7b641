-- What maps a page maps it still.
use Rattle.typestate.proofs.Replayed.{swapped-paged}
use Rattle.typestate.proofs.shown.ShownChanges.swap.Goals as goal

pub invariant_of-self-2 : goal.invariant_of-self-2
invariant_of-self-2 c = (
  swapped-paged c.args.one c.args.other c.self.inside.changes c.swap.new.self c.self.inside.pages.slots.keys c.in_ok-swap.ensures.swapped c.self.invariant.0,
  c.in_ok-swap.ensures.narrow,
)
