use Rattle.shared_states.proofs.trees.Trees.side.Goals as goal
use Rattle.std.proofs.Common.{◌≡◌, ◌∙◌, sym, ap}
use Rattle.shared_states.specs.Entries.{below_or, side_of}

pub returns-in-Some-clause-within : goal.returns-in-Some-clause-within
returns-in-Some-clause-within c =
    let is : side_of c.args.self.now c.args.tree c.args.side ≡ c.below.result = ap (λ e. below_or e c.args.side) (sym c.entry.ensures.is ∙ c.in-Some.is)
    ∙ sym c.below.ensures in
    rw (sym is) (c.entry.ensures.closed.within c.args.tree c.args.side)

pub returns-in-None-clause-within : goal.returns-in-None-clause-within
returns-in-None-clause-within c = c.entry.ensures.closed.some
