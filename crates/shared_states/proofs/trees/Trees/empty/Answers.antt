use Rattle.std.proofs.Common.{sym}
use Rattle.shared_states.proofs.Held.{held_empty}
use Rattle.shared_states.proofs.trees.Trees.empty.Goals as goal

pub returns-clause-nothing : goal.returns-clause-nothing
returns-clause-nothing c path = rw (sym c.self.view_is) (held_empty c.self.inside.entries.items path c.self.invariant)
