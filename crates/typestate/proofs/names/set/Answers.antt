-- The others stay.
use Rattle.typestate.proofs.SwappedNames.{held-kept}
use Rattle.typestate.proofs.names.set.Goals as goal

pub returns-clause-kept : goal.returns-clause-kept
returns-clause-kept c = λ n. held-kept c.args.map.now.entries c.insert.new.self.entries c.args.number c.args.other n (c.in-Ok.ensures.updates.0 n)
