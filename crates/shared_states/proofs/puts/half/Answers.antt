use Rattle.std.proofs.lemmas.Nat.{one_shl}
use Rattle.shared_states.proofs.Held.{twice}
use Rattle.shared_states.proofs.puts.half.Goals as goal

pub returns-clause-value : goal.returns-clause-value
returns-clause-value c = one_shl c.args.height 64 c.requires

pub returns-clause-twice : goal.returns-clause-twice
returns-clause-twice c above is = twice c.args.height above is
