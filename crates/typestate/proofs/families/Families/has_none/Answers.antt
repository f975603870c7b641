-- No name is after the last one's.
use Rattle.std.proofs.Common.{ℕ, ◌≡◌, ◌<◌, true, nat_lt, arith}
use Rattle.std.proofs.lemmas.Bool.Decides.{nat_tests}
use Rattle.typestate.proofs.LastLinks.{no-links}
use Rattle.typestate.proofs.families.Families.has_none.Goals as goal

less : (a b : ℕ) → nat_lt a b ≡ true → a < b
less a b is = grind (arith, nat_tests)

pub returns : goal.returns
returns c = λ after. no-links c.args.name c.last_name.result c.args.self.now.links.keys (less c.last_name.result c.args.name after) c.last_name.ensures
