-- No name is after that of the last link.
use Rattle.std.proofs.Common.{◌≡◌, true, false, IsSome, subst, arith}
use Rattle.typestate.proofs.LastLinks.{at-most}
use Rattle.typestate.proofs.families.Families.last_name.Goals as goal

pub returns-in-Some : goal.returns-in-Some
returns-in-Some c = λ k d below. at-most c.in-Some.last.now.0 c.in-Some.last.now.1 _ _ (c.in-Some.ensures.all_up_to k d below)

pub returns-in-None : goal.returns-in-None
returns-in-None c = λ k d below. absurd (let no : false ≡ true = subst IsSome c.in-None.is (c.last.ensures.variant.1 (omega (arith, below))) in cc)
