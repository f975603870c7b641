-- One more keeps the others.
use Rattle.std.proofs.Common.{◌≡◌, ◌∙◌, Bool, true, false, cond, refl}
use Rattle.typestate.proofs.families.Families.add.Goals as goal

with-one : (b x : Bool) → x ≡ true → cond b true x ≡ true
with-one true x is = refl
with-one false x is = is

pub returns-clause-kept : goal.returns-clause-kept
returns-clause-kept c = λ parent child is. c.in_ok-insert.ensures.updates.0 (parent, child) ∙ with-one _ _ is
