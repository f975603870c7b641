-- One more keeps the others.
use Rattle.std.proofs.Common.{◌≡◌, ◌∙◌, Bool, true, false, cond, refl}
use Rattle.typestate.proofs.mapped_pages.MappedPages.add.Goals as goal

with-one : (b x : Bool) → x ≡ true → cond b true x ≡ true
with-one true x is = refl
with-one false x is = is

pub returns-in_ok-insert-clause-kept : goal.returns-in_ok-insert-clause-kept
returns-in_ok-insert-clause-kept c = λ page slot is. c.in_ok-insert.ensures.updates.0 (page, slot) ∙ with-one _ _ is
