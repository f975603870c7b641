-- Each descendant is full, so it is listed once.
use Rattle.model.proofs.Ancestors.{descendants-once, found-descends}
use Rattle.derivation.proofs.descent.next_descendant.Goals as goal

pub returns-clause-once : goal.returns-clause-once
returns-clause-once g c = λ slot. descendants-once _ _ _ slot c.next_below.ensures.derivation c.next_below.ensures.lists

pub returns-clause-found : goal.returns-clause-found
returns-clause-found g c = found-descends _ _ c.next_below.result c.next_below.ensures.found_known
