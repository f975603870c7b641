-- The page that goes is another one.
use Rattle.std.proofs.Common.{◌∙◌, sym, ap}
use Rattle.model.specs.Acceptance.NotedStates.{number_of}
use Rattle.typestate.proofs.LinkedChanges.{other-child, other-parent}
use Rattle.typestate.proofs.PagedChanges.{pages-apart}
use Rattle.typestate.proofs.mapped_pages.MappedPages.replace.Goals as goal

pub returns-clause-others : goal.returns-clause-others
returns-clause-others c = λ page slot off is.
    let number = c.number.ensures ∙ ap number_of c.key.ensures in
    c.remove.ensures.updates.2 (page, slot) (other-child _ _ page slot _ number off) ∙ is

pub returns-clause-own : goal.returns-clause-own
returns-clause-own c = λ has page is.
    let apart = pages-apart c.in-Some.page c.args.change page (sym c.leaves_at.ensures ∙ c.if-leaves_at.false) is in
    c.remove.ensures.updates.2 (page, number_of c.args.change.key) (other-parent _ _ page (number_of c.args.change.key) _ c.from.ensures apart) ∙ has page is
