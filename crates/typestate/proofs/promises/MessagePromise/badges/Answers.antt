-- By what a promise is.
use Rattle.std.proofs.Common.{◌∙◌, ap, subst, sym}
use Rattle.model.specs.Acceptance.RangeRules.{range}
use Rattle.model.specs.Images.Image.{ImagePromise}
use Rattle.model.specs.declared.entries.PromiseHeader.{PromiseHeader}
use Rattle.ranges.specs.Orders.{IsOrdered}
use Rattle.typestate.proofs.promises.MessagePromise.badges.Goals as goal

pub returns-clause-value : goal.returns-clause-value
returns-clause-value c =
    ap (λ (h : PromiseHeader). range h.badge_low h.badge_high) (c.header-header.ensures ∙ ap (λ (p : ImagePromise). p.header) c.self.view_is)

pub returns-clause-ordered : goal.returns-clause-ordered
returns-clause-ordered c = subst (λ (h : PromiseHeader). IsOrdered (range h.badge_low h.badge_high)) (sym c.header-header.ensures) c.self.invariant.badges
