-- No other CNode stands there.
use Rattle.std.proofs.Common.{◌∙◌, Option, sym, subst}
use Rattle.std.specs.Option.{IfSome}
use Rattle.typestate.specs.GivenSpaces.{AreApart, IsThere}
use Rattle.typestate.specs.declared.window.Window.{Window}
use Rattle.typestate.proofs.FoundWindows.{at-found}
use Rattle.typestate.proofs.windows.Windows.at.Goals as goal

pub returns-then-is_at : goal.returns-then-is_at
returns-then-is_at c =
    sym (at-found c.args.self.now c.args.offset c.args.radix c.in-Some.window (subst AreApart c.self.view_is c.self.invariant)
    (subst (λ (found : Option Window). IfSome found (IsThere c.args.self.now)) c.in-Some.is c.near.ensures) (sym c.is_at.ensures ∙ c.if-is_at.true))
