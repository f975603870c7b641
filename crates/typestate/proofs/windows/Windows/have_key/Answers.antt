-- One that has it is there.
use Rattle.std.proofs.Common.{◌∙◌, Option, sym, subst}
use Rattle.std.specs.Option.{IfSome}
use Rattle.typestate.specs.GivenSpaces.{IsThere}
use Rattle.typestate.specs.Strays.{has_key}
use Rattle.typestate.specs.declared.window.Window.{Window}
use Rattle.typestate.proofs.FoundWindows.{any-there}
use Rattle.typestate.proofs.windows.Windows.have_key.Goals as goal

pub returns-then-has_key : goal.returns-then-has_key
returns-then-has_key c =
    let there = subst (λ (found : Option Window). IfSome found (IsThere c.args.self.now)) c.in-Some.is c.numbered.ensures in
    sym (any-there (has_key c.args.key) c.args.self.now c.in-Some.window there (sym c.has_key.ensures ∙ c.if-has_key.true))
