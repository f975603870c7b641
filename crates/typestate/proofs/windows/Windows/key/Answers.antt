-- The slot stands in no other CNode.
use Rattle.std.proofs.Common.{◌∙◌, Option, Some, option_map, sym, ap, subst}
use Rattle.std.specs.Option.{IfSome}
use Rattle.typestate.specs.GivenSpaces.{AreApart, IsThere}
use Rattle.typestate.specs.Spaces.{key_within}
use Rattle.typestate.specs.declared.window.Window.{Window}
use Rattle.typestate.proofs.windows.Windows.key.Goals as goal

pub returns-then-has : goal.returns-then-has
returns-then-has c =
    let apart = subst AreApart c.self.view_is c.self.invariant in
    let there = subst (λ (found : Option Window). IfSome found (IsThere c.args.self.now)) c.in-Some.is c.near.ensures in
    ap (λ (key : _). Some key) c.key.ensures
    ∙ sym (ap (option_map (key_within c.args.slot)) (apart c.args.slot there.0 c.in-Some.window there.1 (sym c.has.ensures ∙ c.if-has.true)))
