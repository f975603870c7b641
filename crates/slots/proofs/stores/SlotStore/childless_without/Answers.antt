-- The parent has the slot alone below it, or another one too.
use Rattle.std.proofs.Common.{ℕ, ◌≡◌, ◌∙◌, IfSome, IsTrue, Option, Some, sym, subst}
use Rattle.model.proofs.Ancestors.{parent-held}
use Rattle.model.specs.Capabilities.Slots.{Slots, is_descendant, parent_at}
use Rattle.slots.specs.Kin.{no_parent}
use Rattle.slots.proofs.Families.{leaves-one, leaves-two, none-of, some-of}
use Rattle.slots.proofs.stores.SlotStore.childless_without.Goals as goal

pub returns-in_default : goal.returns-in_default
returns-in_default g c =
    let slots : Slots = g.Self.SlotMap.slots c.args.self.now in
    no_parent (parent-held slots c.args.slot _ c.get-held.ensures.held ∙ c.in_default.is)

pub returns-then-is_some : goal.returns-then-is_some
returns-then-is_some g c =
    let slots : Slots = g.Self.SlotMap.slots c.args.self.now in
    let order = g.Self.SlotStore.order c.args.self.now in
    let up : parent_at slots c.args.slot ≡ Some c.in-Some.parent = parent-held slots c.args.slot _ c.get-held.ensures.held ∙ c.in-Some.is in
    let second = some-of c.next_below.result (sym c.is_some.ensures ∙ c.if-is_some.true) in
    leaves-two slots c.args.slot c.in-Some.parent c.next_below.ensures.derivation up order c.next_below.ensures.lists c.next_below-first.result second.0
    c.next_below-first.ensures.next (sym c.next_below.ensures.next ∙ second.1)
    (λ f is. subst (λ (o : Option ℕ). IfSome o (λ x. IsTrue (is_descendant slots c.in-Some.parent x))) is c.next_below-first.ensures.found_known)
    (subst (λ (o : Option ℕ). IfSome o (λ x. IsTrue (is_descendant slots c.in-Some.parent x))) second.1 c.next_below.ensures.found_known)

pub returns : goal.returns
returns g c =
    let slots : Slots = g.Self.SlotMap.slots c.args.self.now in
    let order = g.Self.SlotStore.order c.args.self.now in
    let up : parent_at slots c.args.slot ≡ Some c.in-Some.parent = parent-held slots c.args.slot _ c.get-held.ensures.held ∙ c.in-Some.is in
    leaves-one slots c.args.slot c.in-Some.parent c.next_below.ensures.derivation up order c.next_below.ensures.lists c.next_below-first.result
    c.next_below-first.ensures.next (sym c.next_below.ensures.next ∙ none-of c.next_below.result (sym c.is_some.ensures ∙ c.if-is_some.false))
