-- What is known of the page leads to the first slot.
use Rattle.std.proofs.Common.{◌∙◌, IfSome, IsTrue, sym, ap, subst}
use Rattle.model.specs.Capabilities.Orders.{IsOrderOf, next_in}
use Rattle.model.specs.Capabilities.Slots.{IsFull}
use Rattle.packed_slots.specs.Packing.{Packed, packed_order, packed_slots}
use Rattle.slots.specs.Listed.{is_naming, naming}
use Rattle.packed_slots.proofs.NamedChanges.{known-names, unknown-names}
use Rattle.packed_slots.proofs.indexed.IndexedSlotsSlotStore.next_naming.Goals as goal

pub next_alike-requires-clause-names : goal.next_alike-requires-clause-names
next_alike-requires-clause-names c = λ s is. subst (λ (p : Packed). IsTrue (is_naming (packed_slots p) c.args.object s)) (sym c.self.view_is)
    (c.requires.known s is)

pub next_alike-requires-clause-some : goal.next_alike-requires-clause-some
next_alike-requires-clause-some c = λ s is.
    known-names (packed_slots c.self.inside.store) c.self.inside.named c.args.object s c.self.invariant.known c.requires.page (sym c.find-known.ensures ∙ is)

pub next_alike-requires-clause-none : goal.next_alike-requires-clause-none
next_alike-requires-clause-none c = λ none s.
    unknown-names (packed_slots c.self.inside.store) c.self.inside.named c.args.object s c.self.invariant.known c.requires.page
    (sym c.find-known.ensures ∙ none)

pub returns-clause-next : goal.returns-clause-next
returns-clause-next c =
    c.next_alike.ensures.next ∙ ap (λ (p : Packed). next_in (naming (packed_order p) (packed_slots p) c.args.object) c.args.previous) c.self.view_is

pub returns-clause-lists : goal.returns-clause-lists
returns-clause-lists c = subst (λ (p : Packed). IsOrderOf (packed_order p) (packed_slots p)) c.self.view_is c.next_alike.ensures.lists

pub returns-clause-found_full : goal.returns-clause-found_full
returns-clause-found_full c = subst (λ (p : Packed). IfSome c.next_alike.result (IsFull (packed_slots p))) c.self.view_is c.next_alike.ensures.found_full

pub returns-clause-found_known : goal.returns-clause-found_known
returns-clause-found_known c =
    subst (λ (p : Packed). IfSome c.next_alike.result (λ s. IsTrue (is_naming (packed_slots p) c.args.object s))) c.self.view_is
    c.next_alike.ensures.found_known
