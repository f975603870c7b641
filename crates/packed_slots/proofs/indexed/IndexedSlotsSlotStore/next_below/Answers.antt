-- The store is what the packed one is.
use Rattle.std.proofs.Common.{◌∙◌, IfSome, IsTrue, sym, ap, subst}
use Rattle.model.specs.Capabilities.Orders.{descendants, next_in}
use Rattle.model.specs.Capabilities.Slots.{IsDerivation, is_descendant}
use Rattle.packed_slots.specs.Packing.{Packed, packed_order, packed_slots}
use Rattle.packed_slots.proofs.indexed.IndexedSlotsSlotStore.next_below.Goals as goal

pub next_below-requires-clause-known : goal.next_below-requires-clause-known
next_below-requires-clause-known c =
    λ s is. subst (λ (p : Packed). IsTrue (is_descendant (packed_slots p) c.args.root s)) (sym c.self.view_is) (c.requires.known s is)

pub returns-clause-next : goal.returns-clause-next
returns-clause-next c =
    c.next_below.ensures.next ∙ ap (λ (p : Packed). next_in (descendants (packed_order p) (packed_slots p) c.args.root) c.args.previous) c.self.view_is

pub returns-clause-derivation : goal.returns-clause-derivation
returns-clause-derivation c = subst (λ (p : Packed). IsDerivation (packed_slots p)) c.self.view_is c.next_below.ensures.derivation

pub returns-clause-found_known : goal.returns-clause-found_known
returns-clause-found_known c =
    subst (λ (p : Packed). IfSome c.next_below.result (λ s. IsTrue (is_descendant (packed_slots p) c.args.root s))) c.self.view_is
    c.next_below.ensures.found_known
