-- No capability changes.
use Rattle.std.proofs.Common.{ℕ, ◌≡◌, ◌∙◌, ◌+◌, ◌<◌, ◌≤◌, Some, sym, ap, subst}
use Rattle.model.specs.Capabilities.Slots.{Slots, closed, empty_entry}
use Rattle.packed_slots.specs.Indexing.{IsIndexed}
use Rattle.packed_slots.specs.Packing.{Packed, packed_order, packed_slots}
use Rattle.packed_slots.proofs.Counting.{counted-closed}
use Rattle.packed_slots.proofs.NamedChanges.{named-closed}
use Rattle.packed_slots.proofs.indexed.IndexedSlotsSlotStore.close_range.Goals as goal

pub close_range-requires-clause-empty : goal.close_range-requires-clause-empty
close_range-requires-clause-empty c =
    subst (λ (p : Packed). (x : ℕ) → c.args.first ≤ x → x < c.args.first + c.args.count → packed_slots p x ≡ Some empty_entry) (sym c.self.view_is)
    c.requires.empty

pub returns-clause-slots : goal.returns-clause-slots
returns-clause-slots c = c.close_range.ensures.slots ∙ ap (λ (p : Packed). closed (packed_slots p) c.args.first c.args.count) c.self.view_is

pub returns-clause-order : goal.returns-clause-order
returns-clause-order c = c.close_range.ensures.order ∙ ap packed_order c.self.view_is

pub invariant_of-self : goal.invariant_of-self
invariant_of-self c =
    let slots : Slots = packed_slots c.self.inside.store in
    let was =
    subst (λ (p : Packed). (x : ℕ) → c.args.first ≤ x → x < c.args.first + c.args.count → packed_slots p x ≡ Some empty_entry) (sym c.self.view_is)
    c.requires.empty
    in
    subst (λ (s : Slots). IsIndexed s c.self.inside.handlers c.self.inside.named) (sym c.close_range.ensures.slots) (record {
      counted = counted-closed slots c.self.inside.handlers c.args.first c.args.count was c.self.invariant.counted;
      known = named-closed slots c.self.inside.named c.args.first c.args.count was c.self.invariant.known;
    })
