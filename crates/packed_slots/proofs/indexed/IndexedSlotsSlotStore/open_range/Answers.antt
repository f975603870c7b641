-- No capability changes.
use Rattle.std.proofs.Common.{ℕ, ◌≡◌, ◌∙◌, ◌+◌, ◌<◌, ◌≤◌, None, sym, ap, subst}
use Rattle.model.specs.Capabilities.Slots.{Slots, opened}
use Rattle.packed_slots.specs.Indexing.{IsIndexed}
use Rattle.packed_slots.specs.Packing.{Packed, packed_order, packed_slots}
use Rattle.packed_slots.proofs.Counting.{counted-opened}
use Rattle.packed_slots.proofs.NamedChanges.{named-opened}
use Rattle.packed_slots.proofs.indexed.IndexedSlotsSlotStore.open_range.Goals as goal

pub open_range-requires-clause-closed : goal.open_range-requires-clause-closed
open_range-requires-clause-closed c =
    subst (λ (p : Packed). (x : ℕ) → c.args.first ≤ x → x < c.args.first + c.args.count → packed_slots p x ≡ None) (sym c.self.view_is) c.requires.closed

pub returns-clause-slots : goal.returns-clause-slots
returns-clause-slots c = c.open_range.ensures.slots ∙ ap (λ (p : Packed). opened (packed_slots p) c.args.first c.args.count) c.self.view_is

pub returns-clause-order : goal.returns-clause-order
returns-clause-order c = c.open_range.ensures.order ∙ ap packed_order c.self.view_is

pub invariant_of-self : goal.invariant_of-self
invariant_of-self c =
    let slots : Slots = packed_slots c.self.inside.store in
    let was =
    subst (λ (p : Packed). (x : ℕ) → c.args.first ≤ x → x < c.args.first + c.args.count → packed_slots p x ≡ None) (sym c.self.view_is) c.requires.closed
    in
    subst (λ (s : Slots). IsIndexed s c.self.inside.handlers c.self.inside.named) (sym c.open_range.ensures.slots) (record {
      counted = counted-opened slots c.self.inside.handlers c.args.first c.args.count was c.self.invariant.counted;
      known = named-opened slots c.self.inside.named c.args.first c.args.count was c.self.invariant.known;
    })
