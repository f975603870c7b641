-- A slot less holds a capability, and another one is known in its place.
use Rattle.std.proofs.Common.{◌∙◌, sym, ap, subst}
use Rattle.model.specs.Capabilities.Slots.{IsDerivation, IsFull, SameOutside, Slots, spliced}
use Rattle.model.specs.Shared.Lists.{without}
use Rattle.packed_slots.specs.Indexing.{IsIndexed}
use Rattle.packed_slots.specs.Packing.{Packed, packed_order, packed_slots}
use Rattle.packed_slots.proofs.Counting.{counted-spliced, held-counted}
use Rattle.packed_slots.proofs.NamedChanges.{named-spliced}
use Rattle.packed_slots.proofs.indexed.IndexedSlotsSlotStore.splice_out.Goals as goal

pub take-requires-clause-held : goal.take-requires-clause-held
take-requires-clause-held c =
    held-counted (packed_slots c.self.inside.store) c.self.inside.handlers c.args.slot c.capability-capability.result c.are_near.ensures.one
    c.capability-capability.ensures.value
    c.self.invariant.counted

pub splice_out-requires : goal.splice_out-requires
splice_out-requires c = subst (λ (p : Packed). IsFull (packed_slots p) c.args.slot) (sym c.self.view_is) c.requires

pub returns-clause-derivation : goal.returns-clause-derivation
returns-clause-derivation c = subst (λ (p : Packed). IsDerivation (packed_slots p)) c.self.view_is c.splice_out.ensures.derivation

pub returns-clause-slots : goal.returns-clause-slots
returns-clause-slots c = c.splice_out.ensures.slots ∙ ap (λ (p : Packed). spliced (packed_slots p) c.args.slot) c.self.view_is

pub returns-clause-bytes : goal.returns-clause-bytes
returns-clause-bytes c = subst (λ (p : Packed). SameOutside (packed_slots p) p.memory c.splice_out.new.self.memory) c.self.view_is c.splice_out.ensures.bytes

pub returns-clause-order : goal.returns-clause-order
returns-clause-order c = c.splice_out.ensures.order ∙ ap (λ (p : Packed). without c.args.slot (packed_order p)) c.self.view_is

pub invariant_of-self : goal.invariant_of-self
invariant_of-self c =
    let slots : Slots = packed_slots c.self.inside.store in
    let capability = c.capability-capability.result in
    subst (λ (s : Slots). IsIndexed s c.take.new.self c.replace.new.self) (sym c.splice_out.ensures.slots) (record {
      counted = counted-spliced slots c.self.inside.handlers c.take.new.self c.args.slot capability c.are_near.ensures.one c.capability-capability.ensures.value
          c.take.ensures c.self.invariant.counted;
      known = named-spliced slots c.self.inside.named c.replace.new.self c.args.slot capability c.other_alike-other.result c.capability-capability.ensures.value
          c.other_alike-other.ensures
          c.replace.ensures c.self.invariant.known;
    })
