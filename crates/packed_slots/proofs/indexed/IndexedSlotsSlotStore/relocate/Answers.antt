-- A capability moves to another slot, which is known in place of the first.
use Rattle.std.proofs.Common.{◌≡◌, ◌∙◌, Some, sym, ap, subst}
use Rattle.model.specs.Capabilities.Slots.{IsDerivation, IsFull, SameOutside, Slots, empty_entry, relocated}
use Rattle.packed_slots.specs.Indexing.{IsIndexed}
use Rattle.packed_slots.specs.Packing.{Packed, packed_slots}
use Rattle.packed_slots.proofs.Counting.{counted-relocated}
use Rattle.packed_slots.proofs.NamedChanges.{named-relocated}
use Rattle.packed_slots.proofs.indexed.IndexedSlotsSlotStore.relocate.Goals as goal

pub relocate-requires-clause-full : goal.relocate-requires-clause-full
relocate-requires-clause-full c = subst (λ (p : Packed). IsFull (packed_slots p) c.args.from) (sym c.self.view_is) c.requires.full

pub relocate-requires-clause-empty : goal.relocate-requires-clause-empty
relocate-requires-clause-empty c = subst (λ (p : Packed). packed_slots p c.args.to ≡ Some empty_entry) (sym c.self.view_is) c.requires.empty

pub returns-clause-derivation : goal.returns-clause-derivation
returns-clause-derivation c = subst (λ (p : Packed). IsDerivation (packed_slots p)) c.self.view_is c.relocate.ensures.derivation

pub returns-clause-slots : goal.returns-clause-slots
returns-clause-slots c = c.relocate.ensures.slots ∙ ap (λ (p : Packed). relocated (packed_slots p) c.args.from c.args.to) c.self.view_is

pub returns-clause-bytes : goal.returns-clause-bytes
returns-clause-bytes c = subst (λ (p : Packed). SameOutside (packed_slots p) p.memory c.relocate.new.self.memory) c.self.view_is c.relocate.ensures.bytes

pub invariant_of-self : goal.invariant_of-self
invariant_of-self c =
    let slots : Slots = packed_slots c.self.inside.store in
    let full = subst (λ (p : Packed). IsFull (packed_slots p) c.args.from) (sym c.self.view_is) c.requires.full in
    let empty = subst (λ (p : Packed). packed_slots p c.args.to ≡ Some empty_entry) (sym c.self.view_is) c.requires.empty in
    subst (λ (s : Slots). IsIndexed s c.self.inside.handlers c.replace.new.self) (sym c.relocate.ensures.slots) (record {
      counted = counted-relocated slots c.self.inside.handlers c.args.from c.args.to c.are_near.ensures.one c.are_near.ensures.other full empty
          c.self.invariant.counted;
      known = named-relocated slots c.self.inside.named c.replace.new.self c.args.from c.args.to c.capability-capability.result full empty
          c.capability-capability.ensures.value c.replace.ensures
          c.self.invariant.known;
    })
