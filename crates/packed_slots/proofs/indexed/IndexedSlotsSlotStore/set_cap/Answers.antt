-- A slot holds another capability that names the same object.
use Rattle.std.proofs.Common.{◌≡◌, ◌∙◌, sym, ap, subst, arith}
use Rattle.model.specs.Capabilities.CapabilityKinds.{object_of}
use Rattle.model.specs.Capabilities.Slots.{IsFull, SameOutside, Slots, recapped}
use Rattle.slots.specs.Kin.{object_at}
use Rattle.packed_slots.specs.Indexing.{IsIndexed}
use Rattle.packed_slots.specs.Packing.{Packed, packed_order, packed_slots}
use Rattle.packed_slots.proofs.Counting.{counted-recapped, counts-few, held-counted}
use Rattle.packed_slots.proofs.NamedChanges.{named-recapped}
use Rattle.packed_slots.proofs.indexed.IndexedSlotsSlotStore.set_cap.Goals as goal

pub take-requires-clause-held : goal.take-requires-clause-held
take-requires-clause-held c =
    held-counted (packed_slots c.self.inside.store) c.self.inside.handlers c.args.slot c.capability.result c.are_near.ensures.one c.capability.ensures.value
    c.self.invariant.counted

pub add-requires-clause-room : goal.add-requires-clause-room
add-requires-clause-room c = λ line few.
    omega (arith, counts-few (packed_slots c.self.inside.store) c.self.inside.handlers c.self.invariant.counted line few, c.take.ensures line few)

pub set_cap-requires-clause-full : goal.set_cap-requires-clause-full
set_cap-requires-clause-full c = subst (λ (p : Packed). IsFull (packed_slots p) c.args.slot) (sym c.self.view_is) c.requires.full

pub set_cap-requires-clause-alike : goal.set_cap-requires-clause-alike
set_cap-requires-clause-alike c = subst (λ (p : Packed). object_of c.args.capability ≡ object_at (packed_slots p) c.args.slot) (sym c.self.view_is)
    c.requires.alike

pub returns-clause-slots : goal.returns-clause-slots
returns-clause-slots c = c.set_cap.ensures.slots ∙ ap (λ (p : Packed). recapped (packed_slots p) c.args.slot c.args.capability) c.self.view_is

pub returns-clause-bytes : goal.returns-clause-bytes
returns-clause-bytes c = subst (λ (p : Packed). SameOutside (packed_slots p) p.memory c.set_cap.new.self.memory) c.self.view_is c.set_cap.ensures.bytes

pub returns-clause-order : goal.returns-clause-order
returns-clause-order c = c.set_cap.ensures.order ∙ ap packed_order c.self.view_is

pub invariant_of-self : goal.invariant_of-self
invariant_of-self c =
    let slots : Slots = packed_slots c.self.inside.store in
    let alike = subst (λ (p : Packed). object_of c.args.capability ≡ object_at (packed_slots p) c.args.slot) (sym c.self.view_is) c.requires.alike in
    subst (λ (s : Slots). IsIndexed s c.add.new.self c.self.inside.named) (sym c.set_cap.ensures.slots) (record {
      counted = counted-recapped slots c.self.inside.handlers c.take.new.self c.add.new.self c.args.slot c.capability.result c.args.capability
          c.are_near.ensures.one c.capability.ensures.value
          c.take.ensures c.add.ensures c.self.invariant.counted;
      known = named-recapped slots c.self.inside.named c.args.slot c.args.capability alike c.self.invariant.known;
    })
