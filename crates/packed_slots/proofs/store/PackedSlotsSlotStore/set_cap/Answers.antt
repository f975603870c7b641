-- The list of full slots stays.
use Rattle.std.proofs.Common.{ℕ, ◌≡◌, ◌∙◌, List, sym, ap, subst}
use Rattle.model.specs.Capabilities.CapabilityKinds.{object_of}
use Rattle.model.specs.Capabilities.Slots.{IsFull, SameOutside, recapped}
use Rattle.packed_slots.specs.Packing.{IsChanged, Packed, packed_order, packed_slots, packing}
use Rattle.packed_slots.proofs.Changing.{full-open, inside, recapped_in}
use Rattle.slots.specs.Kin.{object_at}
use Rattle.packed_slots.proofs.store.PackedSlotsSlotStore.set_cap.Goals as goal

pub put_capability-requires-clause-inside : goal.put_capability-requires-clause-inside
put_capability-requires-clause-inside c =
    let p : Packed = packing c.self.inside.memory c.self.inside.open_slots c.self.inside.first in
    inside p c.args.slot c.self.invariant
    (full-open p c.args.slot (subst (λ (q : Packed). IsFull (packed_slots q) c.args.slot) (sym c.self.view_is) c.requires.full))

pub put_capability-requires-clause-valid : goal.put_capability-requires-clause-valid
put_capability-requires-clause-valid c = c.requires.valid

pub invariant_of-self : goal.invariant_of-self
invariant_of-self c =
    let p : Packed = packing c.self.inside.memory c.self.inside.open_slots c.self.inside.first in
    let full = subst (λ (q : Packed). IsFull (packed_slots q) c.args.slot) (sym c.self.view_is) c.requires.full in
    let alike = subst (λ (q : Packed). object_of c.args.capability ≡ object_at (packed_slots q) c.args.slot) (sym c.self.view_is) c.requires.alike in
    let both = recapped_in p c.args.slot c.args.capability c.self.invariant full c.requires.valid c.requires.some alike
    c.put_capability.ensures.head c.put_capability.ensures.tail in
    let changed = subst (λ (m : List ℕ). IsChanged p (packing m p.open_slots p.first) (recapped (packed_slots p) c.args.slot c.args.capability))
    (sym c.put_capability.ensures.bytes) both.0 in
    changed.packed

pub returns-clause-slots : goal.returns-clause-slots
returns-clause-slots c =
    let p : Packed = packing c.self.inside.memory c.self.inside.open_slots c.self.inside.first in
    let full = subst (λ (q : Packed). IsFull (packed_slots q) c.args.slot) (sym c.self.view_is) c.requires.full in
    let alike = subst (λ (q : Packed). object_of c.args.capability ≡ object_at (packed_slots q) c.args.slot) (sym c.self.view_is) c.requires.alike in
    let both = recapped_in p c.args.slot c.args.capability c.self.invariant full c.requires.valid c.requires.some alike
    c.put_capability.ensures.head c.put_capability.ensures.tail in
    let changed = subst (λ (m : List ℕ). IsChanged p (packing m p.open_slots p.first) (recapped (packed_slots p) c.args.slot c.args.capability))
    (sym c.put_capability.ensures.bytes) both.0 in
    changed.holds ∙ ap (λ (q : Packed). recapped (packed_slots q) c.args.slot c.args.capability) c.self.view_is

pub returns-clause-bytes : goal.returns-clause-bytes
returns-clause-bytes c =
    let p : Packed = packing c.self.inside.memory c.self.inside.open_slots c.self.inside.first in
    let full = subst (λ (q : Packed). IsFull (packed_slots q) c.args.slot) (sym c.self.view_is) c.requires.full in
    let alike = subst (λ (q : Packed). object_of c.args.capability ≡ object_at (packed_slots q) c.args.slot) (sym c.self.view_is) c.requires.alike in
    let both = recapped_in p c.args.slot c.args.capability c.self.invariant full c.requires.valid c.requires.some alike
    c.put_capability.ensures.head c.put_capability.ensures.tail in
    let changed = subst (λ (m : List ℕ). IsChanged p (packing m p.open_slots p.first) (recapped (packed_slots p) c.args.slot c.args.capability))
    (sym c.put_capability.ensures.bytes) both.0 in
    subst (λ (q : Packed). SameOutside (packed_slots q) q.memory c.put_capability.new.memory) c.self.view_is changed.bytes

pub returns-clause-order : goal.returns-clause-order
returns-clause-order c =
    let p : Packed = packing c.self.inside.memory c.self.inside.open_slots c.self.inside.first in
    let full = subst (λ (q : Packed). IsFull (packed_slots q) c.args.slot) (sym c.self.view_is) c.requires.full in
    let alike = subst (λ (q : Packed). object_of c.args.capability ≡ object_at (packed_slots q) c.args.slot) (sym c.self.view_is) c.requires.alike in
    let both = recapped_in p c.args.slot c.args.capability c.self.invariant full c.requires.valid c.requires.some alike
    c.put_capability.ensures.head c.put_capability.ensures.tail in
    let changed = subst (λ (m : List ℕ). IsChanged p (packing m p.open_slots p.first) (recapped (packed_slots p) c.args.slot c.args.capability))
    (sym c.put_capability.ensures.bytes) both.0 in
    ap (λ m. packed_order (packing m p.open_slots p.first)) c.put_capability.ensures.bytes ∙ both.1 ∙ ap packed_order c.self.view_is
