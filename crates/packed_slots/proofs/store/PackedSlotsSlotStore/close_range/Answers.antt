-- The list of full slots stays.
use Rattle.std.proofs.Common.{◌≡◌, ◌∙◌, ◌+◌, ◌*◌, ◌≤◌, Some, length, sym, ap, subst, arith}
use Rattle.model.proofs.SlotChanges.{within-bounds}
use Rattle.model.specs.Capabilities.Slots.{SameOutside, closed, empty_entry}
use Rattle.packed_slots.specs.Packing.{Packed, packed_order, packed_slots, packing}
use Rattle.packed_slots.proofs.Changing.{closed_in}
use Rattle.packed_slots.proofs.store.PackedSlotsSlotStore.close_range.Goals as goal

pub set-requires : goal.set-requires
set-requires c =
    let within = subst (λ (q : Packed). 16 * (c.args.first + c.args.count) ≤ length q.memory) (sym c.self.view_is) c.requires.within in
    omega (arith, within, c.self.invariant.long)

pub invariant_of-self : goal.invariant_of-self
invariant_of-self c =
    let p : Packed = packing c.self.inside.memory c.self.inside.open_slots c.self.inside.first in
    let all = closed_in p c.set.new.self c.args.first c.args.count c.self.invariant
    (λ s is. let bounds = within-bounds c.args.first c.args.count s is in
    subst (λ (q : Packed). packed_slots q s ≡ Some empty_entry) (sym c.self.view_is) (c.requires.empty s bounds.0 bounds.1))
    c.set.ensures.size c.set.ensures.each in
    all.0.packed

pub returns-clause-slots : goal.returns-clause-slots
returns-clause-slots c =
    let p : Packed = packing c.self.inside.memory c.self.inside.open_slots c.self.inside.first in
    let all = closed_in p c.set.new.self c.args.first c.args.count c.self.invariant
    (λ s is. let bounds = within-bounds c.args.first c.args.count s is in
    subst (λ (q : Packed). packed_slots q s ≡ Some empty_entry) (sym c.self.view_is) (c.requires.empty s bounds.0 bounds.1))
    c.set.ensures.size c.set.ensures.each in
    all.0.holds ∙ ap (λ (q : Packed). closed (packed_slots q) c.args.first c.args.count) c.self.view_is

pub returns-clause-bytes : goal.returns-clause-bytes
returns-clause-bytes c =
    let p : Packed = packing c.self.inside.memory c.self.inside.open_slots c.self.inside.first in
    let all = closed_in p c.set.new.self c.args.first c.args.count c.self.invariant
    (λ s is. let bounds = within-bounds c.args.first c.args.count s is in
    subst (λ (q : Packed). packed_slots q s ≡ Some empty_entry) (sym c.self.view_is) (c.requires.empty s bounds.0 bounds.1))
    c.set.ensures.size c.set.ensures.each in
    subst (λ (q : Packed). SameOutside (packed_slots q) q.memory p.memory) c.self.view_is all.0.bytes

pub returns-clause-order : goal.returns-clause-order
returns-clause-order c =
    let p : Packed = packing c.self.inside.memory c.self.inside.open_slots c.self.inside.first in
    let all = closed_in p c.set.new.self c.args.first c.args.count c.self.invariant
    (λ s is. let bounds = within-bounds c.args.first c.args.count s is in
    subst (λ (q : Packed). packed_slots q s ≡ Some empty_entry) (sym c.self.view_is) (c.requires.empty s bounds.0 bounds.1))
    c.set.ensures.size c.set.ensures.each in
    all.1 ∙ ap packed_order c.self.view_is
