-- The list of full slots stays.
use Rattle.std.proofs.Common.{ℕ, ◌≡◌, ◌∙◌, ◌+◌, ◌*◌, ◌≤◌, None, List, length, sym, ap, subst, arith}
use Rattle.model.proofs.SlotChanges.{within-bounds}
use Rattle.model.specs.Capabilities.Slots.{SameOutside, opened}
use Rattle.packed_slots.specs.Packing.{IsPacked, Packed, packed_order, packed_slots, packing}
use Rattle.packed_slots.proofs.Changing.{opened_in}
use Rattle.packed_slots.proofs.store.PackedSlotsSlotStore.open_range.Goals as goal

pub blank-requires : goal.blank-requires
blank-requires c = subst (λ (q : Packed). 16 * (c.args.first + c.args.count) ≤ length q.memory) (sym c.self.view_is) c.requires.within

pub set-requires : goal.set-requires
set-requires c =
    let within = subst (λ (q : Packed). 16 * (c.args.first + c.args.count) ≤ length q.memory) (sym c.self.view_is) c.requires.within in
    omega (arith, within, c.self.invariant.long)

pub invariant_of-self : goal.invariant_of-self
invariant_of-self c =
    let p : Packed = packing c.self.inside.memory c.self.inside.open_slots c.self.inside.first in
    let within = subst (λ (q : Packed). 16 * (c.args.first + c.args.count) ≤ length q.memory) (sym c.self.view_is) c.requires.within in
    let all = opened_in p c.set.new.self c.args.first c.args.count c.self.invariant within
    (λ s is. let bounds = within-bounds c.args.first c.args.count s is in
    subst (λ (q : Packed). packed_slots q s ≡ None) (sym c.self.view_is) (c.requires.closed s bounds.0 bounds.1))
    c.set.ensures.size c.set.ensures.each in
    subst (λ (m : List ℕ). IsPacked (packing m c.set.new.self p.first)) (sym c.blank.ensures.bytes) all.0

pub returns-clause-slots : goal.returns-clause-slots
returns-clause-slots c =
    let p : Packed = packing c.self.inside.memory c.self.inside.open_slots c.self.inside.first in
    let within = subst (λ (q : Packed). 16 * (c.args.first + c.args.count) ≤ length q.memory) (sym c.self.view_is) c.requires.within in
    let all = opened_in p c.set.new.self c.args.first c.args.count c.self.invariant within
    (λ s is. let bounds = within-bounds c.args.first c.args.count s is in
    subst (λ (q : Packed). packed_slots q s ≡ None) (sym c.self.view_is) (c.requires.closed s bounds.0 bounds.1))
    c.set.ensures.size c.set.ensures.each in
    ap (λ m. packed_slots (packing m c.set.new.self p.first)) c.blank.ensures.bytes ∙ all.1
    ∙ ap (λ (q : Packed). opened (packed_slots q) c.args.first c.args.count) c.self.view_is

pub returns-clause-bytes : goal.returns-clause-bytes
returns-clause-bytes c =
    let p : Packed = packing c.self.inside.memory c.self.inside.open_slots c.self.inside.first in
    let within = subst (λ (q : Packed). 16 * (c.args.first + c.args.count) ≤ length q.memory) (sym c.self.view_is) c.requires.within in
    let all = opened_in p c.set.new.self c.args.first c.args.count c.self.invariant within
    (λ s is. let bounds = within-bounds c.args.first c.args.count s is in
    subst (λ (q : Packed). packed_slots q s ≡ None) (sym c.self.view_is) (c.requires.closed s bounds.0 bounds.1))
    c.set.ensures.size c.set.ensures.each in
    let now = subst (λ (m : List ℕ). SameOutside (packed_slots (packing m c.set.new.self p.first)) p.memory m) (sym c.blank.ensures.bytes) all.2 in
    subst (λ (q : Packed). SameOutside (packed_slots (packing c.blank.new.memory c.set.new.self p.first)) q.memory c.blank.new.memory) c.self.view_is now

pub returns-clause-order : goal.returns-clause-order
returns-clause-order c =
    let p : Packed = packing c.self.inside.memory c.self.inside.open_slots c.self.inside.first in
    let within = subst (λ (q : Packed). 16 * (c.args.first + c.args.count) ≤ length q.memory) (sym c.self.view_is) c.requires.within in
    let all = opened_in p c.set.new.self c.args.first c.args.count c.self.invariant within
    (λ s is. let bounds = within-bounds c.args.first c.args.count s is in
    subst (λ (q : Packed). packed_slots q s ≡ None) (sym c.self.view_is) (c.requires.closed s bounds.0 bounds.1))
    c.set.ensures.size c.set.ensures.each in
    ap (λ m. packed_order (packing m c.set.new.self p.first)) c.blank.ensures.bytes ∙ all.3 ∙ ap packed_order c.self.view_is
