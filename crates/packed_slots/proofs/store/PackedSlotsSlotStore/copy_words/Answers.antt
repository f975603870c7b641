-- No open slot is touched.
use Rattle.std.proofs.Common.{◌∙◌, ◌+◌, ◌*◌, ◌≤◌, length, ap, sym, subst}
use Rattle.std.specs.Prelude.{max}
use Rattle.model.specs.Capabilities.Slots.{OutsideSlots}
use Rattle.packed_slots.specs.Packing.{Packed, packed_order, packed_slots, packing}
use Rattle.packed_slots.proofs.Reading.{copied-kept}
use Rattle.packed_slots.proofs.store.PackedSlotsSlotStore.copy_words.Goals as goal

pub invariant_of-self : goal.invariant_of-self
invariant_of-self c =
    let p : Packed = packing c.self.inside.memory c.self.inside.open_slots c.self.inside.first in
    let within = subst (λ (q : Packed). max c.args.source c.args.target + 4 * c.args.count ≤ length q.memory) (sym c.self.view_is) c.requires.within in
    let outside = subst (λ (q : Packed). OutsideSlots (packed_slots q) c.args.target (4 * c.args.count)) (sym c.self.view_is) c.requires.outside in
    let kept = copied-kept p c.args.source c.args.target (4 * c.args.count) c.copy_words.new.self c.self.invariant within outside c.copy_words.ensures in
    kept.packed

pub returns-clause-slots : goal.returns-clause-slots
returns-clause-slots c =
    let p : Packed = packing c.self.inside.memory c.self.inside.open_slots c.self.inside.first in
    let within = subst (λ (q : Packed). max c.args.source c.args.target + 4 * c.args.count ≤ length q.memory) (sym c.self.view_is) c.requires.within in
    let outside = subst (λ (q : Packed). OutsideSlots (packed_slots q) c.args.target (4 * c.args.count)) (sym c.self.view_is) c.requires.outside in
    let kept = copied-kept p c.args.source c.args.target (4 * c.args.count) c.copy_words.new.self c.self.invariant within outside c.copy_words.ensures in
    kept.holds ∙ ap packed_slots c.self.view_is

pub returns-clause-order : goal.returns-clause-order
returns-clause-order c =
    let p : Packed = packing c.self.inside.memory c.self.inside.open_slots c.self.inside.first in
    let within = subst (λ (q : Packed). max c.args.source c.args.target + 4 * c.args.count ≤ length q.memory) (sym c.self.view_is) c.requires.within in
    let outside = subst (λ (q : Packed). OutsideSlots (packed_slots q) c.args.target (4 * c.args.count)) (sym c.self.view_is) c.requires.outside in
    let kept = copied-kept p c.args.source c.args.target (4 * c.args.count) c.copy_words.new.self c.self.invariant within outside c.copy_words.ensures in
    kept.order ∙ ap packed_order c.self.view_is
