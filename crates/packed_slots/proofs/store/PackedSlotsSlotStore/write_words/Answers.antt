-- No open slot is touched.
use Rattle.std.proofs.Common.{ℕ, ◌≡◌, ◌∙◌, ◌+◌, ◌*◌, ◌≤◌, length, ap, sym, subst}
use Rattle.model.specs.Capabilities.Slots.{OutsideSlots}
use Rattle.packed_slots.specs.Packing.{Packed, packed_order, packed_slots, packing}
use Rattle.packed_slots.proofs.Reading.{written-kept}
use Rattle.pmem.proofs.Laws.{length-words_bytes}
use Rattle.pmem.specs.Words.{words_bytes}
use Rattle.packed_slots.proofs.store.PackedSlotsSlotStore.write_words.Goals as goal

pub invariant_of-self : goal.invariant_of-self
invariant_of-self c =
    let p : Packed = packing c.self.inside.memory c.self.inside.open_slots c.self.inside.first in
    let piece = words_bytes c.args.words.now in
    let size : length piece ≡ 4 * length c.args.words.now = length-words_bytes c.args.words.now in
    let within = subst (λ (q : Packed). c.args.offset + 4 * length c.args.words.now ≤ length q.memory) (sym c.self.view_is) c.requires.within in
    let outside = subst (λ (q : Packed). OutsideSlots (packed_slots q) c.args.offset (4 * length c.args.words.now)) (sym c.self.view_is) c.requires.outside in
    let kept = written-kept p c.args.offset piece c.write_words.new.self c.self.invariant
    (subst (λ (n : ℕ). c.args.offset + n ≤ length p.memory) (sym size) within)
    (subst (λ (n : ℕ). OutsideSlots (packed_slots p) c.args.offset n) (sym size) outside) c.write_words.ensures in
    kept.packed

pub returns-clause-slots : goal.returns-clause-slots
returns-clause-slots c =
    let p : Packed = packing c.self.inside.memory c.self.inside.open_slots c.self.inside.first in
    let piece = words_bytes c.args.words.now in
    let size : length piece ≡ 4 * length c.args.words.now = length-words_bytes c.args.words.now in
    let within = subst (λ (q : Packed). c.args.offset + 4 * length c.args.words.now ≤ length q.memory) (sym c.self.view_is) c.requires.within in
    let outside = subst (λ (q : Packed). OutsideSlots (packed_slots q) c.args.offset (4 * length c.args.words.now)) (sym c.self.view_is) c.requires.outside in
    let kept = written-kept p c.args.offset piece c.write_words.new.self c.self.invariant
    (subst (λ (n : ℕ). c.args.offset + n ≤ length p.memory) (sym size) within)
    (subst (λ (n : ℕ). OutsideSlots (packed_slots p) c.args.offset n) (sym size) outside) c.write_words.ensures in
    kept.holds ∙ ap packed_slots c.self.view_is

pub returns-clause-order : goal.returns-clause-order
returns-clause-order c =
    let p : Packed = packing c.self.inside.memory c.self.inside.open_slots c.self.inside.first in
    let piece = words_bytes c.args.words.now in
    let size : length piece ≡ 4 * length c.args.words.now = length-words_bytes c.args.words.now in
    let within = subst (λ (q : Packed). c.args.offset + 4 * length c.args.words.now ≤ length q.memory) (sym c.self.view_is) c.requires.within in
    let outside = subst (λ (q : Packed). OutsideSlots (packed_slots q) c.args.offset (4 * length c.args.words.now)) (sym c.self.view_is) c.requires.outside in
    let kept = written-kept p c.args.offset piece c.write_words.new.self c.self.invariant
    (subst (λ (n : ℕ). c.args.offset + n ≤ length p.memory) (sym size) within)
    (subst (λ (n : ℕ). OutsideSlots (packed_slots p) c.args.offset n) (sym size) outside) c.write_words.ensures in
    kept.order ∙ ap packed_order c.self.view_is
