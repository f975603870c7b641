-- The store is what its parts are, and no slot after them is open.
use Rattle.std.proofs.Common.{◌∙◌, ◌*◌, ◌<◌, length, sym, ap, subst}
use Rattle.packed_slots.specs.Packing.{Packed}
use Rattle.packed_slots.proofs.PackedFacts.{open-near}
use Rattle.packed_slots.proofs.Reading.{some-open}
use Rattle.packed_slots.proofs.store.PackedSlotsSlotStore.count.Goals as goal

pub returns-clause-value : goal.returns-clause-value
returns-clause-value c = ap (λ n. 16 * n) c.len.ensures.value ∙ c.self.invariant.long ∙ ap (λ (p : Packed). length p.memory) c.self.view_is

pub returns-clause-most : goal.returns-clause-most
returns-clause-most c = c.len.ensures.most

pub returns-clause-near : goal.returns-clause-near
returns-clause-near c = λ s opened.
    subst (λ n. s < n) (sym (c.len.ensures.value ∙ ap (λ (p : Packed). length p.open_slots) c.self.view_is))
    (open-near c.args.self.now.open_slots s (some-open c.args.self.now s opened))
