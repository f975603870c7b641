-- The store is what its parts are.
use Rattle.std.proofs.Common.{◌∙◌, ap, subst}
use Rattle.packed_slots.specs.Packing.{IsPacked, Packed}
use Rattle.packed_slots.specs.Words.{words_in}
use Rattle.packed_slots.proofs.store.PackedSlots.linked_before.Goals as goal

pub returns-clause-value : goal.returns-clause-value
returns-clause-value c = c.previous.ensures ∙ ap (λ (p : Packed). (words_in p.memory).previous c.args.slot) c.self.view_is

pub returns-clause-packed : goal.returns-clause-packed
returns-clause-packed c = subst IsPacked c.self.view_is c.self.invariant
