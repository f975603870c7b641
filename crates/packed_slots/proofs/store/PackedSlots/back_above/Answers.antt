-- The store is what its parts are.
use Rattle.std.proofs.Common.{◌∙◌, length, ap}
use Rattle.packed_slots.specs.Packing.{Packed}
use Rattle.packed_slots.specs.Words.{words_in}
use Rattle.slots.specs.preorder.Chains.{back_above}
use Rattle.packed_slots.proofs.store.PackedSlots.back_above.Goals as goal

pub returns : goal.returns
returns c =
    let w = words_in c.self.inside.memory in
    c.back_above.ensures ∙ ap (λ n. back_above w.previous w.depth n c.args.limit c.args.last) c.len.ensures.value
    ∙ ap (λ (p : Packed). back_above (words_in p.memory).previous (words_in p.memory).depth (length p.open_slots) c.args.limit c.args.last) c.self.view_is
