-- The list has as many bits.
use Rattle.std.proofs.Common.{◌∙◌, length, sym, ap}
use Rattle.packed_slots.proofs.BitLists.{length-bits}
use Rattle.packed_slots.proofs.open_slots.OpenSlots.len.Goals as goal

pub returns-clause-value : goal.returns-clause-value
returns-clause-value c = sym (length-bits c.self.inside.words.items c.self.inside.count) ∙ ap length c.self.view_is
