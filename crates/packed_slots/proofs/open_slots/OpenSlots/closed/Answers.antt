-- Words of zeros have no bit.
use Rattle.std.proofs.Common.{rules, ◌≡◌, replicate}
use Rattle.packed_slots.proofs.BitLists.{bits-new}
use Rattle.packed_slots.proofs.open_slots.OpenSlots.closed.Goals as goal

pub returns : goal.returns
returns c =
    let zeros : c.resize.new.self.items ≡ replicate c.div_ceil.result 0 = search rules in
    bits-new c.resize.new.self.items c.div_ceil.result c.args.count zeros
