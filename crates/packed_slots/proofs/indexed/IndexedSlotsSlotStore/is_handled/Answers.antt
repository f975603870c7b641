-- As many slots hold a handler as are counted.
use Rattle.std.proofs.Common.{◌∙◌, ◌/◌, length, ap}
use Rattle.packed_slots.specs.Packing.{Packed, packed_slots}
use Rattle.slots.specs.Listed.{is_handled}
use Rattle.packed_slots.proofs.Counting.{handled-counted}
use Rattle.packed_slots.proofs.indexed.IndexedSlotsSlotStore.is_handled.Goals as goal

pub returns : goal.returns
returns c =
    handled-counted (packed_slots c.self.inside.store) c.self.inside.handlers c.args.line c.count-count.result (length c.self.inside.store.memory)
    c.count.result c.requires
    c.self.invariant.counted c.count-count.ensures.value c.count-count.ensures.most c.count-count.ensures.near c.count.ensures
    ∙ ap (λ (p : Packed). is_handled (packed_slots p) (length p.memory / 16) c.args.line) c.self.view_is
