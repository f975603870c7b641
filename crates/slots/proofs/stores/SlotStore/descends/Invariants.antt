-- What is left of the test from here is the whole test.
use Rattle.std.proofs.Common.{◌≡◌, ◌-◌}
use Rattle.model.specs.Capabilities.Slots.{IsOpen, parent_at}
use Rattle.model.specs.Capabilities.Slots.{descends_within, is_descendant}
use Rattle.slots.proofs.stores.SlotStore.descends.Given as goal

abbrev pub invariant-up : goal.invariant-up
invariant-up g l =
    let slots = g.Self.SlotMap.slots l.self in
    record {
      here_open : IsOpen slots l.here;
      rest : descends_within (l.depth - l._step) (parent_at slots) l.root l.here ≡ is_descendant slots l.root l.fn.slot;
    }
