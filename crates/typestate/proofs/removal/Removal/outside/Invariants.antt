-- The slot at hand leads to the same one in the steps that are left.
use Rattle.std.proofs.Common.{◌≡◌, ◌-◌}
use Rattle.typestate.specs.Differences.{slots_of}
use Rattle.typestate.specs.SlotChanges.{is_removed, noted_outside}
use Rattle.typestate.proofs.removal.Removal.outside.Given as goal

abbrev pub invariant-loop : goal.invariant-loop
invariant-loop l =
    noted_outside 256 (is_removed (slots_of l.self.slots) l.self.which) (slots_of l.self.slots) l.fn.first ≡ noted_outside (256 - l.counter)
    (is_removed (slots_of l.self.slots) l.self.which) (slots_of l.self.slots) l.parent
