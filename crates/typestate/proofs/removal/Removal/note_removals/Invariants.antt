-- What the changes so far tell was appended.
use Rattle.std.proofs.Common.{◌≡◌, ◌++◌, take}
use Rattle.std.specs.List.{flat_map}
use Rattle.typestate.specs.ChangeLists.{removal_change, told_of}
use Rattle.typestate.specs.Differences.{slots_of}
use Rattle.typestate.specs.SlotChanges.{is_removed}
use Rattle.typestate.proofs.removal.Removal.note_removals.Given as goal

abbrev pub invariant-loop-change : goal.invariant-loop-change
invariant-loop-change l = l.made.items ≡ l.fn.made.items
    ++ flat_map (told_of (removal_change (is_removed (slots_of l.self.slots) l.self.which) (slots_of l.self.slots))) (take l.change-index l.fn.self.touched.now)
