-- The slots so far are emptied.
use Rattle.std.proofs.Common.{◌≡◌, ◌++◌, take}
use Rattle.std.specs.List.{flat_map}
use Rattle.typestate.specs.Removals.{emptied_by}
use Rattle.typestate.proofs.removal.Removal.note_emptied.Given as goal

abbrev pub invariant-loop-change : goal.invariant-loop-change
invariant-loop-change l = l.made.items ≡ l.fn.made.items ++ flat_map emptied_by (take l.change-index l.fn.self.below.now)
