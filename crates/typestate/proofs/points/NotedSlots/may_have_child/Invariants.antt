-- So many slots stand above, and those above the slot at hand.
use Rattle.std.proofs.Common.{◌≡◌, ◌+◌, ◌-◌}
use Rattle.typestate.specs.Differences.{slots_of}
use Rattle.typestate.specs.SlotChanges.{noted_depth}
use Rattle.typestate.proofs.points.NotedSlots.may_have_child.Given as goal

abbrev pub invariant-loop-above : goal.invariant-loop-above
invariant-loop-above l = noted_depth 256 (slots_of l.self) l.fn.key ≡ l.above + noted_depth (256 - l.above) (slots_of l.self) l.place
