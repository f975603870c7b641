-- The others so far.
use Rattle.std.proofs.Common.{◌≡◌, take}
use Rattle.std.specs.List.{flat_map}
use Rattle.typestate.specs.Descents.{if_other}
use Rattle.typestate.proofs.levels.others.Given as goal

abbrev pub invariant-loop-slot : goal.invariant-loop-slot
invariant-loop-slot l = l.others.items ≡ flat_map (if_other l.key) (take l.slot-index l.slots)
