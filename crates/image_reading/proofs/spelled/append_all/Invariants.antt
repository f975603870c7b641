use Rattle.std.proofs.Common.{◌≡◌, ◌++◌, take}
use Rattle.std.specs.List.{flat_map}
use Rattle.image_reading.proofs.spelled.append_all.Given as goal

abbrev pub invariant-loop-entry : goal.invariant-loop-entry
invariant-loop-entry g l = l.bytes.items ≡ l.initial.bytes.items ++ flat_map g.E.Spelled.spelling (take l.entry-index l.entries)
