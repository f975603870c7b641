-- No slot so far is one that the thread may not have.
use Rattle.std.proofs.Common.{◌≡◌, [], drop}
use Rattle.std.specs.List.{list_any}
use Rattle.typestate.specs.Strays.{is_stray_in}
use Rattle.typestate.proofs.spaces.Space.lists_stray.Given as goal

abbrev pub invariant-loop-slot : goal.invariant-loop-slot
invariant-loop-slot l = list_any (is_stray_in l.self []) (drop l.slot-index l.listed) ≡ list_any (is_stray_in l.self []) l.fn.listed
