-- None so far is there.
use Rattle.std.proofs.Common.{◌≡◌, drop}
use Rattle.std.specs.List.{find}
use Rattle.typestate.specs.Strays.{is_at}
use Rattle.typestate.proofs.windows.window_at.Given as goal

abbrev pub invariant-loop-window : goal.invariant-loop-window
invariant-loop-window l = find (is_at l.offset l.radix) (drop l.window-index l.windows) ≡ find (is_at l.offset l.radix) l.fn.windows
