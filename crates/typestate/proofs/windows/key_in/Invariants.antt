-- The slot stands in none of the CNodes so far.
use Rattle.std.proofs.Common.{◌≡◌, drop}
use Rattle.typestate.specs.Spaces.{key_in}
use Rattle.typestate.proofs.windows.key_in.Given as goal

abbrev pub invariant-loop-window : goal.invariant-loop-window
invariant-loop-window l = key_in (drop l.window-index l.windows) l.slot ≡ key_in l.fn.windows l.slot
