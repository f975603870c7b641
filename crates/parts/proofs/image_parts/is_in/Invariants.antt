-- None of those so far has it.
use Rattle.std.proofs.Common.{◌≡◌, ◌==◌, ◌&&◌, false, take}
use Rattle.std.specs.Int.{bit_at}
use Rattle.std.specs.List.{list_any}
use Rattle.parts.proofs.image_parts.is_in.Given as goal

abbrev pub invariant-loop-uses : goal.invariant-loop-uses
invariant-loop-uses l = list_any (λ u. bit_at l.fn.threads u.number == 1 && u.tcb == l.fn.tcb) (take l.uses-index l.all) ≡ false
