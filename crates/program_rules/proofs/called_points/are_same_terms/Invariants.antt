-- The terms so far are the same.
use Rattle.std.proofs.Common.{◌≡◌, take}
use Rattle.program_rules.proofs.called_points.are_same_terms.Given as goal

abbrev pub invariant-loop-i : goal.invariant-loop-i
invariant-loop-i l = take l.i l.fn.one ≡ take l.i l.fn.other
