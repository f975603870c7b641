use Rattle.std.proofs.Common.{◌≤◌}
use Rattle.sinks.proofs.event_lines.number_of.Given as goal

abbrev pub invariant-loop-digit : goal.invariant-loop-digit
invariant-loop-digit l = l.number ≤ 1000000
