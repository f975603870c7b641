-- Whoever is said to keep a line so far does.
use Rattle.std.proofs.Common.{◌≡◌, length}
use Rattle.responses.proofs.keepers.keepers_of.Given as goal
use Rattle.responses.specs.Keepers.{AreKeepers}

abbrev pub invariant-loop-line : goal.invariant-loop-line
invariant-loop-line l = record {
  long : length l.keepers.items ≡ l.line;
  kept : AreKeepers l.programs l.bells l.keepers.items;
}
