-- There are as many ranges as registers.
use Rattle.std.proofs.Common.{◌≡◌, length}
use Rattle.answering.proofs.known.AllRanges.joined.Given as goal

abbrev pub invariant-registers : goal.invariant-registers
invariant-registers l = length l.bounds ≡ 31
