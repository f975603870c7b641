-- No slot so far is noted in its block.
use Rattle.std.proofs.Common.{ℕ, ◌*◌, ◌<◌, ◌≤◌}
use Rattle.cnode_ops.specs.Unsettled.{start_at}
use Rattle.cnode_ops.proofs.settling.next_noted.Given as goal

abbrev pub invariant-later : goal.invariant-later
invariant-later l = (slot : ℕ) → l.at ≤ slot → slot < 16384 * l.block → slot < start_at l.starts slot
