-- The highest priority of the words that are left is the highest of all.
use Rattle.std.proofs.Common.{ℕ, ◌*◌, ◌≤◌, Option}
use Rattle.queues.specs.Ready.{IsHighest}
use Rattle.queues.proofs.ready.highest.Given as goal

abbrev pub invariant-words : goal.invariant-words
invariant-words l = record {
  few : l.number ≤ 4;
  left : (below : Option ℕ) → IsHighest (64 * l.number) l.fn.marks below → IsHighest 256 l.fn.marks below;
}

abbrev pub decreases-words : goal.decreases-words
decreases-words l = l.number
