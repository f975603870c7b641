-- What is left to lower, with what is lowered, is all.
use Rattle.std.proofs.Common.{◌≡◌, ◌-◌, ◌≤◌, length}
use Rattle.packed_slots.specs.Words.{lowered_memory}
use Rattle.packed_slots.proofs.links.lower.Given as goal

abbrev pub invariant-run : goal.invariant-run
invariant-run l =
    (length l.memory ≡ length l.initial.memory) × (l._step ≤ l.count)
    × (lowered_memory l.root_depth (l.count - l._step) l.at l.memory ≡ lowered_memory l.root_depth l.count l.fn.first l.initial.memory)
