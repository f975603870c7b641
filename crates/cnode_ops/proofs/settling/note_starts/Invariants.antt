-- The blocks that were passed have their starts, and the others what they had.
use Rattle.std.proofs.Common.{ℕ, ◌≡◌, ◌*◌, ◌/◌, ◌&&◌, nat_le, nat_lt, if◌then◌else◌, max, min, slice_index}
use Rattle.cnode_ops.proofs.settling.note_starts.Given as goal

abbrev pub invariant-touched : goal.invariant-touched
invariant-touched l = (k : ℕ) → slice_index l.starts k
    ≡ (if nat_le (l.first / 16384) k && nat_lt k l.block then min (slice_index l.initial.starts k) (max l.first (16384 * k)) else
    slice_index l.initial.starts k)
