-- The bits that were passed have the value, and the others what they had.
use Rattle.std.proofs.Common.{ℕ, ◌≡◌, ◌-◌, if◌then◌else◌}
use Rattle.model.specs.Capabilities.Slots.{is_within}
use Rattle.packed_slots.specs.Bits.{is_bit}
use Rattle.packed_slots.proofs.open_slots.set_range.Given as goal

abbrev pub invariant-range : goal.invariant-range
invariant-range l = (s : ℕ) → is_bit l.words s ≡ (if is_within l.first (l.place - l.first) s then l.value else is_bit l.initial.words s)
