-- Sets of interrupt lines, one bit a line; the lines whose handlers a removal takes.
-- seL4 Reference Manual, "Hardware I/O".
use Rattle.std.specs.Prelude.{ℕ, ◌≡◌, ◌==◌, ◌/◌, ◌%◌, ◌^◌, ◌<◌, ◌||◌, Bool}
use Rattle.std.specs.Int.{bit_at}
use Rattle.cnode_ops.specs.declared.lines.LineSet.{LineSet}
use Rattle.model.specs.Kernel.State.{State}
use Rattle.slots.specs.Listed.{is_handled}

abbrev pub has_line : LineSet → ℕ → Bool
has_line lines line = bit_at lines.bits (line % 64) == 1

-- whether some slot holds a handler of a line
abbrev pub handles : State → ℕ → Bool
handles s line = is_handled s.slots (2 ^ s.memory_bits / 16) line

-- of each line some slot held a handler where one does still, or where it is one of these
abbrev pub LinesGone : State → State → LineSet → Type 0
LinesGone s t gone = (line : ℕ) → line < 64 → (handles t line || has_line gone line) ≡ handles s line
