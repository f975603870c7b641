-- What is seen of a thread.
use Rattle.std.specs.Prelude.{ℕ, ◌==◌, nat_le, if◌then◌else◌, Option, Some, None, option_and_then, slice_index}
use Rattle.model.specs.Kernel.State.{State, ThreadState, as_thread}

-- a register as a debugger counts them: x0 to x31, of which x0 is 0, and the program counter after them
abbrev pub register_of : ThreadState → ℕ → Option ℕ
register_of t number =
    if number == 0 then Some 0
    else if number == 32 then Some t.registers.pc
    else if nat_le number 31 then Some (slice_index t.registers.words number) else None

-- that of the thread at an offset, if there is one
abbrev pub register_seen : State → ℕ → ℕ → Option ℕ
register_seen s thread number = option_and_then (λ t. register_of t number) (as_thread (s.objects thread))
