-- The empty machine, and what is put into it.
use Rattle.std.specs.Prelude.{ℕ, ◌==◌, nat_lt, if◌then◌else◌, Some, None, Result, List}
use Rattle.std.specs.Option.{option_map_or}
use Rattle.model.specs.declared.capabilities.Cap.{Cap}
use Rattle.model.specs.declared.capabilities.Cap.TheVariants.{CNode, Endpoint, Frame, Tcb}
use Rattle.model.specs.declared.errors.KError.{KError}
use Rattle.model.specs.Capabilities.Rights.{rights}
use Rattle.model.specs.Capabilities.Slots.{inserted}
use Rattle.model.specs.Kernel.Arguments.{Call}
use Rattle.model.specs.Kernel.Invocations.{configure_with_guard}
use Rattle.model.specs.Kernel.Setup.{boot_area, fill, put_untyped}
use Rattle.model.specs.Kernel.State.{State, FrameObject}

-- 2^16 bytes and 16 boot slots
abbrev pub fresh : State
fresh = boot_area 16 4

-- half of memory is untyped memory in slot 0
abbrev pub with_memory : State
with_memory = option_map_or (λ s. s) (put_untyped fresh 0 0x8000 15) fresh

-- a frame at 0x8000 is left of untyped memory that was deleted
abbrev pub frame_left : State
frame_left = record fresh {
  slots = inserted fresh.slots 1 (Frame 0x8000 (rights 3) None) None;
  objects = λ offset. if offset == 0x8000 then Some FrameObject else None;
}

-- a frame is at 0x1000, all zero
abbrev pub framed : State
framed = record fresh {
  objects = λ offset. if offset == 0x1000 then Some FrameObject else None;
  bytes = λ place. if nat_lt place 0x1000 then None else if nat_lt place 0x2000 then Some 0 else None;
}

abbrev pub filled_with : List ℕ → State
filled_with bytes = option_map_or (λ s. s) (fill framed 0x1000 bytes) framed

-- Configure as the loader calls it, on a capability
abbrev pub configured : Cap → List ℕ → Result State KError
configured capability words =
    let call : Call = record { root = CNode 0 4 28; caller = None; slot = 3; capability = capability } in
    configure_with_guard fresh call words

abbrev pub a_thread : Cap
a_thread = Tcb 0x9000

abbrev pub an_endpoint : Cap
an_endpoint = Endpoint 0x9000 (rights 11) 0
