-- How far the loader has come, and what comes of the calls and other operations that it makes, some of them at a time.
-- seL4 Reference Manual, "System Bootstrapping".
use Rattle.std.specs.Prelude.{ℕ, ◌+◌, Option, Some, None, option_and_then, Result, Ok, Err, List, [], ◌∷◌, ◌++◌, ◌*◌, ◌%◌, ◌^◌, ◌==◌, if◌then◌else◌}
use Rattle.kernel_machine.specs.Setups.{state_in}
use Rattle.bootstrap.specs.declared.loading.Loader.{Loader}
use Rattle.model.specs.declared.boot_faults.BootFault.{BootFault}
use Rattle.model.specs.declared.boot_faults.BootFault.TheVariants.{Kernel, Outside}
use Rattle.model.specs.declared.errors.KError.{KError}
use Rattle.model.specs.Images.Boot.{fill_all, made}
use Rattle.model.specs.Images.BootCalls.{LoaderCall, Operation, PutsUntyped, PutsControl, Calls, Fills, boot_argument, loader_call}
use Rattle.model.specs.Images.Image.{Image, no_buffer}
use Rattle.model.specs.Images.Places.{original_slot}
use Rattle.model.specs.Kernel.CallForms.{configure_label, set_buffer_label, set_priority_label, set_register_label}
use Rattle.model.specs.declared.entries.RegisterEntry.{RegisterEntry}
use Rattle.model.specs.declared.entries.ThreadHeader.{ThreadHeader}
use Rattle.model.specs.Kernel.Setup.{put_control, put_untyped}
use Rattle.model.specs.Kernel.State.{State}

-- how many calls were made, and the state that they left
pub record Progress : Type 0 where
  pub calls : ℕ
  pub state : State

abbrev pub progress_of : Loader → Progress
progress_of loader = record { calls = loader.calls; state = state_in loader.machine }

infixl 10 ◌>>=◌
abbrev pub ◌>>=◌ : Result Progress BootFault → (Progress → Result Progress BootFault) → Result Progress BootFault
(Ok p) >>= next = next p
(Err fault) >>= next = Err fault

-- one call more was made, or this one failed
abbrev pub counted : ℕ → Result State KError → Result Progress BootFault
counted number (Ok s) = Ok (record { calls = number + 1; state = s })
counted number (Err error) = Err (Kernel number error)

-- what is no call was done, or it lies outside
abbrev pub placed : ℕ → ℕ → Option State → Result Progress BootFault
placed number calls (Some s) = Ok (record { calls = calls; state = s })
placed number calls None = Err (Outside number)

-- calls one after another; the first that fails gives the fault
abbrev pub called : Progress → List LoaderCall → Result Progress BootFault
called p [] = Ok p
called p (c ∷ later) = counted p.calls (made p.state c) >>= λ q. called q later

-- SetRegister, as a thread lists it
abbrev pub register_call : ℕ → RegisterEntry → LoaderCall
register_call tcb r = loader_call tcb set_register_label (r.register ∷ r.value ∷ [])

-- SetBuffer, if there is a buffer, from the frame's boot slot
abbrev pub buffer_calls : Image → ℕ → ℕ → List LoaderCall
buffer_calls image tcb buffer =
    if buffer == no_buffer then [] else loader_call tcb set_buffer_label (boot_argument (original_slot image buffer)) ∷ []

-- Configure, and SetBuffer
abbrev pub space_calls : Image → ℕ → ℕ → ℕ → ThreadHeader → List LoaderCall
space_calls image tcb cspace vspace h =
    loader_call tcb configure_label ((h.fault ∷ boot_argument cspace) ++ boot_argument vspace ++ h.guard ∷ []) ∷ buffer_calls image tcb h.buffer

-- SetPriority, and SetRegister for the program counter
abbrev pub start_calls : ℕ → ThreadHeader → List LoaderCall
start_calls tcb h =
    loader_call tcb set_priority_label (h.priority ∷ []) ∷ loader_call tcb set_register_label (0 ∷ (h.base + 4 * h.entry) % 2 ^ 32 ∷ []) ∷ []

-- one operation in a system with so many untypeds
abbrev pub performed : ℕ → Progress → Operation → Result Progress BootFault
performed untypeds p (PutsUntyped number u) = placed number p.calls (put_untyped p.state number u.offset u.bits)
performed untypeds p (PutsControl slot) = placed untypeds p.calls (put_control p.state slot)
performed untypeds p (Calls c) = counted p.calls (made p.state c)
performed untypeds p (Fills number fills) = placed number p.calls (option_and_then (fill_all p.state) fills)

-- operations one after another; the first that cannot be done gives the fault
abbrev pub all_performed : ℕ → Progress → List Operation → Result Progress BootFault
all_performed untypeds p [] = Ok p
all_performed untypeds p (o ∷ later) = performed untypeds p o >>= λ q. all_performed untypeds q later
