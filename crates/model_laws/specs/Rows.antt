-- What the worked rows start from.
use Rattle.std.specs.Prelude.{ℕ, ◌==◌, ◌+◌, ◌^◌, false, if◌then◌else◌, Option, Some, None, Result, Ok, Err, [], ◌∷◌, pos, replicate, slice_set}
use Rattle.model.specs.declared.capabilities.Cap.{Cap}
use Rattle.model.specs.declared.capabilities.Cap.TheVariants.{Endpoint, Notification, CNode}
use Rattle.model.specs.declared.errors.KError.{KError}
use Rattle.model.specs.declared.instructions.Instr.{Instr}
use Rattle.model.specs.declared.instructions.Instr.TheVariants.{Jalr, Shift}
use Rattle.model.specs.declared.instructions.ShiftOp.TheVariants.{Srai}
use Rattle.model.specs.declared.slot_entries.Entry.{Entry}
use Rattle.model.specs.Machine.ProgramMemory.{Content, RegisterFile}
use Rattle.model.specs.Kernel.Messages.{register, signal, wait}
use Rattle.model.specs.Kernel.Removal.{delete}
use Rattle.model.specs.Capabilities.Rights.{rights}
use Rattle.model.specs.Capabilities.Slots.{Slots, empty_entry, is_within}
use Rattle.model.specs.Kernel.State.{State, ThreadState, Runnable, ThreadObject, NotificationObject, new_notification, new_thread, put}

-- ---- lookups

-- a CNode at 0x10000 with a guard of 4 bits and 2 ^ 8 slots
abbrev pub guarded_root : Cap
guarded_root = CNode 0x10000 8 4

abbrev pub endpoint_slot : ℕ
endpoint_slot = 0x1060

abbrev pub root_entry : Cap → Entry
root_entry capability = record { capability = capability; parent = None }

abbrev pub guarded : Slots
guarded slot =
    if slot == endpoint_slot then Some (root_entry (Endpoint 0x20000 (rights 11) 0))
    else if is_within 0x1000 0x100 slot then Some empty_entry else None

-- ---- derivation

-- nothing but the slots that are given, in 256 bytes of memory
abbrev pub bare : Slots → State
bare slots = record {
  memory_bits = 8;
  boot_radix = 3;
  slots = slots;
  objects = λ _. None;
  bytes = λ _. None;
  ready = λ _. [];
  masked = λ _. false;
  pending = λ _. false;
}

abbrev pub endpoint_below : Option ℕ → Option Entry
endpoint_below parent = Some (record { capability = Endpoint 0x80 (rights 11) 0; parent = parent })

-- slot 1 has the child 2, which has the child 3; slot 4 is beside slot 1
abbrev pub tree : State
tree = bare (λ slot.
    if slot == 1 then endpoint_below None
    else if slot == 2 then endpoint_below (Some 1)
    else if slot == 3 then endpoint_below (Some 2)
    else if slot == 4 then endpoint_below None
    else if is_within 0 8 slot then Some empty_entry else None)

abbrev pub slots_of_result : Result State KError → Slots
slots_of_result (Ok s) = s.slots
slots_of_result (Err error) = λ slot. None

abbrev pub slots_after_delete : Slots
slots_after_delete = slots_of_result (delete tree 2)

-- ---- instructions

abbrev pub shift_by_four : Instr
shift_by_four = Shift Srai (register 1) (register 1) 4

abbrev pub jump_to_ones : Instr
jump_to_ones = Jalr (register 0) (register 1) (pos 0)

abbrev pub no_memory : Content
no_memory = record { place = λ access address. None; byte = λ place. 0 }

-- x1 is a word of ones
abbrev pub ones : RegisterFile
ones = record { pc = 0x1000; words = slice_set (replicate 32 0) 1 0xFFFFFFFF }

-- ---- threads and a notification

abbrev pub driver : ℕ
driver = 0x200

abbrev pub bell : ℕ
bell = 0x600

-- a runnable thread at a priority, with 7 in a1
abbrev pub runs_at : ℕ → ThreadState
runs_at priority = record new_thread {
  registers = record { pc = 0x1000; words = slice_set (replicate 32 0) 11 7 };
  priority = priority;
  slice = 5;
  status = Runnable;
}

-- the driver runs at priority 100, and another thread after it; nobody waits for the bell
abbrev pub two_threads : State
two_threads = record (bare (λ _. None)) {
  objects = λ offset.
      if offset == driver then Some (ThreadObject (runs_at 100))
      else if offset == 0x400 then Some (ThreadObject (runs_at 100))
      else if offset == bell then Some (NotificationObject new_notification)
      else None;
  ready = put (λ _. []) 100 (driver ∷ 0x400 ∷ []);
}

abbrev pub signalled : State
signalled = signal (signal two_threads bell 1) bell 4

abbrev pub waited : State
waited = wait signalled bell driver

-- line 3 is bound to the bell with badge 1
abbrev pub bound : State
bound = record two_threads {
  slots = λ slot. if slot == 2 ^ 3 + 3 then Some (root_entry (Notification bell (rights 1) 1)) else None;
}
