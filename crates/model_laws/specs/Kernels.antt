-- Small kernels that the rows on calls start from: a boot CNode, the capabilities that are given, and the objects.
use Rattle.std.specs.Prelude.{ℕ, ◌==◌, ◌-◌, nat_lt, false, if◌then◌else◌, Option, Some, None, Result, Ok, Err, List, [], ◌∷◌, find, option_map, replicate}
use Rattle.std.specs.Prelude.{slice_set, fold}
use Rattle.std.specs.Option.{option_map_or}
use Rattle.model.specs.declared.capabilities.Cap.TheVariants.{CNode, Endpoint, Frame, InterruptControl, InterruptHandler, Notification, PageTable, RootTable}
use Rattle.model.specs.declared.capabilities.Cap.TheVariants.{Tcb, Untyped}
use Rattle.model.specs.declared.errors.KError.{KError}
use Rattle.model.specs.declared.invocations.RetypeCall.{RetypeCall}
use Rattle.model.specs.declared.invocations.SlotName.{SlotName}
use Rattle.model.specs.Capabilities.Rights.{rights}
use Rattle.model.specs.Capabilities.Slots.{empty_entry}
use Rattle.model.specs.Images.Described.{Holding, held_in, holding}
use Rattle.model.specs.Kernel.Removal.{delete, revoke}
use Rattle.model.specs.Kernel.Retype.{retype}
use Rattle.model.specs.Kernel.Scheduling.{block, full_slice, tick, wake}
use Rattle.model.specs.Kernel.State.{State, Status, Inactive, Runnable, Blocked, Object, CNodeObject, EndpointObject, NotificationObject, ThreadObject}
use Rattle.model.specs.Kernel.State.{ThreadState, new_endpoint, new_notification, new_thread, put}
use Rattle.model.specs.Machine.ProgramMemory.{RegisterFile}

-- ---- what a kernel is made of

abbrev pub object_in : List (ℕ × Object) → ℕ → Option Object
object_in all offset = option_map (λ o. o.1) (find (λ o. o.0 == offset) all)

-- 2 ^ bits bytes of memory, a boot CNode of 2 ^ radix slots, and open slots below a bound
abbrev pub kernel : ℕ → ℕ → ℕ → List Holding → List (ℕ × Object) → State
kernel bits radix bound full objects = record {
  memory_bits = bits;
  boot_radix = radix;
  slots = λ slot. if nat_lt slot bound then Some (option_map_or (λ held. held) (held_in full slot) empty_entry) else None;
  objects = object_in objects;
  bytes = λ _. None;
  ready = λ _. [];
  masked = λ _. false;
  pending = λ _. false;
}

abbrev pub state_or : State → Result State KError → State
state_or s (Ok t) = t
state_or s (Err error) = s

-- registers with these values, at a pc of 0x1000
abbrev pub registers_with : List (ℕ × ℕ) → RegisterFile
registers_with values = record { pc = 0x1000; words = fold (λ words v. slice_set words v.0 v.1) (replicate 32 0) values }

abbrev pub thread_with : Status → List (ℕ × ℕ) → ThreadState
thread_with status values = record new_thread { registers = registers_with values; priority = 100; slice = full_slice; status = status }

-- ---- removal

-- slot 1 has the CNode at 0x500 of two slots, of which the first, slot 0x50, holds a copy of slot 2
abbrev pub filled : State
filled = kernel 12 4 0x52
    (holding 1 (CNode 0x500 1 0) (Some 3) ∷ holding 2 (Endpoint 0x540 (rights 11) 0) None ∷ holding 3 (Untyped 0x500 6 0x20) None
    ∷ holding 0x50 (Endpoint 0x540 (rights 11) 0) (Some 2) ∷ [])
    ((0x500, CNodeObject 1) ∷ (0x540, EndpointObject new_endpoint) ∷ [])

abbrev pub emptied : State
emptied = state_or filled (delete filled 0x50)

-- an endpoint in a pool, at which two threads wait, the one at the higher address first; another pool has no child
abbrev pub waiting : State
waiting = kernel 12 4 0x50
    (holding 1 (Untyped 0x540 5 0x10) None ∷ holding 2 (Endpoint 0x540 (rights 11) 0) (Some 1) ∷ holding 3 (Tcb 0x600) None
    ∷ holding 4 (Tcb 0x800) None ∷ holding 5 (Untyped 0x560 5 0x10) None ∷ [])
    ((0x540, EndpointObject (record { senders = []; receivers = 0x800 ∷ 0x600 ∷ [] })) ∷ (0x600, ThreadObject (thread_with (Blocked 0x540) []))
    ∷ (0x800, ThreadObject (thread_with (Blocked 0x540) [])) ∷ [])

abbrev pub woken : State
woken = state_or waiting (revoke waiting 1)

-- line 3 is bound to the notification at 0x540, and its handlers are in these slots
abbrev pub handled_by : List Holding → State
handled_by handlers = kernel 12 4 0x50
    (holding 1 InterruptControl None ∷ holding 3 (Notification 0x540 (rights 11) 0) None ∷ holding 19 (Notification 0x540 (rights 11) 1) (Some 3)
    ∷ handlers)
    ((0x540, NotificationObject new_notification) ∷ [])

abbrev pub handler_in : ℕ → Holding
handler_in slot = holding slot (InterruptHandler 3) (Some 1)

-- a root table, a page table for its second region, a frame that is mapped there, and an endpoint at the offset of the root table,
-- which no state that the kernel reaches has
abbrev pub mapped : State
mapped = kernel 12 4 0x50
    (holding 1 (RootTable 0x9000) None ∷ holding 2 (PageTable 0xA000 (Some (record { root = 0x9000; region = 1 }))) None
    ∷ holding 3 (Frame 0x11000 (rights 3) (Some (record { root = 0x9000; page = 0x401; rights = rights 3 }))) None
    ∷ holding 4 (Endpoint 0x9000 (rights 11) 0) None ∷ [])
    []

-- ---- Retype

-- 2^16 bytes of untyped memory from 0x10000 on, of which some are used, and an endpoint in slot 5
abbrev pub workshop : ℕ → List Holding → State
workshop watermark more = kernel 17 5 0x60
    (holding 1 (Untyped 0x10000 16 watermark) None ∷ holding 5 (Endpoint 0x600 (rights 11) 0) None ∷ more) []

abbrev pub objects_call : ℕ → ℕ → SlotName → ℕ → ℕ → RetypeCall
objects_call kind size node index count = record { kind = kind; size = size; node = node; index = index; count = count }

-- the root of the capability space itself
abbrev pub own_root : SlotName
own_root = record { address = 0; depth = 0 }

-- new objects from an index of the boot CNode on
abbrev pub make : State → ℕ → ℕ → ℕ → ℕ → ℕ → Result State KError
make s watermark kind size index count =
    retype s (CNode 0 5 27) 1 (record { offset = 0x10000; bits = 16; watermark = watermark }) (objects_call kind size own_root index count)

-- the same from the first of 16 bytes in use on
abbrev pub make_here : ℕ → ℕ → ℕ → ℕ → Result State KError
make_here kind size index count = make (workshop 0x10 []) 0x10 kind size index count

-- the CNode is named
abbrev pub make_in : SlotName → Result State KError
make_in node = retype (workshop 0x10 []) (CNode 0 5 27) 1 (record { offset = 0x10000; bits = 16; watermark = 0x10 }) (objects_call 3 0 node 8 1)

-- 2^8 bytes of untyped memory, in which two endpoints lie
abbrev pub used : State
used = kernel 12 5 0x60
    (holding 1 (Untyped 0x700 8 0x30) None ∷ holding 2 (Endpoint 0x710 (rights 11) 0) (Some 1) ∷ holding 3 (Endpoint 0x720 (rights 11) 0) (Some 1) ∷ [])
    ((0x710, EndpointObject new_endpoint) ∷ (0x720, EndpointObject new_endpoint) ∷ [])

abbrev pub freed : State
freed = state_or used (revoke used 1)

-- new endpoints in that memory
abbrev pub make_endpoints : ℕ → Result State KError
make_endpoints count = retype freed (CNode 0 5 27) 1 (record { offset = 0x700; bits = 8; watermark = 0 }) (objects_call 3 0 own_root 8 count)

-- ---- scheduling

-- two threads at priority 100, and one at 101 that does not run yet
abbrev pub three_threads : State
three_threads = record (kernel 12 4 0x50 []
    ((0x600, ThreadObject (thread_with Runnable [])) ∷ (0x800, ThreadObject (thread_with Runnable []))
    ∷ (0xA00, ThreadObject (record (thread_with Inactive []) { priority = 101 })) ∷ [])) {
      ready = put (λ _. []) 100 (0x600 ∷ 0x800 ∷ []);
    }

-- the one at 101 runs in between, after two ticks
abbrev pub preempted : State
preempted = wake (tick (tick three_threads)) 0xA00

abbrev pub gone_on : State
gone_on = block preempted 0xA00 Inactive

-- ---- the greatest depth

-- slots 0 to 255 hold untyped memory, each a child of the one before it; 16 more are the empty slots of the CNode at 0x1000
abbrev pub line : State
line = record (kernel 13 4 0 [] []) {
  slots = λ slot.
      if nat_lt slot 256
      then Some (record { capability = Untyped 0x1800 8 0; parent = if slot == 0 then None else Some (slot - 1) })
      else if nat_lt slot 272 then Some empty_entry else None;
}

abbrev pub make_below : ℕ → Result State KError
make_below slot = retype line (CNode 0x1000 4 28) slot (record { offset = 0x1800; bits = 8; watermark = 0 }) (objects_call 3 0 own_root 0 1)
