-- The state of the kernel between two events: what there is, apart from how it is represented.
-- seL4 Reference Manual, "Kernel Services and Objects", for the kinds of objects and for capabilities.
use Rattle.std.specs.Prelude.{ℕ, ◌==◌, ◌+◌, ◌*◌, ◌/◌, ◌^◌, Bool, if◌then◌else◌, Option, Some, None, List, [], replicate}
use Rattle.std.specs.Option.{option_map_or}
use Rattle.std.specs.List.{list_any, range_with_len}
use Rattle.model.specs.Machine.ProgramMemory.{RegisterFile}
use Rattle.model.specs.Capabilities.Slots.{Slots, capability_at}
use Rattle.model.specs.declared.capabilities.Cap.{Cap}
use Rattle.model.specs.declared.faults.FaultKind.{FaultKind}

-- ---- threads

-- Whether a thread runs, and else what it waits for.
pub data Status : Type 0 where
  -- it runs again once it is resumed
  Inactive : Status
  -- it is in the ready list
  Runnable : Status
  -- it is in the queue of this endpoint or notification
  Blocked : ℕ → Status
  -- its Call was received, and it waits for the reply
  AwaitsReply : Status
  -- its fault was received, and it waits for what its handler replies
  AwaitsHandler : Status

pub record ThreadState : Type 0 where
  pub registers : RegisterFile
  -- 0 to 255
  pub priority : ℕ
  -- how many ticks it runs on before it goes to the tail of its priority
  pub slice : ℕ
  -- the capability address of the endpoint that takes its faults, or 0
  pub fault_address : ℕ
  pub status : Status
  -- the thread that it has the right to reply to
  pub caller : Option ℕ

-- a new thread: all zero, and inactive
abbrev pub new_thread : ThreadState
new_thread = record {
  registers = record { pc = 0; words = replicate 32 0 };
  priority = 0;
  slice = 0;
  fault_address = 0;
  status = Inactive;
  caller = None;
}

-- ---- endpoints and notifications

-- what a thread reports to its handler
pub record FaultMessage : Type 0 where
  pub kind : FaultKind
  pub words : List ℕ

-- what a thread that waits at an endpoint sends
pub data Sent : Type 0 where
  -- the message in its registers; it passes once that is received
  BySend : Sent
  -- the message in its registers; it waits for a reply once that is received
  ByCall : Sent
  -- a fault; it waits for the handler's reply once that is received
  ByFault : FaultMessage → Sent

-- A thread that waits to send, with the badge and the right to get a reply of the capability that it sends by.
pub record Sender : Type 0 where
  pub thread : ℕ
  pub sent : Sent
  pub badge : ℕ
  pub grant_reply : Bool

-- who waits at an endpoint, the first first; one of the two lists is empty
pub record EndpointState : Type 0 where
  pub senders : List Sender
  pub receivers : List ℕ

-- a notification's word, and who waits for it, the first first
pub record NotificationState : Type 0 where
  pub word : ℕ
  pub waiters : List ℕ

-- ---- objects

-- An untyped is no object here: it is its one capability. The bytes of frames are kept apart.
pub data Object : Type 0 where
  ThreadObject : ThreadState → Object
  EndpointObject : EndpointState → Object
  NotificationObject : NotificationState → Object
  -- a CNode of this radix
  CNodeObject : ℕ → Object
  FrameObject : Object
  PageTableObject : Object
  RootTableObject : Object

-- All offsets are in bytes from the start of physical memory.
pub record State : Type 0 where
  -- physical memory has 2 ^ memory_bits bytes
  pub memory_bits : ℕ
  -- the boot CNode has 2 ^ boot_radix slots
  pub boot_radix : ℕ
  -- the slots of CNodes, threads, the boot CNode and the interrupt table
  pub slots : Slots
  -- the objects, by their offsets
  pub objects : ℕ → Option Object
  -- the bytes of frames, by their offsets
  pub bytes : ℕ → Option ℕ
  -- the runnable threads of each priority, the first first
  pub ready : ℕ → List ℕ
  -- the lines whose interrupts wait for an acknowledgement
  pub masked : ℕ → Bool
  -- the lines that were raised meanwhile
  pub pending : ℕ → Bool

abbrev pub with_slots : State → Slots → State
with_slots s slots = record s { slots = slots }

-- a map with another value at one place
abbrev pub put : {A : Type 0} → (ℕ → A) → ℕ → A → ℕ → A
put map place value other = if other == place then value else map other

abbrev pub with_object : State → ℕ → Object → State
with_object s offset object = record s { objects = put s.objects offset (Some object) }

-- the thread of an object
abbrev pub as_thread : Option Object → Option ThreadState
as_thread None = None
as_thread (Some (ThreadObject t)) = Some t
as_thread (Some (EndpointObject e)) = None
as_thread (Some (NotificationObject n)) = None
as_thread (Some (CNodeObject radix)) = None
as_thread (Some FrameObject) = None
as_thread (Some PageTableObject) = None
as_thread (Some RootTableObject) = None

-- the thread at an offset, or a new one where none is
abbrev pub thread_at : State → ℕ → ThreadState
thread_at s offset = option_map_or (λ t. t) (as_thread (s.objects offset)) new_thread

abbrev pub with_thread : State → ℕ → ThreadState → State
with_thread s offset t = with_object s offset (ThreadObject t)

abbrev pub as_endpoint : Option Object → Option EndpointState
as_endpoint None = None
as_endpoint (Some (ThreadObject t)) = None
as_endpoint (Some (EndpointObject e)) = Some e
as_endpoint (Some (NotificationObject n)) = None
as_endpoint (Some (CNodeObject radix)) = None
as_endpoint (Some FrameObject) = None
as_endpoint (Some PageTableObject) = None
as_endpoint (Some RootTableObject) = None

abbrev pub new_endpoint : EndpointState
new_endpoint = record { senders = []; receivers = [] }

abbrev pub endpoint_at : State → ℕ → EndpointState
endpoint_at s offset = option_map_or (λ e. e) (as_endpoint (s.objects offset)) new_endpoint

abbrev pub with_endpoint : State → ℕ → EndpointState → State
with_endpoint s offset e = with_object s offset (EndpointObject e)

abbrev pub as_notification : Option Object → Option NotificationState
as_notification None = None
as_notification (Some (ThreadObject t)) = None
as_notification (Some (EndpointObject e)) = None
as_notification (Some (NotificationObject n)) = Some n
as_notification (Some (CNodeObject radix)) = None
as_notification (Some FrameObject) = None
as_notification (Some PageTableObject) = None
as_notification (Some RootTableObject) = None

abbrev pub new_notification : NotificationState
new_notification = record { word = 0; waiters = [] }

abbrev pub notification_at : State → ℕ → NotificationState
notification_at s offset = option_map_or (λ n. n) (as_notification (s.objects offset)) new_notification

abbrev pub with_notification : State → ℕ → NotificationState → State
with_notification s offset n = with_object s offset (NotificationObject n)

-- ---- where slots are

-- slot i of the object or table at an offset
abbrev pub slot_of : ℕ → ℕ → ℕ
slot_of offset i = offset / 16 + i

-- a thread's slot 0 holds the root of its capability space, slot 1 the root table of its address space, slot 2 the frame of its
-- message buffer
abbrev pub cspace_slot : ℕ → ℕ
cspace_slot thread = slot_of thread 0

abbrev pub vspace_slot : ℕ → ℕ
vspace_slot thread = slot_of thread 1

abbrev pub buffer_slot : ℕ → ℕ
buffer_slot thread = slot_of thread 2

-- The boot CNode lies at offset 0, and the interrupt table with a slot for each of 64 lines after it: a line's slot, and
-- how many slots both have.
abbrev pub line_slot : ℕ → ℕ → ℕ
line_slot radix line = 2 ^ radix + line

abbrev pub boot_area_slots : ℕ → ℕ
boot_area_slots radix = line_slot radix 64

-- where untyped memory may begin
abbrev pub boot_area_end : ℕ → ℕ
boot_area_end radix = 16 * boot_area_slots radix

abbrev pub binding_slot : State → ℕ → ℕ
binding_slot s line = line_slot s.boot_radix line

-- the numbers of all slots that memory of 2 ^ bits bytes can have
unfoldable pub slot_numbers : ℕ → List ℕ
slot_numbers bits = range_with_len 0 (2 ^ bits / 16)

-- the slots of the state
abbrev pub slots_of : State → List ℕ
slots_of s = slot_numbers s.memory_bits

-- whether some slot holds such a capability
abbrev pub holds_some : State → (Cap → Bool) → Bool
holds_some s test = list_any (λ slot. test (capability_at s.slots slot)) (slots_of s)
