-- What the tables and the bytes of memory hold of objects, and the state that these represent.
-- seL4 Reference Manual, "Kernel Services and Objects".
use Rattle.std.specs.Prelude.{ℕ, Bool, true, false, not, if◌then◌else◌, Option, Some, None, is_some, option_map, option_and_then, List, [], filter, filter_map}
use Rattle.std.specs.Prelude.{slice_index, slice_index_or}
use Rattle.std.specs.Option.{option_map_or}
use Rattle.model.specs.Capabilities.Slots.{Slots}
use Rattle.model.specs.Kernel.Kinds.{frame_around, kind_of}
use Rattle.model.specs.Kernel.Retype.{NewObject, NewUntyped, NewThread, NewEndpoint, NewNotification, NewCNode, NewFrame, NewPageTable, NewRootTable}
use Rattle.model.specs.Kernel.State.{State, Object, Sender, ThreadObject, EndpointObject, NotificationObject, CNodeObject, FrameObject, PageTableObject}
use Rattle.model.specs.Kernel.State.{RootTableObject, with_slots}
use Rattle.objects.specs.thread_records.Threads.{sender_of, thread_state}
use Rattle.objects.specs.declared.thread_records.records.Sending.{Sending}
use Rattle.objects.specs.declared.thread_records.records.Thread.{Thread}
use Rattle.objects.specs.Waiting.{has_waiting}
use Rattle.queues.specs.Layout.{Places}
use Rattle.queues.specs.Queues.{queue_of}
use Rattle.queues.specs.Ready.{ready_of}
use Rattle.queues.specs.declared.words.Ends.{Ends}

-- an object that is no thread, but for those that wait at it
pub data Record : Type 0 where
  Endpoint : Record
  -- with its word
  Notification : ℕ → Record
  -- with its radix
  CNode : ℕ → Record
  Frame : Record
  PageTable : Record
  RootTable : Record

-- what is at each offset, and what the kernel keeps beside objects
pub record Contents : Type 0 where
  -- memory has 2 ^ bits bytes, and the boot CNode 2 ^ radix slots
  pub bits : ℕ
  pub radix : ℕ
  pub records : ℕ → Option Record
  pub threads : ℕ → Option Thread
  -- the first and the last thread that is ready at each priority
  pub ready : List Ends
  pub masked : List Bool
  pub pending : List Bool

-- ---- objects

abbrev pub sending_in : (ℕ → Option Thread) → ℕ → Option Sending
sending_in threads thread = option_and_then (λ t. t.sending) (threads thread)

-- of those that wait at an endpoint: who sends, and who receives
abbrev pub senders_in : (ℕ → Option Thread) → List ℕ → List Sender
senders_in threads waiting = filter_map (λ thread. option_map (sender_of thread) (sending_in threads thread)) waiting

abbrev pub receivers_in : (ℕ → Option Thread) → List ℕ → List ℕ
receivers_in threads waiting = filter (λ thread. not (is_some (sending_in threads thread))) waiting

-- an object that is no thread, with those that wait at it
abbrev pub object_of : (ℕ → Option Thread) → List ℕ → Record → Object
object_of threads waiting Endpoint = EndpointObject (record { senders = senders_in threads waiting; receivers = receivers_in threads waiting })
object_of threads waiting (Notification word) = NotificationObject (record { word = word; waiters = waiting })
object_of threads waiting (CNode radix) = CNodeObject radix
object_of threads waiting Frame = FrameObject
object_of threads waiting PageTable = PageTableObject
object_of threads waiting RootTable = RootTableObject

abbrev pub object_from : Option Thread → Option Object → Option Object
object_from (Some t) other = Some (ThreadObject (thread_state t))
object_from None other = other

-- an object, if these wait at it
abbrev pub object_with : Contents → List ℕ → ℕ → Option Object
object_with o waiting offset = object_from (o.threads offset) (option_map (object_of o.threads waiting) (o.records offset))

-- an object, if these wait at each
abbrev pub object_in : Contents → (ℕ → List ℕ) → ℕ → Option Object
object_in o waiting offset = object_with o (waiting offset) offset

-- the type of the object at an offset, whoever waits at it
abbrev pub kind_by : (ℕ → Option Record) → (ℕ → Option Thread) → ℕ → Option NewObject
kind_by records threads offset = option_map kind_of (object_from (threads offset) (option_map (object_of threads []) (records offset)))

abbrev pub kind_in : Contents → ℕ → Option NewObject
kind_in o offset = kind_by o.records o.threads offset

-- ---- queues

-- whether threads may wait at an object with such a record
abbrev pub has_queue : Record → Bool
has_queue Endpoint = true
has_queue (Notification word) = true
has_queue (CNode radix) = false
has_queue Frame = false
has_queue PageTable = false
has_queue RootTable = false

abbrev pub is_thread_kind : Option NewObject → Bool
is_thread_kind None = false
is_thread_kind (Some NewThread) = true
is_thread_kind (Some NewEndpoint) = false
is_thread_kind (Some NewNotification) = false
is_thread_kind (Some (NewUntyped bits)) = false
is_thread_kind (Some (NewCNode radix)) = false
is_thread_kind (Some NewFrame) = false
is_thread_kind (Some NewPageTable) = false
is_thread_kind (Some NewRootTable) = false

-- where threads and those that wait are linked: an object keeps the first and the last of these in its first two words
abbrev pub places_by : (ℕ → Option NewObject) → Places
places_by kinds = record {
  threads = λ offset. is_thread_kind (kinds offset);
  heads = λ offset. if has_waiting (kinds offset) then Some offset else None;
}

abbrev pub places_of : Contents → Places
places_of o = places_by (kind_in o)

-- who waits at an object, and who is ready at a priority
abbrev pub waiting_of : Contents → List ℕ → ℕ → List ℕ
waiting_of o memory = queue_of (places_of o) memory

abbrev pub ready_at : Contents → List ℕ → ℕ → List ℕ
ready_at o memory = ready_of (places_of o) o.ready memory

-- ---- the state

abbrev pub is_frame : Record → Bool
is_frame Frame = true
is_frame Endpoint = false
is_frame (Notification word) = false
is_frame (CNode radix) = false
is_frame PageTable = false
is_frame RootTable = false

-- the bytes of frames are those of memory
abbrev pub byte_in : (ℕ → Option Record) → List ℕ → ℕ → Option ℕ
byte_in records memory place =
    if option_map_or is_frame (records (frame_around place)) false then Some (slice_index memory place) else None

-- what the tables and the bytes of memory give of a state, if these wait and are ready: all but its slots
abbrev pub told_with : Contents → (ℕ → List ℕ) → (ℕ → List ℕ) → List ℕ → State
told_with o waiting ready memory = record {
  memory_bits = o.bits;
  boot_radix = o.radix;
  slots = λ slot. None;
  objects = object_in o waiting;
  bytes = byte_in o.records memory;
  ready = ready;
  masked = λ line. slice_index_or o.masked line false;
  pending = λ line. slice_index_or o.pending line false;
}

unfoldable pub told_by : Contents → List ℕ → State
told_by o memory = told_with o (waiting_of o memory) (ready_at o memory) memory

-- with the slots of the store
abbrev pub contents_state : Contents → Slots → List ℕ → State
contents_state o slots memory = with_slots (told_by o memory) slots
