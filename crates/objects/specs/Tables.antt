-- The tables, and the state that they represent together with the slots and the bytes of memory.
-- seL4 Reference Manual, "Kernel Services and Objects".
use Rattle.std.specs.Prelude.{ℕ, ◌≡◌, ◌==◌, ◌+◌, ◌*◌, ◌/◌, ◌%◌, ◌^◌, ◌<◌, ◌≤◌, Bool, if◌then◌else◌, Option, Some, None, option_and_then, List, length}
use Rattle.std.specs.Prelude.{slice_index_or}
use Rattle.model.specs.Capabilities.Slots.{Slots}
use Rattle.model.specs.Kernel.Retype.{NewObject, NewThread, NewEndpoint, NewNotification, NewCNode, NewFrame, NewPageTable, NewRootTable}
use Rattle.model.specs.Kernel.State.{State, with_slots}
use Rattle.model.specs.Shared.Bytes.{word_at}
use Rattle.objects.specs.Contents.{Contents, Record, Endpoint, Notification, CNode, Frame, PageTable, RootTable, places_by, told_by}
use Rattle.objects.specs.declared.records.Entry.{Entry}
use Rattle.objects.specs.declared.records.Entry.TheVariants as entries
use Rattle.model.specs.declared.object_types.ObjectKind.{ObjectKind}
use Rattle.model.specs.declared.object_types.ObjectKind.TheVariants as kinds
use Rattle.objects.specs.thread_records.Records as thread_words
use Rattle.objects.specs.declared.thread_records.records.Sending.{Sending}
use Rattle.objects.specs.declared.thread_records.records.Thread.{Thread}
use Rattle.queues.specs.Layout.{Places}
use Rattle.queues.specs.Queues.{queue_of}
use Rattle.queues.specs.Ready.{ready_of}
use Rattle.queues.specs.declared.words.Ends.{Ends}

-- ---- tables

pub record Tables : Type 0 where
  -- memory has 2 ^ bits bytes, and the boot CNode 2 ^ radix slots
  pub bits : ℕ
  pub radix : ℕ
  -- what starts at each 16 bytes of memory
  pub entries : List Entry
  -- the first and the last thread that is ready at each priority
  pub ready : List Ends
  pub masked : List Bool
  pub pending : List Bool

-- what starts at an offset in memory
abbrev pub entry_in : List Entry → ℕ → Entry
entry_in table offset = if offset % 16 == 0 then slice_index_or table (offset / 16) entries.Nothing else entries.Nothing

-- the table has an entry for an offset
pub record HasEntry (table : List Entry) (offset : ℕ) : Type 0 where
  pub aligned : offset % 16 ≡ 0
  pub within : offset / 16 < length table

abbrev pub kind_of_entry : Entry → Option NewObject
kind_of_entry entries.Nothing = None
kind_of_entry entries.Thread = Some NewThread
kind_of_entry entries.Endpoint = Some NewEndpoint
kind_of_entry entries.Notification = Some NewNotification
kind_of_entry (entries.CNode radix) = Some (NewCNode radix)
kind_of_entry entries.Frame = Some NewFrame
kind_of_entry entries.PageTable = Some NewPageTable
kind_of_entry entries.RootTable = Some NewRootTable

abbrev pub kinds_by : List Entry → ℕ → Option NewObject
kinds_by table offset = kind_of_entry (entry_in table offset)

-- the type of the object at an offset
abbrev pub kind_in : Tables → ℕ → Option NewObject
kind_in o offset = kinds_by o.entries offset

-- the entry of a new object
abbrev pub entry_of : ObjectKind → Entry
entry_of kinds.Thread = entries.Thread
entry_of kinds.Endpoint = entries.Endpoint
entry_of kinds.Notification = entries.Notification
entry_of (kinds.CNode radix) = entries.CNode radix
entry_of kinds.Frame = entries.Frame
entry_of kinds.PageTable = entries.PageTable
entry_of kinds.RootTable = entries.RootTable

-- ---- what the bytes of memory hold of what starts there

abbrev pub thread_from : Entry → Thread → Option Thread
thread_from entries.Nothing thread = None
thread_from entries.Thread thread = Some thread
thread_from entries.Endpoint thread = None
thread_from entries.Notification thread = None
thread_from (entries.CNode radix) thread = None
thread_from entries.Frame thread = None
thread_from entries.PageTable thread = None
thread_from entries.RootTable thread = None

abbrev pub record_from : Entry → ℕ → Option Record
record_from entries.Nothing word = None
record_from entries.Thread word = None
record_from entries.Endpoint word = Some Endpoint
record_from entries.Notification word = Some (Notification word)
record_from (entries.CNode radix) word = Some (CNode radix)
record_from entries.Frame word = Some Frame
record_from entries.PageTable word = Some PageTable
record_from entries.RootTable word = Some RootTable

-- a notification keeps its word in its bytes from 8 on
abbrev pub contents_of : Tables → List ℕ → Contents
contents_of o memory = record {
  bits = o.bits;
  radix = o.radix;
  records = λ offset. record_from (entry_in o.entries offset) (word_at memory (offset + 8));
  threads = λ offset. thread_from (entry_in o.entries offset) (thread_words.thread_at memory offset);
  ready = o.ready;
  masked = o.masked;
  pending = o.pending;
}

abbrev pub thread_in : Tables → List ℕ → ℕ → Option Thread
thread_in o memory offset = (contents_of o memory).threads offset

abbrev pub sending_in : Tables → List ℕ → ℕ → Option Sending
sending_in o memory thread = option_and_then (λ (t : Thread). t.sending) (thread_in o memory thread)

-- ---- queues

abbrev pub places_of : Tables → Places
places_of o = places_by (kind_in o)

-- who waits at an object, and who is ready at a priority
abbrev pub waiting_of : Tables → List ℕ → ℕ → List ℕ
waiting_of o memory = queue_of (places_of o) memory

abbrev pub ready_at : Tables → List ℕ → ℕ → List ℕ
ready_at o memory = ready_of (places_of o) o.ready memory

-- ---- the state

-- whatever the form of the tables is, the slots are the store's
unfoldable pub state_of : Tables → Slots → List ℕ → State
state_of o slots memory = with_slots (told_by (contents_of o memory) memory) slots

-- ---- what is always true of the tables

pub record AreTables (o : Tables) : Type 0 where
  pub least_bits : 16 ≤ o.bits
  pub most_bits : o.bits ≤ 24
  pub most_radix : o.radix ≤ 14
  -- there is an entry for each place
  pub places : 16 * length o.entries ≡ 2 ^ o.bits
  pub threads : (offset : ℕ) → entry_in o.entries offset ≡ entries.Thread → offset % 512 ≡ 0
  pub nodes : (offset radix : ℕ) → entry_in o.entries offset ≡ entries.CNode radix → radix ≤ 14
