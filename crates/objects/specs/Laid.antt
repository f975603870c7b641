-- Where the records of threads lie in memory.
use Rattle.std.specs.Prelude.{ℕ, ◌≡◌, ◌+◌, ◌%◌, ◌^◌, ◌<◌, ◌≤◌, true, Option, Some, None, List, length, slice_index}
use Rattle.model.specs.Capabilities.Slots.{OutsideSlots, Slots}
use Rattle.model.specs.Kernel.Kinds.{kind_of}
use Rattle.model.specs.Kernel.Retype.{object_bits}
use Rattle.model.specs.Kernel.State.{new_thread}
use Rattle.model.specs.Shared.Bytes.{word_at}
use Rattle.queues.specs.Words.{end_at, link_at}
use Rattle.objects.specs.Contents.{is_thread_kind}
use Rattle.objects.specs.Frames.{has_record, slot_bytes}
use Rattle.objects.specs.Tables.{entry_in, thread_from}
use Rattle.model.specs.Kernel.ObjectTypes.{new_object}
use Rattle.objects.specs.Waiting.{has_waiting}
use Rattle.objects.specs.declared.records.Entry.{Entry}
use Rattle.objects.specs.declared.records.Entry.TheVariants as entries
use Rattle.model.specs.declared.object_types.ObjectKind.{ObjectKind}
use Rattle.model.specs.declared.object_types.ObjectKind.TheVariants as kinds
use Rattle.objects.specs.thread_records.Records as thread_words
use Rattle.objects.specs.thread_records.Records.{IsRecordByte}
use Rattle.objects.specs.thread_records.Threads.{thread_state}
use Rattle.objects.specs.declared.thread_records.records.Thread.{Thread}

-- A thread has 512 bytes. Those of its record and of its links, and who may reply to it, lie in no open slot.
pub record IsThreadPlace (slots : Slots) (size thread : ℕ) : Type 0 where
  pub few : size ≤ 2 ^ 24
  pub within : thread + 512 ≤ size
  pub outside : OutsideSlots slots (thread + 48) 224

-- threads and notifications lie inside memory of this size, threads at multiples of their own
pub record AreThreadsPlaced (table : List Entry) (size : ℕ) : Type 0 where
  pub places : length table ≤ 2 ^ 20
  pub whole : length table % 32 ≡ 0
  pub few : size ≤ 2 ^ 24
  pub aligned : (thread : ℕ) → entry_in table thread ≡ entries.Thread → thread % 512 ≡ 0
  pub within : (thread : ℕ) → entry_in table thread ≡ entries.Thread → thread + 512 ≤ size
  pub points : (notification : ℕ) → entry_in table notification ≡ entries.Notification → notification + 16 ≤ size

-- there is an entry for each 16 bytes at most, and threads lie at multiples of their size
pub record AreThreadsLaid (table : List Entry) (slots : Slots) (size : ℕ) : Type 0 where
  pub few : length table ≤ 2 ^ 20
  pub whole : length table % 32 ≡ 0
  pub aligned : (thread : ℕ) → entry_in table thread ≡ entries.Thread → thread % 512 ≡ 0
  pub places : (thread : ℕ) → entry_in table thread ≡ entries.Thread → IsThreadPlace slots size thread

-- the threads that the bytes hold
abbrev pub threads_by : List Entry → List ℕ → ℕ → Option Thread
threads_by table memory offset = thread_from (entry_in table offset) (thread_words.thread_at memory offset)

-- all bytes are the same but those of the records of threads
pub record SameBesideThreads (table : List Entry) (old new : List ℕ) : Type 0 where
  pub size : length new ≡ length old
  pub bytes : (place : ℕ) → ((thread : ℕ) → entry_in table thread ≡ entries.Thread → IsRecordByte thread place → ⊥) →
      slice_index new place ≡ slice_index old place

-- where a new object of a kind may come: its record lies in memory, and in no open slot
pub record IsRoomAt (kind : ObjectKind) (slots : Slots) (size offset : ℕ) : Type 0 where
  pub few : size ≤ 2 ^ 24
  pub thread : kind ≡ kinds.Thread → (offset + 512 ≤ size) × OutsideSlots slots (offset + 48) 464
  pub point : has_waiting (Some (kind_of (new_object kind))) ≡ true → (offset + 16 ≤ size) × OutsideSlots slots offset 16

-- A new object of a kind has begun: nobody is linked to it, a thread is new, a word is 0, and all bytes beside its record are the same.
pub record BegunAt (kind : ObjectKind) (offset : ℕ) (old new : List ℕ) : Type 0 where
  pub size : length new ≡ length old
  pub bytes : (place : ℕ) → (offset + slot_bytes (kind_of (new_object kind)) ≤ place → place < offset + 2 ^ object_bits (kind_of (new_object kind))
      → has_record (kind_of (new_object kind)) ≡ true → ⊥) → slice_index new place ≡ slice_index old place
  pub thread : kind ≡ kinds.Thread → thread_state (thread_words.thread_at new offset) ≡ new_thread
  pub unlinked : is_thread_kind (Some (kind_of (new_object kind))) ≡ true → (link_at 244 new offset 0 ≡ None) × (link_at 256 new offset 0 ≡ None)
  pub unwaited : has_waiting (Some (kind_of (new_object kind))) ≡ true → (number : ℕ) → number < 2 → end_at new offset number ≡ None
  pub word : has_waiting (Some (kind_of (new_object kind))) ≡ true → word_at new (offset + 8) ≡ 0

-- all bytes are the same but the 16 from an offset on
pub record SameBesidePoint (offset : ℕ) (old new : List ℕ) : Type 0 where
  pub size : length new ≡ length old
  pub bytes : (place : ℕ) → (offset ≤ place → place < offset + 16 → ⊥) → slice_index new place ≡ slice_index old place
