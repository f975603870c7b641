-- The laws of this crate on what the bytes of a record say.
use Rattle.std.specs.Prelude.{ℕ, ◌≡◌, List, slice_index}
use Rattle.model.specs.Kernel.State.{new_thread}
use Rattle.objects.specs.thread_records.Records.{IsRecordByte, blank_thread, thread_at}
use Rattle.objects.specs.thread_records.Threads.{thread_state}

-- a thread is what its record's bytes say
abbrev pub RecordStays : Type 0
RecordStays = (old new : List ℕ) (thread : ℕ) → ((place : ℕ) → IsRecordByte thread place → slice_index new place ≡ slice_index old place)
    → thread_at new thread ≡ thread_at old thread

-- bytes that are all zero are a new thread
pub record ZeroIsNew : Type 0 where
  pub blank : (memory : List ℕ) (thread : ℕ) → ((place : ℕ) → IsRecordByte thread place → slice_index memory place ≡ 0) → thread_at memory thread ≡ blank_thread
  pub new : thread_state blank_thread ≡ new_thread
