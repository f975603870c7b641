-- The laws of this crate on what changes of links make of queues.
use Rattle.std.specs.Prelude.{ℕ, ◌≡◌, ◌<◌, Some, None, [], ◌∷◌, ◌++◌, drop}
use Rattle.model.specs.Kernel.Scheduling.{head_of}
use Rattle.model.specs.Kernel.State.{put}
use Rattle.model.specs.Shared.Lists.{times_in, without}
use Rattle.queues.specs.links.Threaded.{AreLinked, SameQueues, Threaded, left, listed, pushed}

-- a thread that is in no queue is put after the last one of a queue
pub record PushingJoins : Type 0 where
  pub linked : (w : Threaded) (size queue thread : ℕ) → AreLinked w size → w.owner thread ≡ None → thread < size → AreLinked (pushed w queue thread) size
  pub queues : (w : Threaded) (size queue thread : ℕ) → AreLinked w size → w.owner thread ≡ None → thread < size
      → (other : ℕ) → listed (pushed w queue thread) size other ≡ put (listed w size) queue (listed w size queue ++ thread ∷ []) other

-- a thread is taken out of its queue, wherever it is there
pub record LeavingTakesOut : Type 0 where
  pub linked : (w : Threaded) (size queue thread : ℕ) → AreLinked w size → w.owner thread ≡ Some queue → AreLinked (left w queue thread) size
  pub queues : (w : Threaded) (size queue thread : ℕ) → AreLinked w size → w.owner thread ≡ Some queue
      → (other : ℕ) → listed (left w queue thread) size other ≡ without thread (listed w size other)

-- a thread without a queue is in none, and whoever is in none has none
pub record NoOwnerNoQueue : Type 0 where
  pub out : (w : Threaded) (size thread : ℕ) → AreLinked w size → w.owner thread ≡ None → (other : ℕ) → times_in (listed w size other) thread ≡ 0
  pub none : (w : Threaded) (size thread : ℕ) → AreLinked w size → ((other : ℕ) → times_in (listed w size other) thread ≡ 0) → w.owner thread ≡ None

-- without its first thread, a queue is what follows it, and the others are as they were
abbrev pub FirstIsDropped : Type 0
FirstIsDropped = (w : Threaded) (size queue thread : ℕ) → AreLinked w size → head_of (listed w size queue) ≡ Some thread
    → (other : ℕ) → without thread (listed w size other) ≡ put (listed w size) queue (drop 1 (listed w size queue)) other

-- whoever is named as the first or the last of a queue, or by one who is in it, is in it too
pub record NamedStandThere : Type 0 where
  pub first : (w : Threaded) (size queue thread : ℕ) → AreLinked w size → w.first queue ≡ Some thread → w.owner thread ≡ Some queue
  pub last : (w : Threaded) (size queue thread : ℕ) → AreLinked w size → w.last queue ≡ Some thread → w.owner thread ≡ Some queue
  pub next : (w : Threaded) (size queue thread other : ℕ) → AreLinked w size → w.owner thread ≡ Some queue → w.next thread ≡ Some other →
      w.owner other ≡ Some queue
  pub previous : (w : Threaded) (size queue thread other : ℕ) → AreLinked w size → w.owner thread ≡ Some queue → w.previous thread ≡ Some other →
      w.owner other ≡ Some queue

-- the links of those who are in no queue do not matter
pub record OnlyOwnedCount : Type 0 where
  pub linked : (w v : Threaded) (size : ℕ) → AreLinked w size → SameQueues w v → AreLinked v size
  pub queues : (w v : Threaded) (size : ℕ) → AreLinked w size → SameQueues w v → (queue : ℕ) → listed v size queue ≡ listed w size queue
