-- The laws of this crate on what stays of queues, where other bytes change, and where threads and objects come and go that are in no queue.
use Rattle.std.specs.Prelude.{ℕ, ◌≡◌, ◌+◌, ◌<◌, ◌≤◌, ◌⊎◌, Bool, true, false, Option, Some, None, List, [], length, slice_index}
use Rattle.model.specs.Capabilities.Slots.{Slots}
use Rattle.model.specs.Shared.Lists.{times_in}
use Rattle.queues.specs.Layout.{AreLaidOut, Places}
use Rattle.queues.specs.Queues.{IsHeadByte, IsLinkByte, QueuesStand, SameBesideWaiting, queue_of}
use Rattle.queues.specs.Ready.{ReadyStands, SameBesideReady, nobody, ready_of}
use Rattle.queues.specs.Words.{end_at, end_in, link_at, link_in, with_ends, without_links}
use Rattle.queues.specs.declared.words.Ends.{Ends}

-- a thread is as it was, with the bytes of its links, or it is in no queue before and after
pub record IsKept (base : ℕ) (before after : ℕ → Bool) (old new : List ℕ) (thread : ℕ) : Type 0 where
  pub there : after thread ≡ before thread
  pub bytes : before thread ≡ true → (place : ℕ) → IsLinkByte base thread place → slice_index new place ≡ slice_index old place

pub record IsOut (base : ℕ) (before after : ℕ → Bool) (old new : List ℕ) (thread : ℕ) : Type 0 where
  pub was : link_in base before old 0 thread ≡ None
  pub now : link_in base after new 0 thread ≡ None

-- so an object keeps who waits at it, or nobody waits there before and after
pub record KeepsWaiting (before after : ℕ → Option ℕ) (old new : List ℕ) (queue : ℕ) : Type 0 where
  pub there : after queue ≡ before queue
  pub bytes : (head place : ℕ) → before queue ≡ Some head → IsHeadByte head place → slice_index new place ≡ slice_index old place

pub record IsEmpty (before after : ℕ → Option ℕ) (old new : List ℕ) (queue : ℕ) : Type 0 where
  pub was : (k : ℕ) → k < 2 → end_in before old k queue ≡ None
  pub now : (k : ℕ) → k < 2 → end_in after new k queue ≡ None

-- what there is before, and after
abbrev pub KeepThreads : ℕ → Places → Places → List ℕ → List ℕ → Type 0
KeepThreads base p n old new = (thread : ℕ) → IsKept base p.threads n.threads old new thread ⊎ IsOut base p.threads n.threads old new thread

abbrev pub KeepHeads : Places → Places → List ℕ → List ℕ → Type 0
KeepHeads p n old new = (queue : ℕ) → KeepsWaiting p.heads n.heads old new queue ⊎ IsEmpty p.heads n.heads old new queue

-- those that wait still do
pub record WaitingStays : Type 0 where
  pub stands : (p n : Places) (old new : List ℕ) → length new ≡ length old → KeepThreads 244 p n old new → KeepHeads p n old new → QueuesStand p old →
      QueuesStand n new
  pub queues : (p n : Places) (old new : List ℕ) → length new ≡ length old → KeepThreads 244 p n old new → KeepHeads p n old new → QueuesStand p old
      → (queue : ℕ) → queue_of n new queue ≡ queue_of p old queue

-- those that are ready still are
pub record ReadyStays : Type 0 where
  pub stands : (p n : Places) (ends : List Ends) (old new : List ℕ) → length new ≡ length old → KeepThreads 256 p n old new → ReadyStands p ends old →
      ReadyStands n ends new
  pub queues : (p n : Places) (ends : List Ends) (old new : List ℕ) → length new ≡ length old → KeepThreads 256 p n old new → ReadyStands p ends old
      → (priority : ℕ) → ready_of n ends new priority ≡ ready_of p ends old priority

-- who is in queues is a thread
abbrev pub AreThreadsIn : Places → (ℕ → List ℕ) → Type 0
AreThreadsIn p queues = (queue thread : ℕ) → 0 < times_in (queues queue) thread → p.threads thread ≡ true

-- who waits changes beside who is ready
pub record KindsApart : Type 0 where
  pub ready : (p : Places) (slots : Slots) (old new : List ℕ) → AreLaidOut p slots (length old) → (queues : ℕ → List ℕ) → AreThreadsIn p queues
      → SameBesideWaiting p queues old new → (thread : ℕ) → IsKept 256 p.threads p.threads old new thread
  pub waiting : (p : Places) (slots : Slots) (old new : List ℕ) → AreLaidOut p slots (length old) → (queues : ℕ → List ℕ) → AreThreadsIn p queues
      → SameBesideReady queues old new → (thread : ℕ) → IsKept 244 p.threads p.threads old new thread
  pub heads : (p : Places) (slots : Slots) (old new : List ℕ) → AreLaidOut p slots (length old) → (queues : ℕ → List ℕ) → AreThreadsIn p queues
      → SameBesideReady queues old new → (queue : ℕ) → KeepsWaiting p.heads p.heads old new queue
  -- who is in queues is a thread, and waits at an object that may have such
  pub waiters : (p : Places) (memory : List ℕ) → QueuesStand p memory → AreThreadsIn p (queue_of p memory)
  pub waited : (p : Places) (memory : List ℕ) → QueuesStand p memory → (queue thread : ℕ) → 0 < times_in (queue_of p memory queue) thread
      → (head : ℕ) × (p.heads queue ≡ Some head)
  pub runners : (p : Places) (ends : List Ends) (memory : List ℕ) → ReadyStands p ends memory → AreThreadsIn p (ready_of p ends memory)

-- who is in no queue has no links there, and where nobody waits, the object names nobody
pub record NobodyNamed : Type 0 where
  pub idle : (p : Places) (memory : List ℕ) (thread : ℕ) → QueuesStand p memory → ((queue : ℕ) → times_in (queue_of p memory queue) thread ≡ 0)
      → link_in 244 p.threads memory 0 thread ≡ None
  pub unready : (p : Places) (ends : List Ends) (memory : List ℕ) (thread : ℕ) → ReadyStands p ends memory
      → ((priority : ℕ) → times_in (ready_of p ends memory priority) thread ≡ 0) → link_in 256 p.threads memory 0 thread ≡ None
  pub empty : (p : Places) (memory : List ℕ) (queue : ℕ) → QueuesStand p memory → queue_of p memory queue ≡ [] → (k : ℕ) → k < 2 →
      end_in p.heads memory k queue ≡ None

-- a thread, or an object at which threads may wait, begins with nobody named
pub record BeginsEmpty : Type 0 where
  pub size : (memory : List ℕ) (thread : ℕ) → thread + 512 ≤ length memory → length (without_links memory thread) ≡ length memory
  pub waits : (memory : List ℕ) (thread : ℕ) → thread + 512 ≤ length memory → link_at 244 (without_links memory thread) thread 0 ≡ None
  pub ready : (memory : List ℕ) (thread : ℕ) → thread + 512 ≤ length memory → link_at 256 (without_links memory thread) thread 0 ≡ None
  pub bytes : (memory : List ℕ) (thread place : ℕ) → thread + 512 ≤ length memory → (IsLinkByte 244 thread place → ⊥) → (IsLinkByte 256 thread place → ⊥)
      → slice_index (without_links memory thread) place ≡ slice_index memory place
  pub head_size : (memory : List ℕ) (head : ℕ) → head + 8 ≤ length memory → length (with_ends memory head nobody) ≡ length memory
  pub head : (memory : List ℕ) (head k : ℕ) → head + 8 ≤ length memory → k < 2 → end_at (with_ends memory head nobody) head k ≡ None
  pub head_bytes : (memory : List ℕ) (head place : ℕ) → head + 8 ≤ length memory → (IsHeadByte head place → ⊥)
      → slice_index (with_ends memory head nobody) place ≡ slice_index memory place
  -- and before anything begins, nobody is there
  pub none : (p : Places) (memory : List ℕ) → ((offset : ℕ) → p.threads offset ≡ false) → ((offset : ℕ) → p.heads offset ≡ None) → QueuesStand p memory
  pub no_queue : (p : Places) (memory : List ℕ) → ((offset : ℕ) → p.heads offset ≡ None) → (queue : ℕ) → queue_of p memory queue ≡ []
