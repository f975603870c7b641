-- Queues of threads that are linked in both directions: what the links of each thread say, and the first and the last thread of each queue.
-- Knuth, The Art of Computer Programming 1, 2.2.5, "Doubly Linked Lists".
use Rattle.std.specs.Prelude.{ℕ, zero, suc, ◌≡◌, ◌<◌, ◌≤◌, Option, Some, None, List, [], ◌∷◌}
use Rattle.model.specs.Capabilities.Orders.{first_of}
use Rattle.model.specs.Kernel.State.{put}
use Rattle.model.specs.Shared.Lists.{times_in}
use Rattle.slots.specs.preorder.Chains.{IsChain, Links, put_at}

pub record Threaded : Type 0 where
  -- of each thread: the queue that it is in, the next thread in it, and the previous one
  pub owner : Links
  pub next : Links
  pub previous : Links
  -- of each queue
  pub first : Links
  pub last : Links

-- the list of so many threads that links lead through from one on
abbrev pub linked : Links → ℕ → Option ℕ → List ℕ
linked next zero at = []
linked next (suc n) None = []
linked next (suc n) (Some thread) = thread ∷ linked next n (next thread)

-- the threads of a queue, if no thread has a number of this size
abbrev pub listed : Threaded → ℕ → ℕ → List ℕ
listed w size queue = linked w.next (suc size) (w.first queue)

-- the last of a list, or who is before it
abbrev pub last_or : Option ℕ → List ℕ → Option ℕ
last_or before [] = before
last_or before (thread ∷ rest) = last_or (Some thread) rest

-- the links say that these are the queues
pub record AreLinkedAs (w : Threaded) (lists : ℕ → List ℕ) : Type 0 where
  pub chain : (queue : ℕ) → IsChain w.next w.previous None (lists queue)
  pub first : (queue : ℕ) → w.first queue ≡ first_of (lists queue)
  pub last : (queue : ℕ) → w.last queue ≡ last_or None (lists queue)
  pub once : (queue thread : ℕ) → times_in (lists queue) thread ≤ 1
  pub owned : (queue thread : ℕ) → 0 < times_in (lists queue) thread → w.owner thread ≡ Some queue
  pub stands : (queue thread : ℕ) → w.owner thread ≡ Some queue → 0 < times_in (lists queue) thread

pub record AreLinked (w : Threaded) (size : ℕ) : Type 0 where
  pub queues : AreLinkedAs w (listed w size)
  pub near : (queue thread : ℕ) → w.owner thread ≡ Some queue → thread < size

-- the same threads are in queues, linked in the same way
pub record SameQueues (w v : Threaded) : Type 0 where
  pub owner : (thread : ℕ) → v.owner thread ≡ w.owner thread
  pub next : (queue thread : ℕ) → w.owner thread ≡ Some queue → v.next thread ≡ w.next thread
  pub previous : (queue thread : ℕ) → w.owner thread ≡ Some queue → v.previous thread ≡ w.previous thread
  pub first : (queue : ℕ) → v.first queue ≡ w.first queue
  pub last : (queue : ℕ) → v.last queue ≡ w.last queue

-- ---- changes

-- the first of a queue, if another thread is after it
abbrev pub first_joined : Option ℕ → ℕ → Option ℕ
first_joined None thread = Some thread
first_joined (Some first) thread = Some first

-- a thread that is in no queue comes after all others of this one
abbrev pub pushed : Threaded → ℕ → ℕ → Threaded
pushed w queue thread = record {
  owner = put w.owner thread (Some queue);
  next = put_at (put w.next thread None) (w.last queue) (Some thread);
  previous = put w.previous thread (w.last queue);
  first = put w.first queue (first_joined (w.first queue) thread);
  last = put w.last queue (Some thread);
}

-- the end of a queue without a thread that has one neighbour towards that end, and this one away from it
abbrev pub end_without : Option ℕ → Option ℕ → Option ℕ → Option ℕ
end_without None away end = away
end_without (Some towards) away end = end

-- a thread is taken out from between its neighbours in this queue
abbrev pub left : Threaded → ℕ → ℕ → Threaded
left w queue thread = record {
  owner = put w.owner thread None;
  next = put_at w.next (w.previous thread) (w.next thread);
  previous = put_at w.previous (w.next thread) (w.previous thread);
  first = put w.first queue (end_without (w.previous thread) (w.next thread) (w.first queue));
  last = put w.last queue (end_without (w.next thread) (w.previous thread) (w.last queue));
}
