-- Those that wait at objects, as callers see them.
use Rattle.std.specs.Prelude.{ℕ, ◌≡◌, ◌+◌, ◌<◌, ◌≤◌, Some, List, length, slice_index}
use Rattle.model.specs.Shared.Lists.{times_in}
use Rattle.queues.specs.links.Threaded.{AreLinked, Threaded, listed}
use Rattle.queues.specs.Layout.{Places}
use Rattle.queues.specs.Words.{end_in, link_in}

-- what the bytes say of those that wait
abbrev pub waiting_in : Places → List ℕ → Threaded
waiting_in places memory = record {
  owner = link_in 244 places.threads memory 0;
  next = link_in 244 places.threads memory 1;
  previous = link_in 244 places.threads memory 2;
  first = end_in places.heads memory 0;
  last = end_in places.heads memory 1;
}

-- the threads that wait at an object
unfoldable pub queue_of : Places → List ℕ → ℕ → List ℕ
queue_of places memory queue = listed (waiting_in places memory) (length memory) queue

-- what each call that changes queues relies on and leaves true: the links are well formed
pub record QueuesStand (places : Places) (memory : List ℕ) : Type 0 where
  pub linked : AreLinked (waiting_in places memory) (length memory)

-- a byte of the links of a thread, from such a base on, and one of the first and the last of those that wait
abbrev pub IsLinkByte : ℕ → ℕ → ℕ → Type 0
IsLinkByte base thread place = (thread + base ≤ place) × (place < thread + base + 12)

abbrev pub IsHeadByte : ℕ → ℕ → Type 0
IsHeadByte head place = (head ≤ place) × (place < head + 8)

-- all bytes are the same but the links of threads that wait, and the first and the last of those with which they wait
pub record SameBesideWaiting (places : Places) (queues : ℕ → List ℕ) (old new : List ℕ) : Type 0 where
  pub size : length new ≡ length old
  pub bytes : (place : ℕ) → ((queue thread : ℕ) → 0 < times_in (queues queue) thread → IsLinkByte 244 thread place → ⊥)
      → ((queue head thread : ℕ) → 0 < times_in (queues queue) thread → places.heads queue ≡ Some head → IsHeadByte head place → ⊥)
      → slice_index new place ≡ slice_index old place
