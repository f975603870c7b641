-- Those that are ready to run, as callers see them.
use Rattle.std.specs.Prelude.{ℕ, ◌≡◌, ◌==◌, ◌/◌, ◌%◌, ◌<◌, Bool, true, false, Option, Some, None, is_some, List, length, slice_index, slice_index_or}
use Rattle.std.specs.Int.{bit_at}
use Rattle.model.specs.Shared.Lists.{times_in}
use Rattle.queues.specs.links.Threaded.{AreLinked, Threaded, listed}
use Rattle.queues.specs.Layout.{Places}
use Rattle.queues.specs.Queues.{IsLinkByte}
use Rattle.queues.specs.Words.{link_in}
use Rattle.queues.specs.declared.words.Ends.{Ends}

-- the first and the last thread of an empty queue
abbrev pub nobody : Ends
nobody = record { first = None; last = None }

abbrev pub ends_of : List Ends → ℕ → Ends
ends_of ends priority = slice_index_or ends priority nobody

-- what the bytes, and the ends beside them, say of those that are ready
abbrev pub ready_in : Places → List Ends → List ℕ → Threaded
ready_in places ends memory = record {
  owner = link_in 256 places.threads memory 0;
  next = link_in 256 places.threads memory 1;
  previous = link_in 256 places.threads memory 2;
  first = λ priority. (ends_of ends priority).first;
  last = λ priority. (ends_of ends priority).last;
}

-- the threads that are ready at a priority
unfoldable pub ready_of : Places → List Ends → List ℕ → ℕ → List ℕ
ready_of places ends memory priority = listed (ready_in places ends memory) (length memory) priority

-- what each call that changes the list relies on and leaves true: the links are well formed
pub record ReadyStands (places : Places) (ends : List Ends) (memory : List ℕ) : Type 0 where
  pub linked : AreLinked (ready_in places ends memory) (length memory)

-- all bytes are the same but the links of threads that are ready
pub record SameBesideReady (queues : ℕ → List ℕ) (old new : List ℕ) : Type 0 where
  pub size : length new ≡ length old
  pub bytes : (place : ℕ) → ((priority thread : ℕ) → 0 < times_in (queues priority) thread → IsLinkByte 256 thread place → ⊥)
      → slice_index new place ≡ slice_index old place

-- ---- one bit for each priority

abbrev pub is_marked : List ℕ → ℕ → Bool
is_marked marks priority = bit_at (slice_index marks (priority / 64)) (priority % 64) == 1

-- each priority has its queue, and is marked exactly where that is not empty
pub record AreMarked (ends : List Ends) (marks : List ℕ) : Type 0 where
  pub long : length ends ≡ 256
  pub bits : (priority : ℕ) → priority < 256 → is_marked marks priority ≡ is_some (ends_of ends priority).first

-- a priority below the bound is marked, and no greater one below it
pub record IsTop (bound : ℕ) (marks : List ℕ) (priority : ℕ) : Type 0 where
  pub below : priority < bound
  pub marked : is_marked marks priority ≡ true
  pub rest : (other : ℕ) → priority < other → other < bound → is_marked marks other ≡ false

abbrev pub IsHighest : ℕ → List ℕ → Option ℕ → Type 0
IsHighest bound marks (Some priority) = IsTop bound marks priority
IsHighest bound marks None = (other : ℕ) → other < bound → is_marked marks other ≡ false
