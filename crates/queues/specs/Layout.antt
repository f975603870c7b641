-- What is where in memory, as far as queues ask.
use Rattle.std.specs.Prelude.{ℕ, ◌≡◌, ◌≢◌, ◌+◌, ◌%◌, ◌^◌, ◌<◌, ◌≤◌, ◌⊎◌, Bool, true, Option, Some}
use Rattle.model.specs.Capabilities.Slots.{OutsideSlots, Slots}

pub record Places : Type 0 where
  -- whether a thread is at an offset
  pub threads : ℕ → Bool
  -- where an object keeps the first and the last of those that wait at it
  pub heads : ℕ → Option ℕ

-- A thread has 512 bytes. Those of its links, from 244 to 267, lie in no open slot.
pub record IsThreadAt (slots : Slots) (size thread : ℕ) : Type 0 where
  pub few : size ≤ 2 ^ 24
  pub within : thread + 512 ≤ size
  pub outside : OutsideSlots slots (thread + 244) 24

-- The first and the last of those that wait are two words, which lie in no open slot.
pub record IsHeadAt (slots : Slots) (size head : ℕ) : Type 0 where
  pub few : size ≤ 2 ^ 24
  pub within : head + 8 ≤ size
  pub outside : OutsideSlots slots head 8

-- the links of threads, and what objects keep of those that wait at them, lie apart from each other in memory of this size
pub record AreLaidOut (places : Places) (slots : Slots) (size : ℕ) : Type 0 where
  pub aligned : (thread : ℕ) → places.threads thread ≡ true → thread % 512 ≡ 0
  pub threads : (thread : ℕ) → places.threads thread ≡ true → IsThreadAt slots size thread
  pub named : (queue head : ℕ) → places.heads queue ≡ Some head → queue < size
  pub heads : (queue head : ℕ) → places.heads queue ≡ Some head → IsHeadAt slots size head
  pub apart : (queue head other place : ℕ) → places.heads queue ≡ Some head → places.heads other ≡ Some place → other ≢ queue
      → (head + 8 ≤ place) ⊎ (place + 8 ≤ head)
  pub beside : (queue head thread : ℕ) → places.heads queue ≡ Some head → places.threads thread ≡ true
      → (head + 8 ≤ thread + 244) ⊎ (thread + 268 ≤ head)
