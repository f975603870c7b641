-- Integrity of a whole run, by the image alone: what a thread may ever change, and that over a run nothing changes but what threads that ran
-- in it may change, and words that the world wrote.
-- seL4's integrity speaks of single steps and of an access control policy; here the policy is the image, and the words are our own.
use Rattle.std.specs.Prelude.{ℕ, ◌≡◌, ◌≢◌, ◌⊎◌, ◌+◌, ◌^◌, ◌<◌, ◌≤◌, ◌&&◌, ◌||◌, Bool, true, nat_le, nat_lt, Some, Contains, List, ◌∷◌, ◌++◌}
use Rattle.std.specs.List.{list_any, range_with_len}
use Rattle.model.specs.declared.events.Event.{Event}
use Rattle.model.specs.declared.events.Event.TheVariants.{Step, Write}
use Rattle.model.specs.Acceptance.Authority.{self_of}
use Rattle.model.specs.Acceptance.NotedKernel.{stands_in}
use Rattle.model.specs.Acceptance.ThreadRules.{reached}
use Rattle.model.specs.Acceptance.WellFormed.{is_frame_type, is_untyped_type}
use Rattle.model.specs.Images.Described.{described, start_registers}
use Rattle.model.specs.Images.Image.{Image, Thread}
use Rattle.model.specs.Images.Places.{bits_of, object_at, offset_of, type_at}
use Rattle.model.specs.Kernel.Kinds.{kind_at}
use Rattle.model.specs.Kernel.Scheduling.{current}
use Rattle.model.specs.Kernel.State.{State, thread_at}
use Rattle.model.specs.Kernel.Steps.{place_of, state_after}
use Rattle.headline.specs.parts.Parts.{changes, lists}

-- ---- what a thread may ever change, by the image

-- whether a place is one of the object's bytes
abbrev pub holds_place : Image → ℕ → ℕ → Bool
holds_place image place number =
    nat_le (offset_of image number) place && nat_lt place (offset_of image number + 2 ^ bits_of (object_at image number))

-- whether the image gives the thread untyped memory with the place
unfoldable pub has_memory_at : Image → Thread → ℕ → Bool
has_memory_at image t place = lists image t (λ c. is_untyped_type (type_at image c.source) && holds_place image place c.source)

-- whether the place is in a frame of the image that the thread may change: it maps the frame with write, has a capability to it with write, or has
-- it as its message buffer
unfoldable pub has_frame_at : Image → Thread → ℕ → Bool
has_frame_at image t place =
    list_any (λ number. is_frame_type (type_at image number) && changes image t number && holds_place image place number)
    (range_with_len 0 image.header.objects)

abbrev pub may_write_at : Image → Thread → ℕ → Bool
may_write_at image t place = has_frame_at image t place || has_memory_at image t place

-- whether a slot is of a CNode that the image gives the thread
abbrev pub owns_slot : Image → Thread → ℕ → Bool
owns_slot image t slot = list_any (stands_in image slot) (reached image t)

-- ---- who ran, and what the world wrote

-- the thread made one of the steps of the run
pub record HasRun (image : Image) (events : List Event) (t : Thread) : Type 0 where
  pub before : List Event
  pub later : List Event
  pub is : events ≡ before ++ Step ∷ later
  pub runs : current (state_after (described image) before) ≡ Some (self_of image t)

-- a thread that did so passes a test
pub record SomeRan (image : Image) (events : List Event) (test : Thread → Bool) : Type 0 where
  pub thread : Thread
  pub listed : Contains image.threads thread
  pub ran : HasRun image events thread
  pub passes : test thread ≡ true

-- the world wrote a word over the place
pub record WorldWrote (events : List Event) (place : ℕ) : Type 0 where
  pub before : List Event
  pub later : List Event
  pub address : ℕ
  pub word : ℕ
  pub is : events ≡ before ++ Write address word ∷ later
  pub begins : place_of address ≤ place
  pub ends : place < place_of address + 4

-- ---- a whole run

abbrev pub last_of : Image → List Event → State
last_of image events = state_after (described image) events

pub record HasIntegrity (image : Image) (events : List Event) : Type 0 where
  -- a byte changes only where a thread that ran may write it, or the world wrote it
  pub bytes : (place : ℕ) → (last_of image events).bytes place ≢ (described image).bytes place
      → SomeRan image events (λ t. may_write_at image t place) ⊎ WorldWrote events place
  -- objects appear and end only inside untyped memory of a thread that ran
  pub objects : (offset : ℕ) → kind_at (last_of image events) offset ≢ kind_at (described image) offset
      → SomeRan image events (λ t. has_memory_at image t offset)
  -- a slot changes only in the CNodes of a thread that ran
  pub slots : (slot : ℕ) → (last_of image events).slots slot ≢ (described image).slots slot → SomeRan image events (λ t. owns_slot image t slot)
  -- a thread's registers change only if it ran
  pub registers : (t : Thread) → Contains image.threads t → (thread_at (last_of image events) (self_of image t)).registers ≢ start_registers t
      → HasRun image events t
