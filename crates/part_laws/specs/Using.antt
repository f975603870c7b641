-- The queues that a thread uses: by the image it both takes and changes what it waits for, and so does whoever it may reply to.
use Rattle.std.specs.Prelude.{ℕ, ◌≡◌, ◌<◌, true, Some, Contains, List, All}
use Rattle.model.specs.declared.events.Event.{Event}
use Rattle.model.specs.Acceptance.Accepted.{IsAccepted}
use Rattle.model.specs.Acceptance.Devices.{KeepsDevices}
use Rattle.model.specs.Acceptance.ThreadInvariants.{tcb_of}
use Rattle.model.specs.Images.Described.{Numbered, described, numbered_threads}
use Rattle.model.specs.Images.Image.{Image, Thread}
use Rattle.model.specs.Images.Places.{offset_of}
use Rattle.model.specs.Kernel.State.{State, Blocked, ThreadObject, ThreadState}
use Rattle.model.specs.Kernel.Steps.{state_after}
use Rattle.headline.specs.parts.Given.{IsPoolAround}
use Rattle.headline.specs.parts.Parts.{changes, takes}

-- the queue is an object that the thread takes and changes, or lies in a pool of its own
pub data UsesQueue (image : Image) (t : Thread) (queue : ℕ) : Type 0 where
  of_image : (object : ℕ) → object < image.header.objects → takes image t object ≡ true → changes image t object ≡ true
      → queue ≡ offset_of image object → UsesQueue image t queue
  of_pool : IsPoolAround image t queue 1 → UsesQueue image t queue

-- the thread at an offset used a queue that this one uses
pub record SharesQueue (image : Image) (t : Thread) (caller : ℕ) : Type 0 where
  pub thread : Numbered
  pub listed : Contains (numbered_threads image) thread
  pub is : caller ≡ tcb_of image thread
  pub queue : ℕ
  pub here : UsesQueue image t queue
  pub there : UsesQueue image thread.thread queue

pub record AllUseQueues (image : Image) (s : State) : Type 0 where
  pub waits : (u : Numbered) (own : ThreadState) (queue : ℕ) → Contains (numbered_threads image) u → s.objects (tcb_of image u) ≡ Some (ThreadObject own)
      → own.status ≡ Blocked queue → UsesQueue image u.thread queue
  pub callers : (u : Numbered) (own : ThreadState) (caller : ℕ) → Contains (numbered_threads image) u
      → s.objects (tcb_of image u) ≡ Some (ThreadObject own) → own.caller ≡ Some caller → SharesQueue image u.thread caller

-- so it is after any events
abbrev pub QueuesAreUsed : Type 0
QueuesAreUsed =
    (bytes : List ℕ) (image : Image) (events : List Event) → IsAccepted bytes image → All (KeepsDevices image) events
    → AllUseQueues image (state_after (described image) events)
