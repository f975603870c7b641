-- When a level rests, and when an acknowledged line is dealt with.
use Rattle.std.specs.Prelude.{ℕ, ◌≡◌, ◌≤◌, ◌++◌, Contains, List, Some, false, true}
use Rattle.model.specs.declared.events.Event.{Event}
use Rattle.model.specs.Acceptance.ThreadInvariants.{tcb_of}
use Rattle.model.specs.Images.Described.{Numbered, described, numbered_threads}
use Rattle.model.specs.Images.Image.{Image}
use Rattle.model.specs.Kernel.Scheduling.{is_runnable}
use Rattle.model.specs.Kernel.State.{Blocked, NotificationObject, NotificationState, State, ThreadObject, ThreadState, thread_at}
use Rattle.model.specs.Kernel.Steps.{state_after, trace}
use Rattle.response.specs.Levels.{is_of_level, open_run}
use Rattle.response.specs.Rates.{steps_in}
use Rattle.response.specs.Resting.{IsTended}

-- no thread of the level may run
abbrev pub Rests : Image → ℕ → State → Type 0
Rests image priority s =
    (t : Numbered) → Contains (numbered_threads image) t → is_of_level priority t ≡ true → is_runnable (thread_at s (tcb_of image t)).status ≡ false

-- The line is dealt with: the thread that tends it waits at its notification, where no word stands; the line is open, and nothing is
-- pending on it. So whatever interrupt of it there was has been taken and acknowledged.
pub record IsDealtWith (image : Image) (number : ℕ) (a : IsTended image number) (s : State) : Type 0 where
  pub own : ThreadState
  pub there : s.objects (tcb_of image a.thread) ≡ Some (ThreadObject own)
  pub waits : own.status ≡ Blocked a.queue
  pub bell : NotificationState
  pub is_bell : s.objects a.queue ≡ Some (NotificationObject bell)
  pub none : bell.word ≡ 0
  pub unmasked : s.masked number ≡ false
  pub silent : s.pending number ≡ false

-- over a window of events after others no more than so many steps on end are of the level
abbrev pub KeepsLevelOver : Image → ℕ → ℕ → List Event → List Event → Type 0
KeepsLevelOver image priority most before window =
    (front rest : List Event) → window ≡ front ++ rest → open_run image priority (trace (described image) (before ++ front)) ≤ most

-- within the first so many steps of a window there is a moment of which this holds
pub record HoldsWithin (image : Image) (most : ℕ) (before window : List Event) (Holds : State → Type 0) : Type 0 where
  pub front : List Event
  pub rest : List Event
  pub place : window ≡ front ++ rest
  pub few : steps_in front ≤ most
  pub holds : Holds (state_after (described image) (before ++ front))
