-- A level: the threads of an image of a priority and above, and how many steps on end are theirs.
use Rattle.std.specs.Prelude.{ℕ, ◌≡◌, ◌+◌, ◌≤◌, ◌&&◌, ◌++◌, Bool, nat_le, List, fold, Some, if◌then◌else◌, false, [], ◌∷◌}
use Rattle.std.specs.List.{list_any}
use Rattle.model.specs.declared.events.Event.{Event}
use Rattle.model.specs.declared.events.Event.TheVariants.{Step}
use Rattle.model.specs.declared.labels.Label.{Label}
use Rattle.model.specs.declared.labels.Label.TheVariants.{Idle, Ticked, Raised, Wrote, Showed, Ran}
use Rattle.model.specs.Acceptance.ThreadInvariants.{tcb_of}
use Rattle.model.specs.Images.Described.{Numbered, described, numbered_threads}
use Rattle.model.specs.Images.Image.{Image}
use Rattle.model.specs.Kernel.State.{State, ThreadObject, ThreadState}
use Rattle.model.specs.Kernel.Steps.{state_after, step, trace}
use Rattle.model.specs.Kernel.Waits.{is_of}

-- the thread is of the level
abbrev pub is_of_level : ℕ → Numbered → Bool
is_of_level priority t = nat_le priority t.thread.header.priority

-- a label of one of its threads
abbrev pub is_level_label : Image → ℕ → Label → Bool
is_level_label image priority label = list_any (λ t. is_of_level priority t && is_of (tcb_of image t) label) (numbered_threads image)

-- how many steps of the level there have been on end: ticks, interrupts and what the world does between them do not count, and end nothing
abbrev pub count_level : Image → ℕ → ℕ → Label → ℕ
count_level image priority count Ticked = count
count_level image priority count (Raised irq_line) = count
count_level image priority count (Wrote address word) = count
count_level image priority count (Showed address word) = count
count_level image priority count Idle = 0
count_level image priority count (Ran thread pc outcome) = if is_level_label image priority (Ran thread pc outcome) then count + 1 else 0

unfoldable pub open_run : Image → ℕ → List Label → ℕ
open_run image priority labels = fold (count_level image priority) 0 labels

-- no more than so many steps on end are of the level
abbrev pub KeepsLevel : Image → ℕ → ℕ → List Event → Type 0
KeepsLevel image priority most events =
    (before later : List Event) → events ≡ before ++ later → open_run image priority (trace (described image) before) ≤ most

-- nor once the level has rested: after a step that was not its own
abbrev pub KeepsLevelOnceRested : Image → ℕ → ℕ → List Event → Type 0
KeepsLevelOnceRested image priority most events =
    (front more later : List Event) → events ≡ (front ++ Step ∷ []) ++ more ++ later
    → is_level_label image priority (step (state_after (described image) front) Step).1 ≡ false
    → open_run image priority (trace (described image) ((front ++ Step ∷ []) ++ more)) ≤ most

-- the thread has the priority that the image gives it
pub record HasItsPriority (image : Image) (t : Numbered) (s : State) : Type 0 where
  pub own : ThreadState
  pub is : s.objects (tcb_of image t) ≡ Some (ThreadObject own)
  pub priority : own.priority ≡ t.thread.header.priority
