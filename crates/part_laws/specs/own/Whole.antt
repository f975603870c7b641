-- A whole step of a thread of the part, in the whole and alone.
use Rattle.std.specs.Prelude.{ℕ, ◌≡◌, true, Some}
use Rattle.model.specs.declared.events.Event.TheVariants.{Step}
use Rattle.model.specs.Acceptance.ThreadInvariants.{tcb_of}
use Rattle.model.specs.Images.Described.{Numbered}
use Rattle.model.specs.Images.Image.{Image}
use Rattle.model.specs.Kernel.Scheduling.{current}
use Rattle.model.specs.Kernel.State.{State}
use Rattle.model.specs.Kernel.Steps.{step}
use Rattle.headline.specs.parts.Agreeing.{IsMemberOf}
use Rattle.headline.specs.parts.Parts.{Part, is_thread_in}
use Rattle.part_laws.specs.Agreeing.{AgreeFor}
use Rattle.part_laws.specs.Both.{BothStand}
use Rattle.part_laws.specs.own.Invocations.{RemovalsAgree}
use Rattle.part_laws.specs.own.Read.{AllMapAsRead}

-- It is the same on both sides, and keeps that they agree, where what it removes does, and where frames are mapped by capabilities that may read.
abbrev pub OwnStepsAgreeWithRemovals : Type 0
OwnStepsAgreeWithRemovals =
    (image : Image) (part : Part) (s t : State) (thread : ℕ) → BothStand image part s t → AllMapAsRead image s → AgreeFor image part s t
    → current s ≡ Some thread → is_thread_in image part thread ≡ true
    → ((u : Numbered) → IsMemberOf image part u → tcb_of image u ≡ thread → RemovalsAgree image part s t u)
    → AgreeFor image part (step s Step).0 (step t Step).0 × ((step s Step).1 ≡ (step t Step).1)

-- A removal of one of the thread's slots, or of what derives from one, leaves both sides in agreement.
abbrev pub OwnRemovalsAgree : Type 0
OwnRemovalsAgree =
    (image : Image) (part : Part) (s t : State) (u : Numbered) → BothStand image part s t → AgreeFor image part s t → IsMemberOf image part u
    → current s ≡ Some (tcb_of image u) → RemovalsAgree image part s t u

-- So a step is the same on both sides, and keeps that they agree, where frames are mapped by capabilities that may read.
abbrev pub OwnStepsAgreeAsRead : Type 0
OwnStepsAgreeAsRead =
    (image : Image) (part : Part) (s t : State) (thread : ℕ) → BothStand image part s t → AllMapAsRead image s → AgreeFor image part s t
    → current s ≡ Some thread → is_thread_in image part thread ≡ true
    → AgreeFor image part (step s Step).0 (step t Step).0 × ((step s Step).1 ≡ (step t Step).1)
