-- What is so of both sides before an event: of the whole, and of the part alone.
use Rattle.std.specs.Prelude.{ℕ, ◌≡◌, true, List, Some}
use Rattle.model.specs.declared.events.Event.TheVariants.{Step}
use Rattle.model.specs.declared.labels.Label.{Label}
use Rattle.model.specs.Acceptance.Accepted.{IsAccepted}
use Rattle.model.specs.Images.Image.{Image}
use Rattle.model.specs.Kernel.Scheduling.{current}
use Rattle.model.specs.Kernel.State.{State}
use Rattle.model.specs.Kernel.Steps.{step}
use Rattle.headline.specs.facts.Standing.{AllStand}
use Rattle.headline.specs.integrity.Mapped.{AllMapAsHeld}
use Rattle.headline.specs.parts.Given.{AllHoldGiven}
use Rattle.headline.specs.parts.Parts.{Part, alone, is_thread_in, takes_nothing}
use Rattle.part_laws.specs.Agreeing.{AgreeFor}
use Rattle.part_laws.specs.Using.{AllUseQueues}
use Rattle.part_laws.specs.own.Read.{AllMapAsRead}

-- the whole in the state s, the part alone in the state t
pub record BothStand (image : Image) (part : Part) (s t : State) : Type 0 where
  pub bytes : List ℕ
  pub alone_bytes : List ℕ
  pub accepted : IsAccepted bytes image
  pub alone_accepted : IsAccepted alone_bytes (alone image part)
  pub nothing : takes_nothing image part ≡ true
  pub labels : List Label
  pub alone_labels : List Label
  pub stand : AllStand image s labels
  pub alone_stand : AllStand (alone image part) t alone_labels
  pub given : AllHoldGiven image s
  pub alone_given : AllHoldGiven (alone image part) t
  pub mapped : AllMapAsHeld image s
  pub alone_mapped : AllMapAsHeld (alone image part) t
  pub reads : AllMapAsRead image s
  pub alone_reads : AllMapAsRead (alone image part) t
  pub queues : AllUseQueues image s
  pub alone_queues : AllUseQueues (alone image part) t

-- a step in which a thread of the part runs is the same on both sides, and keeps that they agree
abbrev pub OwnStepsAgree : Type 0
OwnStepsAgree =
    (image : Image) (part : Part) (s t : State) (thread : ℕ) → BothStand image part s t → AgreeFor image part s t → current s ≡ Some thread
    → is_thread_in image part thread ≡ true
    → AgreeFor image part (step s Step).0 (step t Step).0 × ((step s Step).1 ≡ (step t Step).1)
