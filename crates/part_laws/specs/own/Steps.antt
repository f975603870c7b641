-- A step of a thread of the part, in the whole and alone.
use Rattle.std.specs.Prelude.{ℕ, ◌≡◌, true, List, Some, Ok}
use Rattle.model.specs.declared.capabilities.Cap.TheVariants.{Notification}
use Rattle.model.specs.declared.events.Event.TheVariants.{Step}
use Rattle.model.specs.declared.labels.Label.{Label}
use Rattle.model.specs.declared.rights.Rights.{Rights}
use Rattle.model.specs.declared.system_calls.SendCall.{SendCall}
use Rattle.model.specs.declared.system_calls.SystemCall.TheVariants.{Sends}
use Rattle.model.specs.Acceptance.Accepted.{IsAccepted}
use Rattle.model.specs.Acceptance.Authority.{IsOwnSlot, MakesCall}
use Rattle.model.specs.Acceptance.ThreadInvariants.{tcb_of}
use Rattle.model.specs.Capabilities.Rights.{may_write}
use Rattle.model.specs.Capabilities.Slots.{capability_at}
use Rattle.model.specs.Images.Described.{Numbered}
use Rattle.model.specs.Images.Image.{Image}
use Rattle.model.specs.Kernel.Messages.{a7, signal}
use Rattle.model.specs.Kernel.Scheduling.{current}
use Rattle.model.specs.Kernel.State.{State, endpoint_at, thread_at}
use Rattle.model.specs.Kernel.Steps.{call_of, invokes, named_slot, registers_of, step}
use Rattle.model.specs.Machine.ProgramMemory.{read}
use Rattle.headline.specs.calls.Messages.{IsInvoked}
use Rattle.headline.specs.facts.Standing.{AllStand}
use Rattle.headline.specs.parts.Agreeing.{IsMemberOf, WaitInside}
use Rattle.headline.specs.parts.Given.{AllHoldGiven}
use Rattle.headline.specs.parts.Parts.{Part, alone, is_thread_in}
use Rattle.part_laws.specs.Agreeing.{AgreeFor, IsOfPart}
use Rattle.part_laws.specs.own.Dispatch.{SameDone}
use Rattle.part_laws.specs.own.Read.{AllMapAsRead}

-- What a system call of the thread leans on besides: who waits at the part's endpoints is of the part, and so is whom it may answer; what it rings
-- and what it invokes leaves both sides in agreement.
pub record CallAgrees (image : Image) (part : Part) (s t : State) (u : Numbered) : Type 0 where
  pub waiters : (offset : ℕ) → IsOfPart image part offset → WaitInside image part (endpoint_at s offset)
  pub caller : (other : ℕ) → (thread_at s (tcb_of image u)).caller ≡ Some other → is_thread_in image part other ≡ true
  pub rings : (slot offset badge : ℕ) (r : Rights) → IsOwnSlot image u.thread slot → capability_at s.slots slot ≡ Notification offset r badge
      → may_write r ≡ true → AgreeFor image part (signal s offset badge) (signal t offset badge)
  pub invocation : (kind : SendCall) (slot : ℕ) → IsOwnSlot image u.thread slot → call_of (read (registers_of s (tcb_of image u)) a7) ≡ Some (Sends kind)
      → named_slot s (tcb_of image u) ≡ Ok slot → IsInvoked (capability_at s.slots slot)
      → SameDone image part (invokes s (tcb_of image u) kind slot (capability_at s.slots slot))
      (invokes t (tcb_of image u) kind slot (capability_at s.slots slot))

-- With that a step of the thread is the same on both sides, and keeps that they agree.
abbrev pub OwnStepsAgreeWith : Type 0
OwnStepsAgreeWith =
    (bytes others : List ℕ) (image : Image) (part : Part) (s t : State) (labels later : List Label) (u : Numbered) → IsAccepted bytes image
    → IsAccepted others (alone image part) → AllStand image s labels → AllStand (alone image part) t later → AllHoldGiven image s → AllMapAsRead image s
    → IsMemberOf image part u → AgreeFor image part s t → current s ≡ Some (tcb_of image u)
    → (MakesCall s (tcb_of image u) → CallAgrees image part s t u)
    → AgreeFor image part (step s Step).0 (step t Step).0 × ((step s Step).1 ≡ (step t Step).1)
