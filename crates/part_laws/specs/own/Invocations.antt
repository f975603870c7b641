-- Invocations of a thread of the part, in the whole and alone.
use Rattle.std.specs.Prelude.{ℕ, ◌≡◌, List, Some, Ok}
use Rattle.model.specs.declared.capabilities.Cap.TheVariants.{InterruptHandler}
use Rattle.model.specs.declared.labels.Label.{Label}
use Rattle.model.specs.declared.system_calls.SendCall.{SendCall}
use Rattle.model.specs.declared.system_calls.SystemCall.TheVariants.{Sends}
use Rattle.model.specs.Acceptance.Accepted.{IsAccepted}
use Rattle.model.specs.Acceptance.Authority.{IsOwnSlot, MakesCall}
use Rattle.model.specs.Acceptance.ThreadInvariants.{tcb_of}
use Rattle.model.specs.Capabilities.Slots.{capability_at}
use Rattle.model.specs.Images.Described.{Numbered}
use Rattle.model.specs.Images.Image.{Image}
use Rattle.model.specs.Kernel.Interrupts.{acknowledge}
use Rattle.model.specs.Kernel.Messages.{a7}
use Rattle.model.specs.Kernel.Removal.{delete, revoke}
use Rattle.model.specs.Kernel.Scheduling.{current}
use Rattle.model.specs.Kernel.State.{State}
use Rattle.model.specs.Kernel.Steps.{call_of, invokes, named_slot, registers_of}
use Rattle.model.specs.Machine.ProgramMemory.{read}
use Rattle.headline.specs.calls.Messages.{IsInvoked}
use Rattle.headline.specs.facts.Standing.{AllStand}
use Rattle.headline.specs.parts.Agreeing.{IsMemberOf}
use Rattle.headline.specs.parts.Given.{AllHoldGiven}
use Rattle.headline.specs.parts.Parts.{Part, alone}
use Rattle.part_laws.specs.Agreeing.{AgreeFor}
use Rattle.part_laws.specs.own.Dispatch.{SameDone}

-- What an invocation leans on besides: the removal of one of the thread's slots, or of what derives from one, leaves both sides in agreement.
pub record RemovalsAgree (image : Image) (part : Part) (s t : State) (u : Numbered) : Type 0 where
  pub deletes : (slot : ℕ) (after other : State) → IsOwnSlot image u.thread slot → delete s slot ≡ Ok after → delete t slot ≡ Ok other
      → AgreeFor image part after other
  pub revokes : (slot : ℕ) (after other : State) → IsOwnSlot image u.thread slot → revoke s slot ≡ Ok after → revoke t slot ≡ Ok other
      → AgreeFor image part after other

-- so does the acknowledgement of a line whose handler the thread has
abbrev pub AcksAgree : Image → Part → State → State → Numbered → Type 0
AcksAgree image part s t u =
    (slot number : ℕ) → IsOwnSlot image u.thread slot → capability_at s.slots slot ≡ InterruptHandler number
    → AgreeFor image part (acknowledge s number) (acknowledge t number)

-- With that Copy, Mint, Move, Map, Unmap, Retype and the removals leave both sides in agreement, and the caller gets the same answer.
abbrev pub OwnInvocationsAgreeWith : Type 0
OwnInvocationsAgreeWith =
    (bytes others : List ℕ) (image : Image) (part : Part) (s t : State) (labels later : List Label) (u : Numbered) (kind : SendCall) (slot : ℕ)
    → IsAccepted bytes image → IsAccepted others (alone image part) → AllStand image s labels → AllStand (alone image part) t later
    → IsMemberOf image part u → AgreeFor image part s t → current s ≡ Some (tcb_of image u) → MakesCall s (tcb_of image u) → MakesCall t (tcb_of image u)
    → RemovalsAgree image part s t u → AcksAgree image part s t u → AllHoldGiven image s → IsOwnSlot image u.thread slot
    → call_of (read (registers_of s (tcb_of image u)) a7) ≡ Some (Sends kind)
    → named_slot s (tcb_of image u) ≡ Ok slot → IsInvoked (capability_at s.slots slot)
    → SameDone image part (invokes s (tcb_of image u) kind slot (capability_at s.slots slot))
    (invokes t (tcb_of image u) kind slot (capability_at s.slots slot))
