-- The laws of this crate: single invocations, all threads after one, and whatever happens to an accepted image.
use Rattle.std.specs.Prelude.{ℕ, ◌+◌, ◌++◌, List, [], ◌∷◌, All, Contains, ◌≡◌, Some}
use Rattle.model.specs.declared.events.Event.TheVariants.{Step}
use Rattle.model.specs.declared.events.Event.{Event}
use Rattle.model.specs.declared.invocations.CNodeCall.TheVariants.{Copy, Mint, Move, Delete, Revoke}
use Rattle.model.specs.declared.invocations.FrameCall.TheVariants.{MapFrame, UnmapFrame}
use Rattle.model.specs.declared.invocations.Invocation.TheVariants.{OnUntyped, OnCNode, OnFrame}
use Rattle.model.specs.declared.invocations.Invocation.{Invocation}
use Rattle.model.specs.declared.invocations.RetypeCall.{RetypeCall}
use Rattle.model.specs.declared.invocations.SlotName.{SlotName}
use Rattle.model.specs.declared.invocations.UntypedMemory.{UntypedMemory}
use Rattle.model.specs.declared.labels.Label.TheVariants.{Ran}
use Rattle.model.specs.declared.labels.Label.{Label}
use Rattle.model.specs.declared.labels.Outcome.TheVariants.{Completed}
use Rattle.model.specs.declared.rights.Rights.{Rights}
use Rattle.model.specs.Acceptance.Accepted.{IsAccepted}
use Rattle.model.specs.Acceptance.CallRules.{AfterCall}
use Rattle.model.specs.Acceptance.Devices.{KeepsDevices}
use Rattle.model.specs.Acceptance.NotedStates.{NotedSlot, PointState}
use Rattle.model.specs.Acceptance.ThreadInvariants.{StandsAt, tcb_of}
use Rattle.model.specs.Images.Described.{Numbered, numbered_threads}
use Rattle.model.specs.Images.Image.{Image}
use Rattle.model.specs.Kernel.Scheduling.{current}
use Rattle.model.specs.Kernel.Soundness.{IsSound}
use Rattle.model.specs.Kernel.State.{State, ThreadState}
use Rattle.model.specs.Kernel.Steps.{completed, memory_base}
use Rattle.model.specs.declared.system_calls.SendCall.{SendCall}
use Rattle.soundness.specs.Laws.{AcknowledgementKeepsSoundness}
use Rattle.headline.specs.facts.Standing.{AllStand}
use Rattle.headline.specs.invocations.Answered.{DerivesFromSome, IsAnswered}
use Rattle.headline.specs.invocations.Changes.{ChangesOwn}
use Rattle.headline.specs.invocations.Invoking.{Invokes}
use Rattle.headline.specs.invocations.Mirrors.{Mirrors}
use Rattle.headline.specs.invocations.Performed.{InvokesWell, MayInvoke}
use Rattle.headline.specs.invocations.Running.{Runs}
use Rattle.headline.specs.moves.Laws.{Laws as LawsBelow}
use Rattle.headline.specs.moves.Moving.{CallsAt}
use Rattle.headline.specs.moves.Steps.{GoesWell, MakesCall, HasGoneWell}

-- before a call
abbrev pub MirrorNoted : Type 0
MirrorNoted =
    (bytes : List ℕ) (image : Image) (t : Numbered) (s : State) (labels : List Label) (own : ThreadState) (point : ℕ) (state : PointState)
    → IsAccepted bytes image → Contains (numbered_threads image) t → AllStand image s labels → StandsAt image t s own point state
    → Mirrors image t s state.slots

-- ---- single calls

abbrev pub CopiesGoWell : Type 0
CopiesGoWell =
    (image : Image) (t : Numbered) (s : State) (slots : List NotedSlot) (slot : ℕ) (destination source : SlotName) (rights_word : ℕ) → Mirrors image t s slots
    → (m : MayInvoke image t s slots slot (OnCNode (Copy destination source rights_word)))
    → InvokesWell image t s slot (OnCNode (Copy destination source rights_word)) m.noted

abbrev pub MintsGoWell : Type 0
MintsGoWell =
    (image : Image) (t : Numbered) (s : State) (slots : List NotedSlot) (slot : ℕ) (destination source : SlotName) (rights_word payload : ℕ)
    → Mirrors image t s slots
    → (m : MayInvoke image t s slots slot (OnCNode (Mint destination source rights_word payload)))
    → InvokesWell image t s slot (OnCNode (Mint destination source rights_word payload)) m.noted

abbrev pub MovesGoWell : Type 0
MovesGoWell =
    (image : Image) (t : Numbered) (s : State) (slots : List NotedSlot) (slot : ℕ) (destination source : SlotName) → Mirrors image t s slots
    → (m : MayInvoke image t s slots slot (OnCNode (Move destination source)))
    → InvokesWell image t s slot (OnCNode (Move destination source)) m.noted

abbrev pub DeletesGoWell : Type 0
DeletesGoWell =
    (image : Image) (t : Numbered) (s : State) (slots : List NotedSlot) (slot : ℕ) (name : SlotName) → Mirrors image t s slots → Runs image t s
    → (m : MayInvoke image t s slots slot (OnCNode (Delete name))) → InvokesWell image t s slot (OnCNode (Delete name)) m.noted

abbrev pub RevokesGoWell : Type 0
RevokesGoWell =
    (image : Image) (t : Numbered) (s : State) (slots : List NotedSlot) (slot : ℕ) (name : SlotName) → Mirrors image t s slots → Runs image t s
    → (m : MayInvoke image t s slots slot (OnCNode (Revoke name))) → InvokesWell image t s slot (OnCNode (Revoke name)) m.noted

abbrev pub RetypesGoWell : Type 0
RetypesGoWell =
    (image : Image) (t : Numbered) (s : State) (slots : List NotedSlot) (slot : ℕ) (memory : UntypedMemory) (retyped : RetypeCall) → Mirrors image t s slots
    → (m : MayInvoke image t s slots slot (OnUntyped memory retyped)) → InvokesWell image t s slot (OnUntyped memory retyped) m.noted

abbrev pub MapsGoWell : Type 0
MapsGoWell =
    (image : Image) (t : Numbered) (s : State) (slots : List NotedSlot) (slot : ℕ) (held : Rights) (root_name : SlotName) (address rights_word : ℕ)
    → Mirrors image t s slots
    → (m : MayInvoke image t s slots slot (OnFrame held (MapFrame root_name address rights_word)))
    → InvokesWell image t s slot (OnFrame held (MapFrame root_name address rights_word)) m.noted

abbrev pub UnmapsGoWell : Type 0
UnmapsGoWell =
    (image : Image) (t : Numbered) (s : State) (slots : List NotedSlot) (slot : ℕ) (held : Rights) → Mirrors image t s slots
    → (m : MayInvoke image t s slots slot (OnFrame held UnmapFrame)) → InvokesWell image t s slot (OnFrame held UnmapFrame) m.noted

-- ---- after a call

-- what the thread's slots hold derives from something still
abbrev pub DeriveBehind : Type 0
DeriveBehind =
    (image : Image) (t : Numbered) (s : State) (slots : List NotedSlot) (slot : ℕ) (c : Invocation) → Mirrors image t s slots
    → (m : MayInvoke image t s slots slot c)
    → (well : InvokesWell image t s slot c m.noted) → DerivesFromSome image t well.after

abbrev pub StandBehindChanges : Type 0
StandBehindChanges =
    (bytes : List ℕ) (image : Image) (t : Numbered) (s : State) (labels : List Label) (own : ThreadState) (point : ℕ) (state : PointState) (left : AfterCall)
    (kind : SendCall) (after : State) → IsAccepted bytes image → AllStand image s labels → Contains (numbered_threads image) t
    → CallsAt image t s labels own point state left → Mirrors image t s state.slots → ChangesOwn image t s after left.slots
    → DerivesFromSome image t after → IsAnswered kind state left → IsSound (completed after (tcb_of image t) kind)
    → AllStand image (completed after (tcb_of image t) kind) (labels ++ Ran (memory_base + tcb_of image t) own.registers.pc Completed ∷ [])

-- before a call each full slot of the thread's derives from something
abbrev pub OwnSlotsDeriveFromSome : Type 0
OwnSlotsDeriveFromSome = (image : Image) (t : Numbered) (s : State) (slots : List NotedSlot) → Mirrors image t s slots → DerivesFromSome image t s

-- ---- all threads, over steps and events

-- steps that invoke a capability
abbrev pub InvocationsGoWell : Type 0
InvocationsGoWell =
    (bytes : List ℕ) (image : Image) (t : Numbered) (s : State) (labels : List Label) → IsAccepted bytes image → AllStand image s labels
    → Contains (numbered_threads image) t → current s ≡ Some (tcb_of image t) → MakesCall s (tcb_of image t) → Invokes s (tcb_of image t)
    → GoesWell image s labels Step

-- whoever runs and whatever it does
abbrev pub AnyStepGoesWell : Type 0
AnyStepGoesWell =
    (bytes : List ℕ) (image : Image) (s : State) (labels : List Label) → IsAccepted bytes image → AllStand image s labels
    → GoesWell image s labels Step

-- whatever happens to an accepted image
abbrev pub EventsHaveGoneWell : Type 0
EventsHaveGoneWell =
    (bytes : List ℕ) (image : Image) (events : List Event) → IsAccepted bytes image → All (KeepsDevices image) events → HasGoneWell image events

-- ---- the laws that invocations are built on

pub record Laws : Type 0 where
  pub below : LawsBelow
  pub mirror : MirrorNoted
  pub copies : CopiesGoWell
  pub mints : MintsGoWell
  pub moves : MovesGoWell
  pub deletes : DeletesGoWell
  pub revokes : RevokesGoWell
  pub retypes : RetypesGoWell
  pub maps : MapsGoWell
  pub unmaps : UnmapsGoWell
  pub derive : DeriveBehind
  pub behind : StandBehindChanges
  pub acknowledges : AcknowledgementKeepsSoundness
