-- The laws on calls: what each changes stays within authority, from every sound state.
use Rattle.std.specs.Prelude.{ℕ, ◌≡◌, ◌≢◌, true, IsTrue, All, Contains, List, Option, Some, None, Ok}
use Rattle.model.specs.declared.capabilities.Cap.{Cap}
use Rattle.model.specs.declared.capabilities.Cap.TheVariants.{Endpoint, Frame, InterruptControl, InterruptHandler, Notification}
use Rattle.model.specs.declared.capabilities.FrameMapping.{FrameMapping}
use Rattle.model.specs.declared.events.Event.{Event}
use Rattle.model.specs.declared.events.Event.TheVariants.{Step}
use Rattle.model.specs.declared.labels.Label.{Label}
use Rattle.model.specs.declared.capabilities.TableMapping.{TableMapping}
use Rattle.model.specs.declared.invocations.HandlerCall.TheVariants.{Acknowledge}
use Rattle.model.specs.declared.invocations.CNodeCall.TheVariants.{Copy, Mint, Move, Delete, Revoke}
use Rattle.model.specs.declared.invocations.FrameCall.TheVariants.{MapFrame, UnmapFrame}
use Rattle.model.specs.declared.invocations.Invocation.{Invocation}
use Rattle.model.specs.declared.invocations.Invocation.TheVariants.{OnUntyped, OnCNode, OnFrame, OnHandler}
use Rattle.model.specs.declared.invocations.RetypeCall.{RetypeCall}
use Rattle.model.specs.declared.invocations.SlotName.{SlotName}
use Rattle.model.specs.declared.invocations.UntypedMemory.{UntypedMemory}
use Rattle.model.specs.declared.rights.Rights.{Rights}
use Rattle.model.specs.declared.system_calls.ReceiveCall.{ReceiveCall}
use Rattle.model.specs.declared.system_calls.SendCall.{SendCall}
use Rattle.model.specs.declared.system_calls.SystemCall.TheVariants.{PutsCharacter, Receives, Replies, RepliesAndReceives, Sends, Yields}
use Rattle.model.specs.Acceptance.Accepted.{IsAccepted}
use Rattle.model.specs.Acceptance.Authority.{IsOwnSlot, StaysWithin, WithinAuthority, self_of}
use Rattle.model.specs.Acceptance.Devices.{IsOfData, KeepsDevices}
use Rattle.model.specs.Acceptance.NotedStates.{NotedSlot}
use Rattle.model.specs.Acceptance.ThreadInvariants.{tcb_of}
use Rattle.model.specs.Capabilities.CapabilityKinds.{frame_mapping, table_mapping}
use Rattle.model.specs.Capabilities.Rights.{may_read, may_write}
use Rattle.model.specs.Capabilities.Slots.{capability_at, parent_at}
use Rattle.model.specs.Images.Described.{Numbered, described, numbered_threads}
use Rattle.model.specs.Images.Image.{Image, Thread}
use Rattle.model.specs.Images.Places.{offset_of}
use Rattle.model.specs.Kernel.Arguments.{Call}
use Rattle.model.specs.Kernel.CNodeCalls.{copy, mint, move as moved}
use Rattle.model.specs.Kernel.Invocations.{perform}
use Rattle.model.specs.Kernel.MappingCalls.{unmap_frame}
use Rattle.model.specs.Kernel.Soundness.{IsSound}
use Rattle.model.specs.Kernel.State.{State, Runnable, AwaitsHandler, ThreadObject, ThreadState, thread_at}
use Rattle.model.specs.Kernel.Scheduling.{current}
use Rattle.model.specs.Kernel.World.{is_word_of_frame}
use Rattle.model.specs.Kernel.Steps.{call_of, completed, named_slot, state_after, step, system_call}
use Rattle.headline.specs.facts.Standing.{AllStand}
use Rattle.headline.specs.invocations.Mirrors.{Mirrors}
use Rattle.headline.specs.invocations.Performed.{MayInvoke}
use Rattle.headline.specs.invocations.Running.{Runs}
use Rattle.headline.specs.moves.Steps.{InvokesNothing, MakesCall}
use Rattle.headline.specs.steps.Points.{ReachesNoCall}
use Rattle.typestate.specs.Calls.{call_on}
use Rattle.headline.specs.authority.HeldInside.{AllHoldInside, AllPoolsStay, HoldsInside}
use Rattle.headline.specs.authority.OwnMaps.{AllMapOwn, MapsOwn}
use Rattle.headline.specs.authority.Scenarios.{CallsOn, GetsHandler, HaveOwnBuffers, MapsFrame, OwnSlots, RunsAt, asked}

-- what the thread's system call leaves
abbrev pub CallStaysWithin : Image → Thread → State → Type 0
CallStaysWithin image t s = WithinAuthority image t s (system_call s (self_of image t)).0

-- ---- messages and signals

abbrev pub SendsStayWithin : Type 0
SendsStayWithin =
    (image : Image) (t : Thread) (s : State) (kind : SendCall) (number endpoint badge : ℕ) (allowed : Rights) → IsSound s
    → call_of number ≡ Some (Sends kind) → CallsOn image t s number (Endpoint endpoint allowed badge) → IsTrue (may_write allowed)
    → CallStaysWithin image t s

abbrev pub SignalsStayWithin : Type 0
SignalsStayWithin =
    (image : Image) (t : Thread) (s : State) (kind : SendCall) (number notification badge : ℕ) (allowed : Rights) → IsSound s
    → call_of number ≡ Some (Sends kind) → CallsOn image t s number (Notification notification allowed badge) → IsTrue (may_write allowed)
    → CallStaysWithin image t s

abbrev pub ReceivesStayWithin : Type 0
ReceivesStayWithin =
    (image : Image) (t : Thread) (s : State) (kind : ReceiveCall) (number endpoint badge : ℕ) (allowed : Rights) → IsSound s
    → call_of number ≡ Some (Receives kind) → CallsOn image t s number (Endpoint endpoint allowed badge) → IsTrue (may_read allowed)
    → CallStaysWithin image t s

abbrev pub WaitsStayWithin : Type 0
WaitsStayWithin =
    (image : Image) (t : Thread) (s : State) (kind : ReceiveCall) (number notification badge : ℕ) (allowed : Rights) → IsSound s
    → call_of number ≡ Some (Receives kind) → CallsOn image t s number (Notification notification allowed badge) → IsTrue (may_read allowed)
    → CallStaysWithin image t s

-- ---- replies

-- whom the thread may answer waits for no answer to a fault
abbrev pub HandlesNobody : State → ThreadState → Type 0
HandlesNobody s own = (caller : ℕ) → own.caller ≡ Some caller → (thread_at s caller).status ≢ AwaitsHandler

abbrev pub RepliesStayWithin : Type 0
RepliesStayWithin =
    (image : Image) (t : Thread) (s : State) (number : ℕ) → IsSound s → call_of number ≡ Some Replies → (at : RunsAt image t s number) → HandlesNobody s at.own
    → CallStaysWithin image t s

-- a Reply and then a Recv, of which each may deliver a message
abbrev pub RepliesToReceiveStayWithin : Type 0
RepliesToReceiveStayWithin =
    (image : Image) (t : Thread) (s : State) (number endpoint badge : ℕ) (allowed : Rights) → IsSound s
    → call_of number ≡ Some RepliesAndReceives → (call : CallsOn image t s number (Endpoint endpoint allowed badge)) → IsTrue (may_read allowed)
    → HandlesNobody s call.own → HaveOwnBuffers s → CallStaysWithin image t s

abbrev pub RepliesToWaitStayWithin : Type 0
RepliesToWaitStayWithin =
    (image : Image) (t : Thread) (s : State) (number notification badge : ℕ) (allowed : Rights) → IsSound s
    → call_of number ≡ Some RepliesAndReceives → (call : CallsOn image t s number (Notification notification allowed badge)) → IsTrue (may_read allowed)
    → HandlesNobody s call.own → HaveOwnBuffers s → CallStaysWithin image t s

-- ---- calls that concern the thread alone

abbrev pub YieldsStayWithin : Type 0
YieldsStayWithin = (image : Image) (t : Thread) (s : State) (number : ℕ) → IsSound s → call_of number ≡ Some Yields → RunsAt image t s number →
    CallStaysWithin image t s

abbrev pub CharactersStayWithin : Type 0
CharactersStayWithin =
    (image : Image) (t : Thread) (s : State) (number : ℕ) → IsSound s → call_of number ≡ Some PutsCharacter → RunsAt image t s number
    → CallStaysWithin image t s

-- ---- lines

abbrev pub AcknowledgementsStayWithin : Type 0
AcknowledgementsStayWithin =
    (image : Image) (t : Thread) (s : State) (kind : SendCall) (number line : ℕ) → IsSound s → call_of number ≡ Some (Sends kind)
    → (call : CallsOn image t s number (InterruptHandler line)) → asked s (self_of image t) call.slot ≡ Ok (OnHandler line Acknowledge)
    → CallStaysWithin image t s

-- ---- invocations that change slots alone

abbrev pub MappingsStayWithin : Type 0
MappingsStayWithin =
    (image : Image) (t : Thread) (s : State) (kind : SendCall) (number offset : ℕ) (allowed : Rights) → IsSound s → call_of number ≡ Some (Sends kind)
    → (call : CallsOn image t s number (Frame offset allowed None)) → MapsFrame image t s call.slot allowed → CallStaysWithin image t s

abbrev pub HandlersStayWithin : Type 0
HandlersStayWithin =
    (image : Image) (t : Thread) (s : State) (kind : SendCall) (number : ℕ) → IsSound s → call_of number ≡ Some (Sends kind)
    → (call : CallsOn image t s number InterruptControl) → GetsHandler image t s call.slot → CallStaysWithin image t s

-- what a frame's or a page table's capability maps is under the thread's own root table
abbrev pub MapsUnderOwn : Image → Thread → Cap → Type 0
MapsUnderOwn image t capability =
    ((mapping : FrameMapping) → frame_mapping capability ≡ Some mapping → mapping.root ≡ offset_of image t.header.root)
    × ((mapping : TableMapping) → table_mapping capability ≡ Some mapping → mapping.root ≡ offset_of image t.header.root)

abbrev pub CopiesStayWithin : Type 0
CopiesStayWithin =
    (image : Image) (t : Thread) (s after : State) (own : ThreadState) (call : Call) (destination source : SlotName) (word : ℕ)
    → s.objects (self_of image t) ≡ Some (ThreadObject own) → OwnSlots image t s call destination source → copy s call destination source word ≡ Ok after
    → WithinAuthority image t s after

-- with a badge or a guard word
abbrev pub MintsStayWithin : Type 0
MintsStayWithin =
    (image : Image) (t : Thread) (s after : State) (own : ThreadState) (call : Call) (destination source : SlotName) (word payload : ℕ)
    → s.objects (self_of image t) ≡ Some (ThreadObject own) → OwnSlots image t s call destination source
    → mint s call destination source word payload ≡ Ok after → WithinAuthority image t s after

-- what derives from the source is the thread's own
abbrev pub MovesStayWithin : Type 0
MovesStayWithin =
    (image : Image) (t : Thread) (s after : State) (own : ThreadState) (call : Call) (destination source : SlotName)
    → s.objects (self_of image t) ≡ Some (ThreadObject own) → (slots : OwnSlots image t s call destination source)
    → ((child : ℕ) → parent_at s.slots child ≡ Some slots.from → IsOwnSlot image t child) → MapsUnderOwn image t (capability_at s.slots slots.from)
    → moved s call destination source ≡ Ok after → WithinAuthority image t s after

abbrev pub UnmapsStayWithin : Type 0
UnmapsStayWithin =
    (image : Image) (t : Thread) (s : State) (own : ThreadState) (call : Call) (offset : ℕ) (allowed : Rights) (mapping : Option FrameMapping)
    → s.objects (self_of image t) ≡ Some (ThreadObject own) → call.capability ≡ Frame offset allowed mapping
    → capability_at s.slots call.slot ≡ Frame offset allowed mapping → IsOwnSlot image t call.slot → MapsUnderOwn image t call.capability
    → WithinAuthority image t s (unmap_frame s call)

-- the thread goes on after what its invocation left
abbrev pub CompletedStayWithin : Type 0
CompletedStayWithin =
    (image : Image) (t : Thread) (s after : State) (kind : SendCall) (own now : ThreadState) → IsSound s
    → s.objects (self_of image t) ≡ Some (ThreadObject own) → own.status ≡ Runnable → after.objects (self_of image t) ≡ Some (ThreadObject now)
    → WithinAuthority image t s after → WithinAuthority image t s (completed after (self_of image t) kind)

-- ---- where all threads of an accepted image are

-- a step whose system call invokes nothing
abbrev pub MessagesStayWithin : Type 0
MessagesStayWithin =
    (bytes : List ℕ) (image : Image) (t : Numbered) (s : State) (labels : List Label) → IsAccepted bytes image → AllStand image s labels
    → Contains (numbered_threads image) t → current s ≡ Some (tcb_of image t) → MakesCall s (tcb_of image t) → InvokesNothing s (tcb_of image t)
    → StaysWithin image s Step (step s Step).0

-- a step that makes no system call
abbrev pub PlainStepsStayWithin : Type 0
PlainStepsStayWithin =
    (bytes : List ℕ) (image : Image) (t : Numbered) (s : State) (labels : List Label) → IsAccepted bytes image → AllStand image s labels
    → Contains (numbered_threads image) t → current s ≡ Some (tcb_of image t) → ReachesNoCall s (tcb_of image t) → StaysWithin image s Step (step s Step).0

-- invocations that the rules allow, of a thread whose slots hold what is noted
abbrev pub NotedCopiesStayWithin : Type 0
NotedCopiesStayWithin =
    (image : Image) (t : Numbered) (s after : State) (slots : List NotedSlot) (own : ThreadState) (slot : ℕ) (destination source : SlotName) (word : ℕ)
    → Mirrors image t s slots → s.objects (tcb_of image t) ≡ Some (ThreadObject own)
    → MayInvoke image t s slots slot (OnCNode (Copy destination source word))
    → perform s (call_on image t.thread slot (capability_at s.slots slot)) (OnCNode (Copy destination source word)) ≡ Ok after
    → WithinAuthority image t.thread s after

abbrev pub NotedMintsStayWithin : Type 0
NotedMintsStayWithin =
    (image : Image) (t : Numbered) (s after : State) (slots : List NotedSlot) (own : ThreadState) (slot : ℕ) (destination source : SlotName)
    (word payload : ℕ) → Mirrors image t s slots → s.objects (tcb_of image t) ≡ Some (ThreadObject own)
    → MayInvoke image t s slots slot (OnCNode (Mint destination source word payload))
    → perform s (call_on image t.thread slot (capability_at s.slots slot)) (OnCNode (Mint destination source word payload)) ≡ Ok after
    → WithinAuthority image t.thread s after

abbrev pub NotedMapsStayWithin : Type 0
NotedMapsStayWithin =
    (image : Image) (t : Numbered) (s after : State) (slots : List NotedSlot) (own : ThreadState) (slot : ℕ) (allowed : Rights) (name : SlotName)
    (address word : ℕ) → Mirrors image t s slots → s.objects (tcb_of image t) ≡ Some (ThreadObject own)
    → MayInvoke image t s slots slot (OnFrame allowed (MapFrame name address word))
    → perform s (call_on image t.thread slot (capability_at s.slots slot)) (OnFrame allowed (MapFrame name address word)) ≡ Ok after
    → WithinAuthority image t.thread s after

-- what an invocation leaves that the rules allow
abbrev pub LeavesWithin : Image → Numbered → State → List NotedSlot → ℕ → Invocation → Type 0
LeavesWithin image t s slots slot c =
    MayInvoke image t s slots slot c → (after : State) → perform s (call_on image t.thread slot (capability_at s.slots slot)) c ≡ Ok after
    → WithinAuthority image t.thread s after

abbrev pub NotedMovesStayWithin : Type 0
NotedMovesStayWithin =
    (image : Image) (t : Numbered) (s : State) (slots : List NotedSlot) (own : ThreadState) (slot : ℕ) (destination source : SlotName)
    → Mirrors image t s slots → s.objects (tcb_of image t) ≡ Some (ThreadObject own) → MapsOwn image t s
    → LeavesWithin image t s slots slot (OnCNode (Move destination source))

abbrev pub NotedUnmapsStayWithin : Type 0
NotedUnmapsStayWithin =
    (image : Image) (t : Numbered) (s : State) (slots : List NotedSlot) (own : ThreadState) (slot : ℕ) (allowed : Rights)
    → Mirrors image t s slots → s.objects (tcb_of image t) ≡ Some (ThreadObject own) → MapsOwn image t s
    → LeavesWithin image t s slots slot (OnFrame allowed UnmapFrame)

-- endpoints, notifications and frames, with their capabilities in a window of slots
abbrev pub NotedRetypesStayWithin : Type 0
NotedRetypesStayWithin =
    (image : Image) (t : Numbered) (s : State) (slots : List NotedSlot) (own : ThreadState) (slot : ℕ) (memory : UntypedMemory) (retyped : RetypeCall)
    → Mirrors image t s slots → s.objects (tcb_of image t) ≡ Some (ThreadObject own) → named_slot s (tcb_of image t) ≡ Ok slot
    → LeavesWithin image t s slots slot (OnUntyped memory retyped)

-- of a thread that runs
abbrev pub NotedDeletesStayWithin : Type 0
NotedDeletesStayWithin =
    (image : Image) (t : Numbered) (s : State) (slots : List NotedSlot) (own : ThreadState) (slot : ℕ) (name : SlotName)
    → Mirrors image t s slots → Runs image t s → s.objects (tcb_of image t) ≡ Some (ThreadObject own) → MapsOwn image t s
    → HoldsInside image t s → LeavesWithin image t s slots slot (OnCNode (Delete name))

abbrev pub NotedRevokesStayWithin : Type 0
NotedRevokesStayWithin =
    (image : Image) (t : Numbered) (s : State) (slots : List NotedSlot) (own : ThreadState) (slot : ℕ) (name : SlotName)
    → Mirrors image t s slots → Runs image t s → s.objects (tcb_of image t) ≡ Some (ThreadObject own) → MapsOwn image t s
    → HoldsInside image t s → LeavesWithin image t s slots slot (OnCNode (Revoke name))

-- ---- whatever the step

-- what threads map is under their own root tables, from the start on and over all that stays within authority
abbrev pub ThreadsStartMappingOwn : Type 0
ThreadsStartMappingOwn = (bytes : List ℕ) (image : Image) → IsAccepted bytes image → AllMapOwn image (described image)

abbrev pub WithinKeepsMappingOwn : Type 0
WithinKeepsMappingOwn =
    (bytes : List ℕ) (image : Image) (s after : State) (event : Event) → IsAccepted bytes image → AllMapOwn image s → StaysWithin image s event after
    → AllMapOwn image after

-- the objects that threads' slots name last by the boot CNode, or lie inside untyped memory of the thread's own: from the start on, and over
-- a step that stays within authority and leaves each thread its untyped memory
abbrev pub ThreadsStartHoldingInside : Type 0
ThreadsStartHoldingInside = (bytes : List ℕ) (image : Image) → IsAccepted bytes image → AllHoldInside image (described image)

abbrev pub WithinKeepsHoldingInside : Type 0
WithinKeepsHoldingInside =
    (bytes : List ℕ) (image : Image) (s after : State) (t : Numbered) → IsAccepted bytes image → IsSound s → IsSound after → AllHoldInside image s
    → AllPoolsStay image s after → Contains (numbered_threads image) t → WithinAuthority image t.thread s after → AllHoldInside image after

abbrev pub StepsStayWithin : Type 0
StepsStayWithin =
    (bytes : List ℕ) (image : Image) (s : State) (labels : List Label) → IsAccepted bytes image → AllStand image s labels → AllMapOwn image s
    → AllHoldInside image s → StaysWithin image s Step (step s Step).0

-- whatever has happened to an accepted image, the next event
abbrev pub EventsStayWithin : Type 0
EventsStayWithin =
    (bytes : List ℕ) (image : Image) (before : List Event) (event : Event) → IsAccepted bytes image → All (KeepsDevices image) before
    → StaysWithin image (state_after (described image) before) event (step (state_after (described image) before) event).0

-- what the world may write stays a frame's, so that each write is done
abbrev pub WordsOfDataStay : Type 0
WordsOfDataStay =
    (bytes : List ℕ) (image : Image) (s : State) (labels : List Label) (place : ℕ) → IsAccepted bytes image → AllStand image s labels
    → IsOfData image place → is_word_of_frame s place ≡ true
