-- What the laws on authority start from.
use Rattle.std.specs.Prelude.{ℕ, ◌≡◌, ◌≢◌, ◌+◌, ◌^◌, ◌≤◌, true, IsSome, Result, Ok, Option, Some, None}
use Rattle.model.specs.declared.capabilities.Cap.{Cap}
use Rattle.model.specs.declared.capabilities.Cap.TheVariants.{Empty, Untyped}
use Rattle.model.specs.declared.errors.KError.{KError}
use Rattle.model.specs.declared.invocations.FrameCall.TheVariants.{MapFrame}
use Rattle.model.specs.declared.invocations.Invocation.{Invocation}
use Rattle.model.specs.declared.invocations.Invocation.TheVariants.{OnControl, OnFrame}
use Rattle.model.specs.declared.invocations.SlotName.{SlotName}
use Rattle.model.specs.declared.rights.Rights.{Rights}
use Rattle.model.specs.Acceptance.Authority.{Holds, IsOwnSlot, IsUntypedAround, self_of}
use Rattle.model.specs.Images.Places.{offset_of}
use Rattle.model.specs.Capabilities.Slots.{capability_at, recapped}
use Rattle.model.specs.declared.instructions.Access.TheVariants.{Store}
use Rattle.model.specs.Kernel.AddressSpaces.{content_of}
use Rattle.model.specs.Images.Image.{Image, Thread}
use Rattle.model.specs.Kernel.Arguments.{Call, destination_slot, source_slot}
use Rattle.model.specs.Kernel.CallForms.{decode}
use Rattle.model.specs.Kernel.Invocations.{invoke}
use Rattle.model.specs.Kernel.Kinds.{kind_at}
use Rattle.model.specs.Kernel.MappingCalls.{root_named}
use Rattle.model.specs.Kernel.Messages.{a1, a7, buffer_of, extra_capabilities_of, message_of}
use Rattle.model.specs.Kernel.Removal.{SlotSet, ends, with_bindings}
use Rattle.model.specs.Kernel.Retype.{NewObject, NewObjects, NewEndpoint, object_bits, with_new}
use Rattle.model.specs.Kernel.State.{State, Inactive, Runnable, ThreadObject, ThreadState, thread_at, with_slots}
use Rattle.model.specs.Kernel.Steps.{cspace_of, named_slot, registers_of}
use Rattle.model.specs.Machine.ProgramMemory.{read}

-- bytes that differ only where the thread may write
pub record WritesOwnBytes (image : Image) (t : Thread) (s : State) (bytes : ℕ → Option ℕ) : Type 0 where
  pub written : (place : ℕ) → s.bytes place ≢ bytes place
      → IsSome (s.bytes place) × IsSome (bytes place) × ((address : ℕ) × ((content_of s (self_of image t)).place Store address ≡ Some place))

-- the thread runs, and is at the system call of this number, by a capability in a slot of its own
pub record CallsOn (image : Image) (t : Thread) (s : State) (number : ℕ) (capability : Cap) : Type 0 where
  pub own : ThreadState
  pub is : s.objects (self_of image t) ≡ Some (ThreadObject own)
  pub runs : own.status ≡ Runnable
  pub calls : read own.registers a7 ≡ number
  pub slot : ℕ
  pub named : named_slot s (self_of image t) ≡ Ok slot
  pub among : IsOwnSlot image t slot
  pub holds : capability_at s.slots slot ≡ capability

-- no two threads that are not stopped have one message buffer
abbrev pub HaveOwnBuffers : State → Type 0
HaveOwnBuffers s =
    (a b frame : ℕ) → (thread_at s a).status ≢ Inactive → (thread_at s b).status ≢ Inactive → buffer_of s a ≡ Some frame → buffer_of s b ≡ Some frame
    → a ≡ b

-- the thread runs, and is at the system call of this number
pub record RunsAt (image : Image) (t : Thread) (s : State) (number : ℕ) : Type 0 where
  pub own : ThreadState
  pub is : s.objects (self_of image t) ≡ Some (ThreadObject own)
  pub runs : own.status ≡ Runnable
  pub calls : read own.registers a7 ≡ number

-- One endpoint made at `first` by Retype of the untyped memory in `slot`, which is used up to a new watermark; its first capability
-- is in `window`.
abbrev pub with_endpoint_made : State → ℕ → ℕ → ℕ → ℕ → ℕ → ℕ → State
with_endpoint_made s slot offset bits used first window =
    let new : NewObjects = record { kind = NewEndpoint; first = first; count = 1 } in
    with_new (with_slots s (recapped s.slots slot (Untyped offset bits used))) new window slot

-- what a thread's message makes of the capability in a slot
abbrev pub invoked : State → ℕ → ℕ → Result State KError
invoked s thread slot =
    let message = message_of (thread_at s thread) in
    let call : Call = record { root = cspace_of s thread; caller = Some thread; slot = slot; capability = capability_at s.slots slot } in
    invoke s call message.label (extra_capabilities_of (read (registers_of s thread) a1)) message.words

-- that is what the thread's call does, in untyped memory where nothing is, for an empty slot of its own
pub record MakesEndpoint (image : Image) (t : Thread) (s : State) (slot offset bits used first window : ℕ) : Type 0 where
  pub begins : offset ≤ first
  pub ends : first + 2 ^ 4 ≤ offset + 2 ^ bits
  pub unused : s.objects first ≡ None
  pub own : IsOwnSlot image t window
  pub empty : capability_at s.slots window ≡ Empty
  pub made : invoked s (self_of image t) slot ≡ Ok (with_endpoint_made s slot offset bits used first window)

-- the call that a thread's message asks for
abbrev pub asked : State → ℕ → ℕ → Result Invocation KError
asked s thread slot =
    let message = message_of (thread_at s thread) in
    decode (capability_at s.slots slot) message.label (extra_capabilities_of (read (registers_of s thread) a1)) message.words

-- Map of a frame under the thread's own root table goes through
pub record MapsFrame (image : Image) (t : Thread) (s : State) (slot : ℕ) (allowed : Rights) : Type 0 where
  pub name : SlotName
  pub address : ℕ
  pub word : ℕ
  pub asks : asked s (self_of image t) slot ≡ Ok (OnFrame allowed (MapFrame name address word))
  pub root : root_named s.slots (cspace_of s (self_of image t)) name ≡ Ok (offset_of image t.header.root)
  pub after : State
  pub passes : invoked s (self_of image t) slot ≡ Ok after

-- Get of a line's handler, for an empty slot of the thread's own, goes through
pub record GetsHandler (image : Image) (t : Thread) (s : State) (slot : ℕ) : Type 0 where
  pub number : ℕ
  pub name : SlotName
  pub asks : asked s (self_of image t) slot ≡ Ok (OnControl number name)
  pub window : ℕ
  pub named : destination_slot s.slots (cspace_of s (self_of image t)) name ≡ Ok window
  pub own : IsOwnSlot image t window
  pub after : State
  pub passes : invoked s (self_of image t) slot ≡ Ok after

-- a destination and a source that a call names, both slots of the thread's own
pub record OwnSlots (image : Image) (t : Thread) (s : State) (call : Call) (destination source : SlotName) : Type 0 where
  pub to : ℕ
  pub from : ℕ
  pub named_to : destination_slot s.slots call.capability destination ≡ Ok to
  pub named_from : source_slot s.slots call.root source ≡ Ok from
  pub own_to : IsOwnSlot image t to
  pub own_from : IsOwnSlot image t from

-- what ends with the slots of a set lies inside untyped memory of the thread's own
abbrev pub EndsInside : Image → Thread → State → SlotSet → Type 0
EndsInside image t s set =
    (offset : ℕ) (kind : NewObject) → ends s (with_bindings s set) offset ≡ true → kind_at s offset ≡ Some kind
    → Holds image t s (IsUntypedAround offset (2 ^ object_bits kind))
