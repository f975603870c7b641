-- What an invocation leaves: slots of the thread that calls change, and objects come and go where nobody waits.
use Rattle.std.specs.Prelude.{ℕ, ◌≡◌, ◌⊎◌, ◌+◌, ◌^◌, ◌<◌, ◌≤◌, Some, List, Contains}
use Rattle.headline.specs.facts.Hanging.{HangsAsListed}
use Rattle.model.specs.declared.capabilities.FrameMapping.{FrameMapping}
use Rattle.model.specs.Acceptance.Authority.{IsOwnSlot}
use Rattle.model.specs.Acceptance.NotedKernel.{noted_after}
use Rattle.model.specs.Acceptance.NotedStates.{NotedSlot}
use Rattle.model.specs.Acceptance.ThreadInvariants.{IsCode, NamesNoCode, root_table_of}
use Rattle.model.specs.Capabilities.CapabilityKinds.{frame_mapping}
use Rattle.model.specs.Capabilities.Slots.{capability_at, parent_at}
use Rattle.model.specs.Images.Described.{Numbered, numbered_threads}
use Rattle.model.specs.Images.Image.{Image}
use Rattle.model.specs.Kernel.AddressSpaces.{page_size}
use Rattle.model.specs.Kernel.State.{State, Sender, EndpointObject, EndpointState, NotificationObject, NotificationState, ThreadObject, ThreadState}

-- a slot that is none of the thread's
abbrev pub IsOther : Image → Numbered → ℕ → Type 0
IsOther image t slot = IsOwnSlot image t.thread slot → ⊥

-- a thread's frames are mapped under no other thread's root table
abbrev pub MapsNothingElse : Image → Numbered → State → Type 0
MapsNothingElse image t s =
    (u : Numbered) (slot : ℕ) (mapping : FrameMapping) → Contains (numbered_threads image) u → (u ≡ t → ⊥) → IsOwnSlot image t.thread slot
    → frame_mapping (capability_at s.slots slot) ≡ Some mapping → mapping.root ≡ root_table_of image u → ⊥

-- each slot of the thread's that derives from something derives from another of its slots, or from a boot slot
abbrev pub DerivesNear : Image → Numbered → State → Type 0
DerivesNear image t s =
    (slot parent : ℕ) → IsOwnSlot image t.thread slot → parent_at s.slots slot ≡ Some parent → IsOwnSlot image t.thread parent ⊎ (parent < 2 ^ s.boot_radix)

-- A call of the thread leaves this state, in which its slots are the noted ones.
pub record ChangesOwn (image : Image) (t : Numbered) (s after : State) (left : List NotedSlot) : Type 0 where
  pub memory_bits : after.memory_bits ≡ s.memory_bits
  pub boot_radix : after.boot_radix ≡ s.boot_radix
  pub slots : noted_after image t.thread after.slots ≡ left
  pub others : (slot : ℕ) → IsOther image t slot → after.slots slot ≡ s.slots slot
  pub near : DerivesNear image t after
  pub hang : HangsAsListed image t after
  pub maps : MapsNothingElse image t after
  pub code : NamesNoCode image left
  -- threads stay as they are, and none is new
  pub threads : (offset : ℕ) (own : ThreadState) → s.objects offset ≡ Some (ThreadObject own) → after.objects offset ≡ Some (ThreadObject own)
  pub been : (offset : ℕ) (own : ThreadState) → after.objects offset ≡ Some (ThreadObject own) → s.objects offset ≡ Some (ThreadObject own)
  -- where somebody waits nothing is new
  pub sends : (queue : ℕ) (e : EndpointState) (x : Sender) → after.objects queue ≡ Some (EndpointObject e) → Contains e.senders x
      → s.objects queue ≡ Some (EndpointObject e)
  pub receives : (queue : ℕ) (e : EndpointState) (thread : ℕ) → after.objects queue ≡ Some (EndpointObject e) → Contains e.receivers thread
      → s.objects queue ≡ Some (EndpointObject e)
  pub waits : (queue : ℕ) (n : NotificationState) (thread : ℕ) → after.objects queue ≡ Some (NotificationObject n) → Contains n.waiters thread
      → s.objects queue ≡ Some (NotificationObject n)
  -- the bytes of code
  pub bytes : (frame place : ℕ) → IsCode image frame → frame ≤ place → place < frame + page_size → after.bytes place ≡ s.bytes place
