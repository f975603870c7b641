-- What the laws on authority start from.
use Rattle.std.specs.Prelude.{ℕ, ◌≡◌, ◌≢◌, ◌⊎◌, Some}
use Rattle.model.specs.declared.capabilities.Cap.{Cap}
use Rattle.model.specs.declared.capabilities.Cap.TheVariants.{Empty}
use Rattle.model.specs.declared.instructions.Access.TheVariants.{Store}
use Rattle.model.specs.Acceptance.Authority.{IsOwnSlot, self_of}
use Rattle.model.specs.Capabilities.Slots.{capability_at}
use Rattle.model.specs.Images.Image.{Image, Thread}
use Rattle.model.specs.Kernel.AddressSpaces.{content_of}
use Rattle.model.specs.Kernel.Kinds.{frame_around}
use Rattle.model.specs.Kernel.Messages.{a7}
use Rattle.model.specs.Kernel.State.{State, FrameObject}
use Rattle.model.specs.Kernel.Steps.{call_of, registers_of}
use Rattle.model.specs.Machine.ProgramMemory.{read}
use Rattle.model.specs.declared.system_calls.SystemCall.{SystemCall}

-- the thread holds this capability, and nothing else
pub record HoldsOnly (image : Image) (t : Thread) (s : State) (held : Cap) : Type 0 where
  pub slots : (slot : ℕ) → IsOwnSlot image t slot → (capability_at s.slots slot ≡ Empty) ⊎ (capability_at s.slots slot ≡ held)

-- a byte of a frame that stays changes where the thread may not write
pub record ChangesUnwritten (image : Image) (t : Thread) (s after : State) (place : ℕ) : Type 0 where
  pub was : s.objects (frame_around place) ≡ Some FrameObject
  pub is : after.objects (frame_around place) ≡ Some FrameObject
  pub unwritten : (address : ℕ) → (content_of s (self_of image t)).place Store address ≢ Some place
  pub differs : s.bytes place ≢ after.bytes place

-- the number in the thread's a7 is that of this call
abbrev pub Asks : Image → Thread → State → SystemCall → Type 0
Asks image t s call = call_of (read (registers_of s (self_of image t)) a7) ≡ Some call
