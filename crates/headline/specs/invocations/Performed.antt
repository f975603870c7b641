-- An invocation that the rules allow, and the same on the state as it is.
use Rattle.std.specs.Prelude.{ℕ, ◌≡◌, true, false, ⊤, Option, Ok, List}
use Rattle.model.specs.declared.capabilities.Cap.{Cap}
use Rattle.model.specs.declared.capabilities.Cap.TheVariants.{CNode, Frame, InterruptHandler, Untyped}
use Rattle.model.specs.declared.capabilities.FrameMapping.{FrameMapping}
use Rattle.model.specs.declared.invocations.Invocation.{Invocation}
use Rattle.model.specs.declared.invocations.Invocation.TheVariants.{OnUntyped, OnThread, OnCNode, OnFrame, OnTable, OnControl, OnHandler}
use Rattle.model.specs.Acceptance.Authority.{IsOwnSlot}
use Rattle.model.specs.Acceptance.CallRules.{loses_pool, may_call}
use Rattle.model.specs.Acceptance.NotedKernel.{noted_after, noted_kernel}
use Rattle.model.specs.Acceptance.NotedStates.{NotedSlot}
use Rattle.model.specs.Capabilities.Slots.{IsFull, capability_at}
use Rattle.model.specs.Images.Described.{Numbered}
use Rattle.model.specs.Images.Image.{Image}
use Rattle.model.specs.Kernel.Invocations.{perform}
use Rattle.model.specs.Kernel.State.{State}
use Rattle.typestate.specs.Calls.{call_on}
use Rattle.headline.specs.lookups.Found.{slots_noted}
use Rattle.headline.specs.invocations.Changes.{ChangesOwn}

-- the invocation is one on such a capability
abbrev pub IsOn : Cap → Invocation → Type 0
IsOn capability (OnUntyped memory c) = capability ≡ Untyped memory.offset memory.bits memory.watermark
IsOn capability (OnThread thread c) = ⊤
IsOn capability (OnCNode c) = (offset : ℕ) × (radix : ℕ) × (guard : ℕ) × (capability ≡ CNode offset radix guard)
IsOn capability (OnFrame held c) = (offset : ℕ) × (mapping : Option FrameMapping) × (capability ≡ Frame offset held mapping)
IsOn capability (OnTable c) = ⊤
IsOn capability (OnControl irq_line destination) = ⊤
IsOn capability (OnHandler irq_line c) = capability ≡ InterruptHandler irq_line

-- The thread invokes what one of its slots holds, and on what is noted that has no error, takes no pool away, and is one of the calls
-- that a program may make.
pub record MayInvoke (image : Image) (t : Numbered) (s : State) (slots : List NotedSlot) (slot : ℕ) (c : Invocation) : Type 0 where
  pub own : IsOwnSlot image t.thread slot
  pub full : IsFull s.slots slot
  pub on : IsOn (capability_at s.slots slot) c
  pub noted : State
  pub performs : perform (noted_kernel image t.thread slots) (call_on image t.thread slot (capability_at s.slots slot)) c ≡ Ok noted
  pub keeps_pools : loses_pool (slots_noted image t slots) (call_on image t.thread slot (capability_at s.slots slot)) c ≡ false
  pub may : may_call (slots_noted image t slots) (call_on image t.thread slot (capability_at s.slots slot)) c ≡ true

-- It has no error on the state as it is either, and leaves the thread's slots as they are noted.
pub record InvokesWell (image : Image) (t : Numbered) (s : State) (slot : ℕ) (c : Invocation) (noted : State) : Type 0 where
  pub after : State
  pub performs : perform s (call_on image t.thread slot (capability_at s.slots slot)) c ≡ Ok after
  pub changes : ChangesOwn image t s after (noted_after image t.thread noted.slots)
