-- When a step of a thread leaves a part alone: it has nothing of what the part waits for, and no right to reply to it.
use Rattle.std.specs.Prelude.{ℕ, ◌≡◌, ◌⊎◌, ◌+◌, ◌^◌, ◌<◌, true, false, IsTrue, Some, Contains}
use Rattle.model.specs.declared.capabilities.Cap.{Cap}
use Rattle.model.specs.declared.capabilities.Cap.TheVariants.{InterruptHandler}
use Rattle.model.specs.Acceptance.Authority.{Holds, IsUntypedAround, rights_of}
use Rattle.model.specs.Capabilities.Rights.{may_read, may_write}
use Rattle.model.specs.Acceptance.ThreadInvariants.{tcb_of}
use Rattle.model.specs.Images.Described.{Numbered, numbered_threads}
use Rattle.model.specs.Images.Image.{Image}
use Rattle.model.specs.Kernel.Interrupts.{binding}
use Rattle.model.specs.Kernel.AddressSpaces.{content_of}
use Rattle.model.specs.Kernel.Kinds.{frame_around}
use Rattle.model.specs.Kernel.Messages.{buffer_of}
use Rattle.model.specs.declared.instructions.Access.TheVariants.{Store}
use Rattle.model.specs.Kernel.State.{State, Blocked, ThreadObject, ThreadState, thread_at}
use Rattle.headline.specs.facts.Waiting.{NamesQueue}
use Rattle.headline.specs.parts.Agreeing.{IsByteOfPart, IsOfPart}
use Rattle.headline.specs.parts.Parts.{Part, is_in, is_line_of, is_thread_in}

-- a capability to a queue by which one sends, signals, receives or waits there
pub record ChangesQueue (queue : ℕ) (capability : Cap) : Type 0 where
  pub names : NamesQueue queue capability
  pub may : IsTrue (may_write (rights_of capability)) ⊎ IsTrue (may_read (rights_of capability))

-- what a thread of the part waits for: another thread neither has such a capability to it, nor acknowledges a line that signals it, nor has the memory
-- that it lies in
pub record IsNoneOf (image : Image) (t : Numbered) (s : State) (queue : ℕ) : Type 0 where
  pub named : Holds image t.thread s (ChangesQueue queue) → ⊥
  pub line : (number badge : ℕ) → Holds image t.thread s (λ capability. capability ≡ InterruptHandler number)
      → binding s number ≡ Some (record { notification = queue; badge = badge }) → ⊥
  pub memory : (size : ℕ) → Holds image t.thread s (IsUntypedAround queue size) → ⊥

pub record HasNothingOf (image : Image) (part : Part) (t : Numbered) (s : State) : Type 0 where
  pub waits : (u : Numbered) (own : ThreadState) (queue : ℕ) → Contains (numbered_threads image) u → is_in part u.thread ≡ true
      → s.objects (tcb_of image u) ≡ Some (ThreadObject own) → own.status ≡ Blocked queue → IsNoneOf image t s queue
  pub right : (caller : ℕ) → (thread_at s (tcb_of image t)).caller ≡ Some caller → is_thread_in image part caller ≡ false

-- and nothing of all else that is the part's: objects, bytes and lines
pub record HasNothing (image : Image) (part : Part) (t : Numbered) (s : State) : Type 0 where
  pub others : HasNothingOf image part t s
  pub objects : (offset : ℕ) → IsOfPart image part s offset → IsNoneOf image t s offset
  -- threads among these are the part's
  pub threads : (offset : ℕ) (own : ThreadState) → IsOfPart image part s offset → s.objects offset ≡ Some (ThreadObject own)
      → is_thread_in image part offset ≡ true
  pub stores : (place address : ℕ) → IsByteOfPart image part s place → (content_of s (tcb_of image t)).place Store address ≡ Some place → ⊥
  pub frames : (place : ℕ) → IsByteOfPart image part s place → (size : ℕ) → Holds image t.thread s (IsUntypedAround (frame_around place) size) → ⊥
  -- a buffer with such a byte is that of a thread of the part, which does not wait for this thread
  pub buffers : (place to target index : ℕ) → IsByteOfPart image part s place → buffer_of s to ≡ Some target → index < 2 ^ 12 → place ≡ target + index
      → is_thread_in image part to ≡ true
  pub lines : (line : ℕ) → is_line_of image part line ≡ true → Holds image t.thread s (λ capability. capability ≡ InterruptHandler line) → ⊥
