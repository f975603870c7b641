-- What a thread outside of a part has not: anything by which what is of the part changes.
use Rattle.std.specs.Prelude.{ℕ, ◌≡◌, ◌+◌, ◌^◌, ◌<◌, true, false, Some, Contains}
use Rattle.model.specs.declared.capabilities.Cap.TheVariants.{InterruptHandler}
use Rattle.model.specs.declared.instructions.Access.TheVariants.{Store}
use Rattle.model.specs.Acceptance.Authority.{Holds, IsUntypedAround}
use Rattle.model.specs.Acceptance.ThreadInvariants.{tcb_of}
use Rattle.model.specs.Images.Described.{Numbered, numbered_threads}
use Rattle.model.specs.Images.Image.{Image}
use Rattle.model.specs.Kernel.AddressSpaces.{content_of}
use Rattle.model.specs.Kernel.Interrupts.{binding}
use Rattle.model.specs.Kernel.Messages.{buffer_of}
use Rattle.model.specs.Kernel.State.{State, Blocked, ThreadObject, ThreadState, thread_at}
use Rattle.headline.specs.parts.Leaving.{ChangesQueue}
use Rattle.headline.specs.parts.Parts.{Part, is_in, is_line_of, is_thread_in}
use Rattle.part_laws.specs.Agreeing.{IsByteOfPart, IsOfPart}

-- It has no capability by which one sends, signals, receives or waits there, no handler of a line that signals it, and no untyped memory
-- around it.
pub record IsNoneOf (image : Image) (t : Numbered) (s : State) (queue : ℕ) : Type 0 where
  pub named : Holds image t.thread s (ChangesQueue queue) → ⊥
  pub line : (number badge : ℕ) → Holds image t.thread s (λ capability. capability ≡ InterruptHandler number)
      → binding s number ≡ Some (record { notification = queue; badge = badge }) → ⊥
  pub memory : Holds image t.thread s (IsUntypedAround queue 1) → ⊥

-- so it is of what threads of the part wait for, and none of them waits for its reply
pub record HasNothingOf (image : Image) (part : Part) (t : Numbered) (s : State) : Type 0 where
  pub waits : (u : Numbered) (own : ThreadState) (queue : ℕ) → Contains (numbered_threads image) u → is_in part u.thread ≡ true
      → s.objects (tcb_of image u) ≡ Some (ThreadObject own) → own.status ≡ Blocked queue → IsNoneOf image t s queue
  pub right : (caller : ℕ) → (thread_at s (tcb_of image t)).caller ≡ Some caller → is_thread_in image part caller ≡ false

-- and of all else that is the part's: objects, bytes and lines
pub record HasNothing (image : Image) (part : Part) (t : Numbered) (s : State) : Type 0 where
  pub others : HasNothingOf image part t s
  pub objects : (offset : ℕ) → IsOfPart image part offset → IsNoneOf image t s offset
  -- a thread of the image that lies there is the part's
  pub threads : (u : Numbered) → Contains (numbered_threads image) u → IsOfPart image part (tcb_of image u) → is_in part u.thread ≡ true
  pub stores : (place address : ℕ) → IsByteOfPart image part place → (content_of s (tcb_of image t)).place Store address ≡ Some place → ⊥
  pub memory : (place : ℕ) → IsByteOfPart image part place → Holds image t.thread s (IsUntypedAround place 1) → ⊥
  -- whoever has such a byte in its buffer is of the part
  pub buffers : (place target index : ℕ) (u : Numbered) → Contains (numbered_threads image) u → IsByteOfPart image part place
      → buffer_of s (tcb_of image u) ≡ Some target → index < 2 ^ 12 → place ≡ target + index → is_in part u.thread ≡ true
  pub lines : (line : ℕ) → is_line_of image part line ≡ true → Holds image t.thread s (λ capability. capability ≡ InterruptHandler line) → ⊥
