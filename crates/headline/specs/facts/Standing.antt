-- What stays true while the threads of an accepted image run: each is as its certificate says and waits as it asked, nobody else
-- runs, and all slots outside of their CNodes are as described.
use Rattle.std.specs.Prelude.{ℕ, ◌≡◌, ◌⊎◌, Contains, Some, List}
use Rattle.model.specs.declared.labels.Label.{Label}
use Rattle.model.specs.Acceptance.Authority.{IsOwnSlot}
use Rattle.model.specs.Acceptance.ThreadInvariants.{ThreadInvariant, tcb_of}
use Rattle.model.specs.Images.Described.{Numbered, described, numbered_threads}
use Rattle.model.specs.Images.Image.{Image}
use Rattle.model.specs.Kernel.Soundness.{IsSound}
use Rattle.model.specs.Kernel.State.{State, Inactive, ThreadObject, ThreadState}
use Rattle.headline.specs.facts.Hanging.{HangsAsListed}
use Rattle.headline.specs.facts.Waiting.{WaitsAsAsked}

-- a slot that is in no thread's CNodes
abbrev pub IsApart : Image → ℕ → Type 0
IsApart image slot = (t : Numbered) → Contains (numbered_threads image) t → IsOwnSlot image t.thread slot → ⊥

-- the control block of a thread of the image
pub record IsControlBlock (image : Image) (offset : ℕ) : Type 0 where
  pub thread : Numbered
  pub listed : Contains (numbered_threads image) thread
  pub is : offset ≡ tcb_of image thread

pub record AllStand (image : Image) (s : State) (labels : List Label) : Type 0 where
  pub sound : IsSound s
  pub stand : (t : Numbered) → Contains (numbered_threads image) t → ThreadInvariant image t s labels
  pub wait : (t : Numbered) → Contains (numbered_threads image) t → WaitsAsAsked image t s
  pub others : (offset : ℕ) (own : ThreadState) → s.objects offset ≡ Some (ThreadObject own) → (own.status ≡ Inactive) ⊎ IsControlBlock image offset
  pub apart : (slot : ℕ) → IsApart image slot → s.slots slot ≡ (described image).slots slot
  pub hang : (t : Numbered) → Contains (numbered_threads image) t → HangsAsListed image t s
  pub memory_bits : s.memory_bits ≡ image.header.memory_bits
  pub boot_radix : s.boot_radix ≡ image.header.boot_radix
