-- The laws of this crate on what a thread names.
use Rattle.std.specs.Prelude.{ℕ, ◌≡◌, false, List, Contains, None}
use Rattle.model.specs.Acceptance.Accepted.{IsAccepted}
use Rattle.model.specs.Acceptance.Authority.{IsOwnSlot}
use Rattle.model.specs.Acceptance.NotedKernel.{noted_after, slot_of_key}
use Rattle.model.specs.Acceptance.NotedStates.{PointState, has_stray_slots, NotedSlot}
use Rattle.model.specs.Acceptance.ThreadInvariants.{HasBootParent}
use Rattle.model.specs.Capabilities.Slots.{capability_at, IsFull}
use Rattle.model.specs.Images.Described.{Numbered, numbered_threads}
use Rattle.model.specs.Images.Image.{Image}
use Rattle.model.specs.Kernel.State.{State}
use Rattle.headline.specs.lookups.Found.{FindsNoted, slots_noted, HasNotedParent}

-- each of its slots holds what is noted
abbrev pub HoldsNoted : Type 0
HoldsNoted = (bytes : List ℕ) (image : Image) (t : Numbered) (s : State) (state : PointState) → IsAccepted bytes image → Contains (numbered_threads image) t
    → noted_after image t.thread s.slots ≡ state.slots → (slot : ℕ) → IsOwnSlot image t.thread slot
    → capability_at s.slots slot ≡ capability_at (slots_noted image t state.slots) slot

-- each lookup from its root finds what is noted
abbrev pub LooksUpNoted : Type 0
LooksUpNoted = (bytes : List ℕ) (image : Image) (t : Numbered) (s : State) (point : ℕ) (state : PointState) → IsAccepted bytes image
    → Contains (numbered_threads image) t → noted_after image t.thread s.slots ≡ state.slots → has_stray_slots image t.thread point state ≡ false
    → (address depth : ℕ) → FindsNoted image t s state.slots address depth

-- and so is the parent of each full slot, where a noted slot without parent hangs below a boot slot
abbrev pub ParentsAreNoted : Type 0
ParentsAreNoted =
    (bytes : List ℕ) (image : Image) (t : Numbered) (s : State) (state : PointState) → IsAccepted bytes image → Contains (numbered_threads image) t
    → noted_after image t.thread s.slots ≡ state.slots
    → ((noted : NotedSlot) → Contains state.slots noted → noted.parent ≡ None → HasBootParent s (slot_of_key image noted.key))
    → (slot : ℕ) → IsOwnSlot image t.thread slot → IsFull s.slots slot → HasNotedParent image t.thread s state.slots slot
