-- What a thread's lookups find, where its slots hold what is noted.
use Rattle.std.specs.Prelude.{ℕ, ◌≡◌, Ok, Option, Some, None, option_and_then, List}
use Rattle.model.specs.Acceptance.Authority.{IsOwnSlot}
use Rattle.model.specs.Acceptance.NotedKernel.{key_of, noted_kernel, noted_root, slot_of_key}
use Rattle.model.specs.Acceptance.NotedStates.{NotedSlot, SlotKey, slot_at}
use Rattle.model.specs.Acceptance.ThreadInvariants.{HasBootParent}
use Rattle.model.specs.Acceptance.ThreadRules.{reached}
use Rattle.model.specs.Capabilities.Lookup.{lookup}
use Rattle.model.specs.Capabilities.Slots.{Slots, parent_at}
use Rattle.model.specs.Images.Described.{Numbered}
use Rattle.model.specs.Images.Image.{Image, Thread}
use Rattle.model.specs.Kernel.State.{State}

-- the slots of the kernel in which the rules look up what is named at a point
abbrev pub slots_noted : Image → Numbered → List NotedSlot → Slots
slots_noted image t slots = (noted_kernel image t.thread slots).slots

-- A lookup of the low bits of an address finds the same as in what is noted, and what it finds is a slot of the thread's CNodes.
pub record FindsNoted (image : Image) (t : Numbered) (s : State) (slots : List NotedSlot) (address depth : ℕ) : Type 0 where
  pub same : lookup s.slots (noted_root image t.thread) address depth ≡ lookup (slots_noted image t slots) (noted_root image t.thread) address depth
  pub own : (found : ℕ × ℕ) → lookup s.slots (noted_root image t.thread) address depth ≡ Ok found → IsOwnSlot image t.thread found.0

-- ---- parents

-- what is noted of a slot of the thread's CNodes, if it is full
abbrev pub noted_in : Image → Thread → List NotedSlot → ℕ → Option NotedSlot
noted_in image t slots slot = option_and_then (slot_at slots) (key_of image (reached image t) slot)

-- what it was derived from, if that is one of the thread's slots too
abbrev pub noted_parent : Image → Thread → List NotedSlot → ℕ → Option SlotKey
noted_parent image t slots slot = option_and_then (λ noted. noted.parent) (noted_in image t slots slot)

-- A slot's parent is the slot of the thread's that is noted, or a boot slot where none is noted.
pub record HasNotedParent (image : Image) (t : Thread) (s : State) (slots : List NotedSlot) (slot : ℕ) : Type 0 where
  pub own : (key : SlotKey) → noted_parent image t slots slot ≡ Some key → parent_at s.slots slot ≡ Some (slot_of_key image key)
  pub boot : noted_parent image t slots slot ≡ None → HasBootParent s slot
