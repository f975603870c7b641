-- A thread's slots and what its certificate notes of them, side by side: what the checks of an invocation read is the same in both.
use Rattle.std.specs.Prelude.{ℕ, ◌≡◌, ◌<◌, true, false, Option, option_and_then, Some, Ok, List, Contains}
use Rattle.headline.specs.facts.Hanging.{HangsAsListed}
use Rattle.headline.specs.facts.Standing.{AllStand}
use Rattle.model.specs.declared.capabilities.Cap.{Cap}
use Rattle.model.specs.declared.invocations.SlotName.{SlotName}
use Rattle.model.specs.declared.labels.Label.{Label}
use Rattle.model.specs.Acceptance.Accepted.{IsAccepted}
use Rattle.model.specs.Acceptance.Authority.{IsOwnSlot}
use Rattle.model.specs.Acceptance.NotedKernel.{key_of, noted_after}
use Rattle.model.specs.Acceptance.NotedStates.{NotedSlot, SlotKey, is_foreign}
use Rattle.model.specs.Acceptance.ThreadInvariants.{MapsAreNoted, NamesNoCode}
use Rattle.model.specs.Acceptance.ThreadRules.{reached}
use Rattle.model.specs.Capabilities.Slots.{Slots, capability_at, depth_of, parent_at}
use Rattle.model.specs.Images.Described.{Numbered, described, numbered_threads}
use Rattle.model.specs.Images.Image.{Image}
use Rattle.model.specs.Kernel.Arguments.{argument_slot}
use Rattle.model.specs.Kernel.State.{State, boot_area_slots}
use Rattle.headline.specs.lookups.Found.{slots_noted}
use Rattle.typestate.specs.Spaces.{AreOwn, NothingLeadsOutside, StandsApart, is_inside}
use Rattle.headline.specs.invocations.Changes.{DerivesNear, IsOther, MapsNothingElse}

-- the key of what a slot derives from, if that is one of the thread's slots
abbrev pub key_above : Image → Numbered → Slots → ℕ → Option SlotKey
key_above image t slots slot = option_and_then (key_of image (reached image t.thread)) (parent_at slots slot)

pub record Mirrors (image : Image) (t : Numbered) (s : State) (slots : List NotedSlot) : Type 0 where
  pub bytes : List ℕ
  pub accepted : IsAccepted bytes image
  pub listed : Contains (numbered_threads image) t
  pub labels : List Label
  pub all : AllStand image s labels
  pub stand : StandsApart image t.thread
  -- the noted slots
  pub same : noted_after image t.thread s.slots ≡ slots
  pub back : noted_after image t.thread (slots_noted image t slots) ≡ slots
  pub are : AreOwn image t.thread slots
  pub inside : NothingLeadsOutside image t.thread slots
  pub code : NamesNoCode image slots
  pub mapped : MapsAreNoted image t s slots
  -- the thread's slots
  pub held : (slot : ℕ) → IsOwnSlot image t.thread slot → capability_at s.slots slot ≡ capability_at (slots_noted image t slots) slot
  pub above : (slot : ℕ) → IsOwnSlot image t.thread slot → key_above image t s.slots slot ≡ key_above image t (slots_noted image t slots) slot
  pub deep : (slot : ℕ) → IsOwnSlot image t.thread slot → depth_of s.slots slot ≡ depth_of (slots_noted image t slots) slot
  pub finds : (root : Cap) (name : SlotName) → is_inside image t.thread root ≡ true
      → argument_slot s.slots root name ≡ argument_slot (slots_noted image t slots) root name
  pub finds_own : (root : Cap) (name : SlotName) (slot : ℕ) → is_inside image t.thread root ≡ true → argument_slot s.slots root name ≡ Ok slot
      → IsOwnSlot image t.thread slot
  pub home : (slot : ℕ) → IsOwnSlot image t.thread slot → is_foreign image t.thread (reached image t.thread) (capability_at s.slots slot) ≡ false
  pub near : DerivesNear image t s
  pub hang : HangsAsListed image t s
  pub maps : MapsNothingElse image t s
  -- all other slots
  pub boot : (slot : ℕ) → slot < boot_area_slots image.header.boot_radix → s.slots slot ≡ (described image).slots slot
  pub outside : (slot parent : ℕ) → IsOther image t slot → parent_at s.slots slot ≡ Some parent → IsOther image t parent
