-- How a thread's capabilities hang below the boot CNode.
use Rattle.std.specs.Prelude.{ℕ, ◌≡◌, ◌^◌, ◌<◌, false, if◌then◌else◌, Some}
use Rattle.model.specs.Acceptance.Authority.{IsOwnSlot}
use Rattle.model.specs.Capabilities.CapabilityKinds.{is_untyped}
use Rattle.model.specs.Capabilities.Slots.{capability_at, depth_of, parent_at}
use Rattle.model.specs.Images.Described.{Numbered}
use Rattle.model.specs.Images.Image.{Image}
use Rattle.model.specs.Kernel.State.{State}

-- The checks on depths count from the boot CNode on, and a certificate notes no boot slots: so what hangs below one hangs as deep as
-- what the image lists.
pub record HangsAsListed (image : Image) (t : Numbered) (s : State) : Type 0 where
  -- a pool below memory that derives from nothing, and all else below what derives from such memory
  pub boot : (slot parent : ℕ) → IsOwnSlot image t.thread slot → parent_at s.slots slot ≡ Some parent → parent < 2 ^ s.boot_radix
      → depth_of s.slots parent ≡ (if is_untyped (capability_at s.slots slot) then 0 else 1)
  -- no pool hangs below another slot of the thread
  pub own : (slot parent : ℕ) → IsOwnSlot image t.thread slot → parent_at s.slots slot ≡ Some parent → IsOwnSlot image t.thread parent
      → is_untyped (capability_at s.slots slot) ≡ false
