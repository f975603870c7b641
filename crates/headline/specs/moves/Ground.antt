-- What stays of a state where no slot changes: its shape, its slots, and the bytes of code.
use Rattle.std.specs.Prelude.{ℕ, ◌≡◌, ◌+◌, ◌<◌, ◌≤◌}
use Rattle.model.specs.Acceptance.ThreadInvariants.{IsCode}
use Rattle.model.specs.Images.Image.{Image}
use Rattle.model.specs.Kernel.AddressSpaces.{page_size}
use Rattle.model.specs.Kernel.State.{State}

-- a message may change the bytes of frames that nobody executes
pub record SameGround (image : Image) (s after : State) : Type 0 where
  pub memory_bits : after.memory_bits ≡ s.memory_bits
  pub boot_radix : after.boot_radix ≡ s.boot_radix
  pub slots : (slot : ℕ) → after.slots slot ≡ s.slots slot
  pub bytes : (frame place : ℕ) → IsCode image frame → frame ≤ place → place < frame + page_size → after.bytes place ≡ s.bytes place
