-- What a change elsewhere leaves to a thread.
use Rattle.std.specs.Prelude.{ℕ, ◌≡◌, ◌+◌, ◌<◌, ◌≤◌, ◌↔◌}
use Rattle.model.specs.declared.rights.Rights.{Rights}
use Rattle.model.specs.Acceptance.Authority.{IsOwnSlot}
use Rattle.model.specs.Acceptance.ThreadInvariants.{IsCode, root_table_of, tcb_of}
use Rattle.model.specs.Images.Described.{Numbered}
use Rattle.model.specs.Images.Image.{Image}
use Rattle.model.specs.Kernel.AddressSpaces.{Maps, page_size}
use Rattle.model.specs.Kernel.State.{State, cspace_slot, vspace_slot}

pub record IsUntouched (image : Image) (t : Numbered) (s after : State) : Type 0 where
  pub boot_radix : after.boot_radix ≡ s.boot_radix
  -- the slots of its CNodes, and those of its control block that hold something
  pub slots : (slot : ℕ) → IsOwnSlot image t.thread slot → after.slots slot ≡ s.slots slot
  pub cspace : after.slots (cspace_slot (tcb_of image t)) ≡ s.slots (cspace_slot (tcb_of image t))
  pub vspace : after.slots (vspace_slot (tcb_of image t)) ≡ s.slots (vspace_slot (tcb_of image t))
  -- the mappings under its root table
  pub maps : (page frame : ℕ) (allowed : Rights)
      → Maps after.slots (root_table_of image t) page frame allowed ↔ Maps s.slots (root_table_of image t) page frame allowed
  -- the bytes of code
  pub bytes : (frame place : ℕ) → IsCode image frame → frame ≤ place → place < frame + page_size → after.bytes place ≡ s.bytes place
