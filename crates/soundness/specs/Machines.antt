-- What messages, events and most calls leave alone.
use Rattle.std.specs.Prelude.{◌≡◌}
use Rattle.model.specs.Kernel.State.{State}

-- memory, the boot CNode and the slots are as they were
pub record SameBase (s t : State) : Type 0 where
  pub memory_bits : t.memory_bits ≡ s.memory_bits
  pub boot_radix : t.boot_radix ≡ s.boot_radix
  pub slots : t.slots ≡ s.slots

-- all but the bytes of frames is as it was
pub record SameBesideBytes (s t : State) : Type 0 where
  pub base : SameBase s t
  pub objects : t.objects ≡ s.objects
  pub ready : t.ready ≡ s.ready
  pub masked : t.masked ≡ s.masked
  pub pending : t.pending ≡ s.pending
