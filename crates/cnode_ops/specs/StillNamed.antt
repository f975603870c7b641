-- Whether what a removed capability named has another capability.
-- seL4 Reference Manual, "Deletion, Revocation, and Recycling".
use Rattle.std.specs.Prelude.{ℕ, ◌≡◌, Bool, true, false, Some}
use Rattle.model.specs.Capabilities.CapabilityKinds.{names_object, object_of}
use Rattle.model.specs.Capabilities.Slots.{Slots, capability_at}
use Rattle.model.specs.declared.capabilities.Cap.{Cap}

-- some slot names the object that the capability names, or none does
pub record IsNamedStill (slots : Slots) (removed : Cap) (still : Bool) : Type 0 where
  pub some : still ≡ true → (offset : ℕ) → object_of removed ≡ Some offset → (slot : ℕ) × (names_object offset (capability_at slots slot) ≡ true)
  pub none : still ≡ false → (offset : ℕ) → object_of removed ≡ Some offset → (slot : ℕ) → names_object offset (capability_at slots slot) ≡ false
