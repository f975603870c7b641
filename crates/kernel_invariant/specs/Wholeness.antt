-- What every call of the kernel relies on and leaves true: the state is sound, what is kept of it agrees, and the invariants of tables, slots and memory hold.
use Rattle.std.specs.Prelude.{ℕ, List}
use Rattle.kernel_invariant.specs.Agreement.{Agrees}
use Rattle.model.specs.Capabilities.Slots.{Slots}
use Rattle.model.specs.Kernel.Soundness.{IsSound}
use Rattle.objects.specs.Standing.{Standing}
use Rattle.objects.specs.Tables.{Tables, state_of}

-- what removals and new objects keep, also where the state is not sound in between
abbrev pub Agreed : Tables → Slots → List ℕ → Type 0
Agreed o slots memory = Agrees (state_of o slots memory) memory × Standing o slots memory

pub record IsWhole (o : Tables) (slots : Slots) (memory : List ℕ) : Type 0 where
  pub sound : IsSound (state_of o slots memory)
  pub agrees : Agrees (state_of o slots memory) memory
  pub stands : Standing o slots memory
