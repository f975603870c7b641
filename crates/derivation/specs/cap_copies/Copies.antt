-- What Copy and Mint make of a capability, and what Mutate leaves of it.
-- seL4 Reference Manual, "Capability-based Access Control", seL4_CNode.
use Rattle.std.specs.Prelude.{ℕ, not, Result, Ok}
use Rattle.model.specs.Capabilities.CapabilityKinds.{badge_fits, carries_messages, copied, guard_fits, is_badged, may_be_copied, with_payload}
use Rattle.model.specs.Kernel.Arguments.{◌>>=◌, check}
use Rattle.model.specs.declared.capabilities.Cap.{Cap}
use Rattle.model.specs.declared.errors.KError.{KError}
use Rattle.model.specs.declared.errors.KError.TheVariants.{IllegalOperation, RangeError}

-- what Copy puts at the destination
abbrev pub copy_of : Cap → ℕ → Result Cap KError
copy_of held rights_word = do
  _ ← check (may_be_copied held) IllegalOperation
  Ok (copied held rights_word)

-- what Mint puts there: a badge is given once
abbrev pub minted_copy_of : Cap → ℕ → ℕ → Result Cap KError
minted_copy_of held rights_word payload = do
  _ ← check (may_be_copied held) IllegalOperation
  _ ← check (not (is_badged held)) IllegalOperation
  _ ← check (badge_fits held payload) RangeError
  _ ← check (guard_fits held payload) IllegalOperation
  Ok (with_payload (copied held rights_word) payload)

-- what Mutate leaves there
abbrev pub mutation_of : Cap → ℕ → Result Cap KError
mutation_of held payload = do
  _ ← check (not (carries_messages held)) IllegalOperation
  _ ← check (guard_fits held payload) IllegalOperation
  Ok (with_payload held payload)
