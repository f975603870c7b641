-- The numbers that a fault message has for a lookup's failure.
-- seL4 Reference Manual, "Lookup Failure Description".
use Rattle.std.specs.Prelude.{ℕ}
use Rattle.model.specs.declared.lookup_failures.LookupFailure.{LookupFailure}
use Rattle.model.specs.declared.lookup_failures.LookupFailure.TheVariants.{InvalidRoot, MissingCapability, DepthMismatch, GuardMismatch}

abbrev pub failure_number : LookupFailure → ℕ
failure_number InvalidRoot = 1
failure_number MissingCapability = 2
failure_number (DepthMismatch left) = 3
failure_number (GuardMismatch left) = 4

abbrev pub bits_left_of : LookupFailure → ℕ
bits_left_of InvalidRoot = 32
bits_left_of MissingCapability = 0
bits_left_of (DepthMismatch left) = left
bits_left_of (GuardMismatch left) = left
