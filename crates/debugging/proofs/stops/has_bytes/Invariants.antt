-- What is left to compare decides.
use Rattle.std.proofs.Common.{◌≡◌, drop}
use Rattle.kernel_machine.specs.Setups.{state_in}
use Rattle.debugging.specs.Stops.{has_bytes}
use Rattle.debugging.proofs.stops.has_bytes.Given as goal

abbrev pub invariant-bytes : goal.invariant-bytes
invariant-bytes l = has_bytes (state_in l.fn.system) l.fn.place l.fn.bytes ≡ has_bytes (state_in l.fn.system) l.at (drop l.byte-index l.fn.bytes)
