-- The sum of the bytes so far.
use Rattle.std.proofs.Common.{◌≡◌, ◌%◌, take}
use Rattle.std.specs.List.{sum}
use Rattle.remote_packets.proofs.frames.checksum.Given as goal

abbrev pub invariant-bytes : goal.invariant-bytes
invariant-bytes l = l.sum ≡ sum (take l.byte-index l.fn.payload) % 256
