-- Packets as they are sent.
-- GDB manual, "Remote Protocol", "Overview".
use Rattle.std.specs.Prelude.{ℕ, ◌+◌, ◌/◌, ◌%◌, ◌++◌, List, [], ◌∷◌, nat_lt, if◌then◌else◌}
use Rattle.std.specs.List.{sum}

-- the digit of a number below 16, in ASCII
abbrev pub digit : ℕ → ℕ
digit n = if nat_lt n 10 then 0x30 + n else 0x57 + n

-- the two digits of a byte, the high one first
abbrev pub digits : ℕ → List ℕ
digits byte = digit (byte / 16 % 16) ∷ digit (byte % 16) ∷ []

-- the sum of bytes, of which eight bits are sent
abbrev pub sum_of : List ℕ → ℕ
sum_of bytes = sum bytes % 256

-- `$`, the payload, `#` and the digits of its sum
abbrev pub frame : List ℕ → List ℕ
frame payload = 0x24 ∷ payload ++ 0x23 ∷ digits (sum_of payload)
