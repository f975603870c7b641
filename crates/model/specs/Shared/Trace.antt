-- The lines of a trace: what is printed of each label.
use Rattle.std.specs.Prelude.{ℕ, ◌+◌, ◌/◌, ◌%◌, ◌^◌, List, [], ◌∷◌, ◌++◌, codes, decimal, nat_lt, if◌then◌else◌}
use Rattle.model.specs.Shared.Labels.{error_number, fault_number}
use Rattle.model.specs.declared.labels.Label.{Label}
use Rattle.model.specs.declared.labels.Label.TheVariants.{Idle, Ticked, Raised, Wrote, Showed, Ran}
use Rattle.model.specs.declared.labels.Outcome.{Outcome}
use Rattle.model.specs.declared.labels.Outcome.TheVariants.{Faulted, Refused, Completed, Put, Waited, Plain}

-- a hexadecimal digit, 0 to 9 and a to f
abbrev pub hex_digit : ℕ → ℕ
hex_digit digit = if nat_lt digit 10 then 48 + digit else 87 + digit

-- a byte as two hexadecimal digits
abbrev pub hex_byte : ℕ → List ℕ
hex_byte byte = hex_digit (byte / 16) ∷ hex_digit (byte % 16) ∷ []

-- a 32-bit word as eight hexadecimal digits, the highest first
unfoldable pub hex_word : ℕ → List ℕ
hex_word word = hex_byte (word / 2 ^ 24) ++ hex_byte (word / 2 ^ 16 % 2 ^ 8)
    ++ hex_byte (word / 2 ^ 8 % 2 ^ 8) ++ hex_byte (word % 2 ^ 8)

-- what came of an instruction
abbrev pub text_of_outcome : Outcome → List ℕ
text_of_outcome (Faulted kind) = codes "fault " ++ decimal (fault_number kind)
text_of_outcome (Refused error) = codes "error " ++ decimal (error_number error)
text_of_outcome Completed = codes "ok"
text_of_outcome (Put byte) = codes "byte " ++ hex_byte byte
text_of_outcome Waited = codes "wait"
text_of_outcome Plain = codes "plain"

-- the line of a label, without a line feed
abbrev pub line_of : Label → List ℕ
line_of Idle = codes "idle"
line_of Ticked = codes "tick"
line_of (Raised irq_line) = codes "irq " ++ decimal irq_line
line_of (Wrote address word) = codes "write " ++ hex_word address ++ codes " " ++ hex_word word
line_of (Showed address word) = codes "read " ++ hex_word address ++ codes " " ++ hex_word word
line_of (Ran thread pc outcome) = hex_word thread ++ codes " " ++ hex_word pc ++ codes " " ++ text_of_outcome outcome
