-- What comes of asking for the next line of events.
use Rattle.std.specs.Prelude.{◌≡◌, ◌++◌, ◌∷◌, List, [], Option, Some, None, Result, Ok, Err}
use Rattle.sinks.specs.declared.event_lines.EventLine.{EventLine}
use Rattle.sinks.specs.declared.line_inputs.LineFault.{LineFault}

-- of the lines that are to come, where they are known, these were given, and the others are left
abbrev pub GivesLines : Option (List EventLine) → Option (List EventLine) → List EventLine → Type 0
GivesLines None left lines = Unit {0}
GivesLines (Some all) None lines = ⊥
GivesLines (Some all) (Some left) lines = all ≡ lines ++ left

-- no line is to come, if that is known
abbrev pub NoneLeft : Option (List EventLine) → Type 0
NoneLeft None = Unit {0}
NoneLeft (Some left) = left ≡ []

-- the next line was given, or none is left; lines that are known do not fail
abbrev pub Gives : Option (List EventLine) → Option (List EventLine) → Result (Option EventLine) LineFault → Type 0
Gives all left (Ok (Some line)) = GivesLines all left (line ∷ [])
Gives all left (Ok None) = GivesLines all left [] × NoneLeft left
Gives all left (Err fault) = all ≡ None
