-- The thread of a program.
use Rattle.model.specs.Images.Described.{Numbered}
use Rattle.program_rules.specs.declared.programs.Program.{Program}

-- with its number
abbrev pub thread_of : Program → Numbered
thread_of p = record { number = p.given.number; thread = p.given.space.thread.now }
