-- What is said of the points of a program each of which is read, so that contracts name them alone.
use Rattle.std.specs.Prelude.{ℕ, Option}
use Rattle.model.specs.Acceptance.PointStates.{Noted, follows, instruction_at}
use Rattle.model.specs.declared.instructions.Instr.{Instr}
use Rattle.program_rules.specs.Kept.{IsCleanIn, IsKeptAt, Kept, noted_by}
use Rattle.program_rules.specs.Programs.{thread_of}
use Rattle.program_rules.specs.declared.read_points.ReadPoint.{ReadPoint}
use Rattle.program_rules.specs.declared.read_points.ReadPoints.{ReadPoints}

-- what is kept of one of them is what the certificate notes of it
abbrev pub IsKeptIn : ReadPoints → ℕ → Kept → Type 0
IsKeptIn r point k = IsKeptAt r.program.now.given.space.image.now (thread_of r.program.now) r.program.now.given.slots.now r.points.now.log point k

-- ---- one of them

abbrev pub instruction_read : ReadPoint → Option Instr
instruction_read h = instruction_at h.read.program.now.given.space.thread.now h.point

-- what is kept of it is what the certificate notes of it
abbrev pub IsKeptRead : ReadPoint → Kept → Type 0
IsKeptRead h k = IsKeptIn h.read h.point k

-- what is noted, by what is kept
abbrev pub noted_read : ReadPoint → Kept → Noted
noted_read h k = noted_by h.read.program.now.given.slots.now h.read.points.now.log k

-- what is noted of the next point, by what is noted of this one
abbrev pub left_read : ReadPoint → Noted → Noted
left_read h here = follows h.read.program.now.given.space.image.now (thread_of h.read.program.now) h.point here

-- where it is known that no slot is one that the thread may not have, none is
abbrev pub IsCleanRead : ReadPoint → Kept → Type 0
IsCleanRead h k =
    IsCleanIn h.read.program.now.given.space.image.now h.read.program.now.given.space.thread.now h.read.program.now.given.slots.now h.read.points.now.log k
