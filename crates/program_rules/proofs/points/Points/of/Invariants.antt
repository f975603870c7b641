-- Each point so far has what is noted of it, and the records that are left are those of the points to come.
use Rattle.program_rules.proofs.NextRecords.{AreLeft}
use Rattle.program_rules.proofs.points.Points.of.Given as goal
use Rattle.program_rules.specs.Kept.{IsReadTo}
use Rattle.program_rules.specs.Programs.{thread_of}
use Rattle.typestate.specs.Logs.{ShowsSome}

abbrev pub invariant-notes : goal.invariant-notes
invariant-notes l =
    IsReadTo l.fn.program.given.space.image.now (thread_of l.fn.program) l.fn.program.given.slots.now l.point l.points.log l.points.kept l.last l.derived
    × AreLeft l.fn.program.given.space.thread.now l.point l.records × ShowsSome l.points.log l.shown
