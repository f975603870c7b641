-- The points so far are seen, the next one has what is left for it, and the records that are left are those of the points to come.
use Rattle.program_rules.proofs.NextRecords.{AreLeft}
use Rattle.program_rules.proofs.programs.Program.views.Given as goal
use Rattle.program_rules.specs.Kept.{IsLeft}
use Rattle.program_rules.specs.Programs.{thread_of}
use Rattle.program_rules.specs.Views.{AreViews}
use Rattle.typestate.specs.Logs.{ShowsSome}

abbrev pub invariant-views : goal.invariant-views
invariant-views l =
    let program = l.fn.self in
    AreViews program.given.space.image.now (thread_of program) l.point l.views
    × IsLeft program.given.space.image.now (thread_of program) program.given.slots.now l.log l.point l.kept
    × AreLeft program.given.space.thread.now l.point l.records × ShowsSome l.log l.shown
