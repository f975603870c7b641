-- What is kept of the point at hand, which is not after the last.
use Rattle.std.proofs.Common.{◌≤◌}
use Rattle.program_rules.proofs.read_points.ReadPoints.at.Given as goal
use Rattle.program_rules.specs.Kept.{IsKeptAt}
use Rattle.program_rules.specs.Programs.{thread_of}

abbrev pub invariant-steps : goal.invariant-steps
invariant-steps l = IsKeptAt l.self.program.now.given.space.image.now (thread_of l.self.program.now) l.self.program.now.given.slots.now l.self.points.now.log
    l.before l.kept × (l.before ≤ l.point)
