-- No point so far breaks a rule, and the records that are left are those of the points to come.
use Rattle.std.proofs.Common.{◌≡◌, ◌<◌, None}
use Rattle.std.specs.List.{range_with_len}
use Rattle.std.specs.Prelude.{flat_map}
use Rattle.model.specs.Acceptance.PointRules.{point_rules}
use Rattle.model.specs.Acceptance.Rules.{first_broken}
use Rattle.program_rules.proofs.NextRecords.{AreLeft}
use Rattle.program_rules.proofs.programs.Program.points_rules.Given as goal
use Rattle.program_rules.specs.Kept.{IsKeptAt}
use Rattle.program_rules.specs.OfPrograms.{AreWalkedFor}
use Rattle.program_rules.specs.Programs.{thread_of}

abbrev pub invariant-rules : goal.invariant-rules
invariant-rules l =
    let image = l.fn.self.given.space.image.now in
    let t = thread_of l.fn.self in
    AreWalkedFor l.fn.self l.points l.walk × AreLeft l.fn.self.given.space.thread.now l.point l.records
    × (first_broken (flat_map (point_rules image t) (range_with_len 0 l.point)) ≡ None)
    × (l.point < t.thread.header.words → IsKeptAt image t l.fn.self.given.slots.now l.points.log l.point l.kept)
