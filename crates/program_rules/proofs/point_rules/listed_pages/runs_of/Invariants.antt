-- All runs so far are mapped, the last one too.
use Rattle.std.proofs.Common.{ℕ, Bool}
use Rattle.std.specs.List.{list_any}
use Rattle.model.specs.Acceptance.PointRules.{maps_for}
use Rattle.program_rules.proofs.point_rules.listed_pages.runs_of.Given as goal
use Rattle.program_rules.specs.point_rules.Runs.{AreRuns, IsRun}

abbrev pub invariant-frames : goal.invariant-frames
invariant-frames l =
    let listed : ℕ → Bool = λ page. list_any (maps_for l.access l.thread page) l.image.frames in
    AreRuns listed l.runs.items × IsRun listed l.last
