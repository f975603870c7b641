-- Runs of pages that all pass a test.
use Rattle.std.specs.Prelude.{ℕ, ◌≡◌, ◌<◌, ◌≤◌, Bool, true, List}
use Rattle.std.specs.List.{All}
use Rattle.program_rules.specs.declared.point_rules.listed_pages.PageRun.{PageRun}

abbrev pub IsRun : (ℕ → Bool) → PageRun → Type 0
IsRun test run = (page : ℕ) → run.first ≤ page → page < run.end → test page ≡ true

abbrev pub AreRuns : (ℕ → Bool) → List PageRun → Type 0
AreRuns test runs = All (IsRun test) runs
