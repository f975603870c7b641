-- The runs are those of the list.
use Rattle.std.proofs.Common.{List, sym, subst}
use Rattle.program_rules.proofs.point_rules.found_runs.FoundRuns.end.Goals as goal
use Rattle.program_rules.specs.declared.point_rules.listed_pages.PageRun.{PageRun}
use Rattle.program_rules.specs.point_rules.Runs.{AreRuns}

pub returns : goal.returns
returns c = λ test runs.
    c.run_end.ensures test (subst (λ (rs : List PageRun). AreRuns test rs) (sym c.deref.ensures.value)
    (subst (λ (rs : List PageRun). AreRuns test rs) (sym c.self.view_is) runs))
