-- One frame after another.
use Rattle.std.proofs.Common.{ℕ, ◌≡◌, ◌∙◌, Bool, Global, Vec, length, sym, ap, subst, arith}
use Rattle.std.specs.List.{list_any}
use Rattle.model.specs.Acceptance.PointRules.{maps_for}
use Rattle.program_rules.proofs.point_rules.listed_pages.runs_of.Goals as goal
use Rattle.program_rules.proofs.point_rules.listed_pages.runs_of.Goals.{then-entry-root+then-is_listed+in_ok-last, else-entry-root}
use Rattle.program_rules.specs.declared.point_rules.listed_pages.PageRun.{PageRun}
use Rattle.program_rules.specs.point_rules.Runs.{AreRuns, IsRun}

pub frames-init : goal.frames-init
frames-init c = (
  λ k d below. absurd (let none = ap length c.new-runs.ensures.items in omega (arith, below, none)),
  λ p from below.
      absurd (omega (arith, below)),
)

carried : (test : ℕ → Bool) (here runs : Vec PageRun Global) (longer last : PageRun) → here ≡ runs → longer ≡ last → AreRuns test runs.items × IsRun test last →
    AreRuns test here.items × IsRun test longer
carried test here runs longer last same-runs same-last all =
    (subst (λ (r : Vec PageRun Global). AreRuns test r.items) (sym same-runs) all.0, subst (λ (r : PageRun). IsRun test r) (sym same-last) all.1)

pub frames-preserved : goal.frames-preserved
frames-preserved c =
    let listed : ℕ → Bool = λ page. list_any (maps_for c.args.access c.args.thread.now page) c.args.image.now.frames in
    elim c.if-entry-root.branch [
      | then-entry-root+then-is_listed+in_ok-last w ↦
          carried listed c.if-entry-root.runs _ c.if-entry-root.last _ w.runs-is w.last-is (
            w.in_ok-last.ensures.runs listed c.frames.invariant.0 c.frames.invariant.1,
            w.in_ok-last.ensures.last listed c.frames.invariant.1 (sym w.is_listed.ensures ∙ w.if-is_listed.true),
          )
      | else-entry-root w ↦ carried listed c.if-entry-root.runs _ c.if-entry-root.last _ w.runs-is w.last-is c.frames.invariant
    ]
