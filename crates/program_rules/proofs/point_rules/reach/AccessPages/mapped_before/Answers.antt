-- The page where one was missing, or one at the end.
use Rattle.std.proofs.Common.{ℕ, ◌≡◌, Bool, false, IfNone, Option, subst, arith}
use Rattle.model.specs.Acceptance.PointRules.{is_mapped_for}
use Rattle.typestate.specs.Differences.{slots_of}
use Rattle.program_rules.proofs.point_rules.PageRuns.{both-pass}
use Rattle.program_rules.proofs.point_rules.reach.AccessPages.mapped_before.Goals as goal

pub pages-preserved : goal.pages-preserved
pages-preserved c =
    let test : ℕ → Bool = is_mapped_for c.args.self.now.pages.now.image.now c.args.self.now.pages.now.thread.now
    (slots_of c.args.self.now.pages.now.slots) c.args.self.now.access in
    let steps = c.pages.invariant.0 in
    let from = c.pages.invariant.1 in
    let later = c.in-Some.ensures.later in (
      omega (arith, steps, later),
      omega (arith, from, later),
      both-pass test c.args.first.number c.pages.page c.in-Some.next c.pages.invariant.2 c.in-Some.ensures.mapped,
    )

pub returns-in-None-clause-missing : goal.returns-in-None-clause-missing
returns-in-None-clause-missing c = λ _.
    let test : ℕ → Bool = is_mapped_for c.args.self.now.pages.now.image.now c.args.self.now.pages.now.thread.now
    (slots_of c.args.self.now.pages.now.slots) c.args.self.now.access in
    subst (λ (next : Option ℕ). IfNone next (test c.pages.page ≡ false)) c.in-None.is c.mapped_to.ensures.missing
