-- The rest of a run, or the one page.
use Rattle.std.proofs.Common.{ℕ, ◌∙◌, ◌||◌, Bool, sym, ap}
use Rattle.std.specs.List.{list_any}
use Rattle.model.specs.Acceptance.PointRules.{holds_for, is_mapped_for, maps_for}
use Rattle.model.specs.Images.Places.{offset_of}
use Rattle.typestate.specs.Differences.{slots_of}
use Rattle.program_rules.proofs.point_rules.PageRuns.{one-page}
use Rattle.program_rules.proofs.point_rules.reach.AccessPages.mapped_to.Goals as goal

pub returns-then-page-end-clause-mapped : goal.returns-then-page-end-clause-mapped
returns-then-page-end-clause-mapped c = λ p from below.
    let n = c.args.self.now.pages.now in
    let access = c.args.self.now.access in
    let listed : ℕ → Bool = λ page. list_any (maps_for access n.thread.now page) n.image.now.frames in
    ap (λ b. b || list_any (holds_for access (offset_of n.image.now n.thread.now.header.root) p) (slots_of n.slots))
    (c.run_end-end.ensures listed c.runs.ensures p from below)

pub returns-then-is_mapped-clause-mapped : goal.returns-then-is_mapped-clause-mapped
returns-then-is_mapped-clause-mapped c = λ p from below.
    let n = c.args.self.now.pages.now in
    let test : ℕ → Bool = is_mapped_for n.image.now n.thread.now (slots_of n.slots) c.args.self.now.access in
    one-page test c.args.page.number (sym c.is_mapped.ensures ∙ c.if-is_mapped.true) p from below

pub returns-then-page-known-clause-mapped : goal.returns-then-page-known-clause-mapped
returns-then-page-known-clause-mapped c = λ p from below.
    let n = c.args.self.now.pages.now in
    c.end-known.ensures (is_mapped_for n.image.now n.thread.now (slots_of n.slots) c.args.self.now.access) c.args.self.now.mapped p from below
