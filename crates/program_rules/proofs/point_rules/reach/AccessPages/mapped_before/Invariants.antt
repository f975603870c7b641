-- All pages up to the one at hand are mapped, and it is at least as far as there were steps.
use Rattle.std.proofs.Common.{ℕ, ◌≡◌, ◌<◌, ◌≤◌, true}
use Rattle.model.specs.Acceptance.PointRules.{is_mapped_for}
use Rattle.typestate.specs.Differences.{slots_of}
use Rattle.program_rules.proofs.point_rules.reach.AccessPages.mapped_before.Given as goal

abbrev pub invariant-pages : goal.invariant-pages
invariant-pages l =
    (l.counter ≤ l.page) × (l.fn.first.number ≤ l.page)
    × ((p : ℕ) → l.fn.first.number ≤ p → p < l.page →
    is_mapped_for l.self.pages.now.image.now l.self.pages.now.thread.now (slots_of l.self.pages.now.slots) l.self.access p ≡ true)
