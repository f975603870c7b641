-- Those between two bounds.
use Rattle.std.proofs.Common.{ℕ, ◌∙◌, ◌==◌, ap}
use Rattle.std.specs.List.{filter}
use Rattle.typestate.proofs.Linked.{named-links}
use Rattle.typestate.proofs.mapped_pages.MappedPages.at.Goals as goal

pub returns : goal.returns
returns c =
    let slots = c.args.self.now.slots.keys in
    c.range.ensures.between tt ∙ named-links c.from-first.result slots ∙ ap (λ (m : ℕ). filter (λ (q : ℕ × ℕ). q.0 == m) slots) c.from-first.ensures
