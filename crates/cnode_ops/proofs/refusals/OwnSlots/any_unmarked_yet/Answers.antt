-- The same slots have the same answer.
use Rattle.std.proofs.Common.{ℕ, ◌∙◌, Bool, sym, ap}
use Rattle.cnode_ops.specs.Marked.{is_unmarked}
use Rattle.cnode_ops.specs.Refusals.{some_slot}
use Rattle.cnode_ops.proofs.refusals.OwnSlots.any_unmarked_yet.Goals as goal

pub returns-then-are_same : goal.returns-then-are_same
returns-then-are_same g c =
    let test : ℕ → Bool = is_unmarked (g.S.SlotMap.slots c.args.store.now) c.args.marks.now in
    sym (ap (λ (n : ℕ). some_slot n c.args.self.count test) (c.are_same.ensures.first c.if-are_same.true)
    ∙ ap (λ (n : ℕ). some_slot c.args.passed.first n test) (c.are_same.ensures.count c.if-are_same.true)
    ∙ c.requires)
