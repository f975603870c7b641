-- The same slots have the same answer.
use Rattle.std.proofs.Common.{ℕ, ◌∙◌, sym, ap}
use Rattle.cnode_ops.specs.Refusals.{some_slot}
use Rattle.cnode_ops.proofs.refusals.OwnSlots.any_full.Goals as goal
use Rattle.model.specs.Capabilities.Slots.{is_full}
use Rattle.model.specs.Kernel.Retype.{any_full}

pub returns-then-are_same : goal.returns-then-are_same
returns-then-are_same g c =
    sym (ap (λ (n : ℕ). some_slot n c.args.self.count (is_full (g.S.SlotMap.slots c.args.store.now))) (c.are_same.ensures.first c.if-are_same.true)
    ∙ ap (λ (n : ℕ). some_slot c.args.passed.first n (is_full (g.S.SlotMap.slots c.args.store.now))) (c.are_same.ensures.count c.if-are_same.true)
    ∙ c.requires)

pub returns : goal.returns
unfolding some_slot
returns g c = c.any_full.ensures ∙ ap (λ first. any_full (g.S.SlotMap.slots c.args.store.now) first c.args.self.count) c.new.ensures
