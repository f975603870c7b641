-- The slots of an object lie in memory.
use Rattle.std.proofs.Common.{ℕ, ◌∙◌, ◌+◌, ◌/◌, ◌≤◌, sym, subst}
use Rattle.cnode_ops.proofs.Refused.{named-near}
use Rattle.cnode_ops.proofs.refusals.Going.own_slots.Goals as goal

pub invariant_of-result-2-clause-inside : goal.invariant_of-result-2-clause-inside
invariant_of-result-2-clause-inside g c =
    subst (λ (n : ℕ). c.in-Some.offset / 16 + n ≤ 1048576) (sym c.slots_named-count.ensures)
    (named-near c.capability-capability.result c.in-Some.offset c.capability-capability.ensures.valid (sym c.in-Some.is ∙ c.object_of.ensures))
