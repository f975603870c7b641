-- The slot where it was found, or none of them.
use Rattle.std.proofs.Common.{ℕ, ◌∙◌, ◌+◌, Bool, sym, ap, arith}
use Rattle.cnode_ops.specs.Refusals.{some_slot}
use Rattle.model.specs.Capabilities.Slots.{is_full}
use Rattle.cnode_ops.proofs.SomeSlot.{some-at, some-none}
use Rattle.cnode_ops.proofs.windows.any_full.Goals as goal

pub returns-then-is_taken : goal.returns-then-is_taken
unfolding some_slot
returns-then-is_taken g c =
    let test : ℕ → Bool = is_full (g.S.SlotMap.slots c.args.store.now) in
    sym (some-at c.args.first c.args.count (c.args.first + c.slots.index) test (omega arith) (omega (arith, c.slots-test.true))
    (ap test (sym (c.new.ensures ∙ ap (λ (n : ℕ). n + c.slots.index) c.number.ensures.value)) ∙ sym c.is_taken.ensures ∙ c.if-is_taken.true))

pub returns : goal.returns
unfolding some_slot
returns g c =
    let test : ℕ → Bool = is_full (g.S.SlotMap.slots c.args.store.now) in
    sym (some-none c.args.first c.args.count test (λ i less. c.slots.invariant i (omega (arith, less, c.slots-test.false))))
