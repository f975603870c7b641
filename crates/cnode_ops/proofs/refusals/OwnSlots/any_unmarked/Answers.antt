-- The slot where it was found, or none of them.
use Rattle.std.proofs.Common.{ℕ, ◌∙◌, ◌+◌, Bool, sym, ap, arith}
use Rattle.cnode_ops.specs.Marked.{is_unmarked}
use Rattle.cnode_ops.proofs.SomeSlot.{next-none, some-at, some-none}
use Rattle.cnode_ops.proofs.refusals.OwnSlots.any_unmarked.Goals as goal

pub returns-then-is_unmarked : goal.returns-then-is_unmarked
returns-then-is_unmarked g c =
    let test : ℕ → Bool = is_unmarked (g.S.SlotMap.slots c.args.store.now) c.args.marks.now in
    sym (some-at c.args.self.first c.args.self.count (c.args.self.first + c.slots.index) test (omega arith) (omega (arith, c.slots-test.true))
    (ap test (sym c.new.ensures) ∙ sym c.is_unmarked.ensures ∙ c.if-is_unmarked.true))

pub returns : goal.returns
returns g c =
    let test : ℕ → Bool = is_unmarked (g.S.SlotMap.slots c.args.store.now) c.args.marks.now in
    sym (some-none c.args.self.first c.args.self.count test (λ i less. c.slots.invariant i (omega (arith, less, c.slots-test.false))))

pub slots-preserved : goal.slots-preserved
slots-preserved g c =
    let test : ℕ → Bool = is_unmarked (g.S.SlotMap.slots c.args.store.now) c.args.marks.now in
    next-none c.slots.index (λ i. test (c.args.self.first + i)) c.slots.invariant
    (ap test (sym c.new.ensures) ∙ sym c.is_unmarked.ensures ∙ c.if-is_unmarked.false)
