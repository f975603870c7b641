-- None so far is full, and so the rest decides.
use Rattle.std.proofs.Common.{ℕ, suc, ◌≡◌, ◌∙◌, ◌+◌, ◌-◌, ◌<◌, ◌||◌, ◌∷◌, Bool, true, Option, is_some, sym, ap, arith}
use Rattle.std.specs.List.{list_any, range_with_len}
use Rattle.model.specs.Acceptance.NotedStates.{NotedSlot, SlotKey, slot_at}
use Rattle.typestate.proofs.points.NotedSlots.lists_any.Goals as goal

range-next : (a n : ℕ) → a < n → range_with_len a (n - a) ≡ a ∷ range_with_len (a + 1) (n - (a + 1))
range-next a n less = ap (range_with_len a) (let one : n - a ≡ suc (n - (a + 1)) = omega (arith, less) in one)

pub loop-i-preserved : goal.loop-i-preserved
loop-i-preserved c =
    let f : ℕ → Bool = λ i.
    is_some (slot_at c.args.self.now.image.now (record { cnode = c.args.run.now.first.cnode; index = c.args.run.now.first.index + i })) in
    let i = c.loop-i.i in
    record {
      within = omega (arith, c.loop-i-test.true);
      left = ap (λ b. b || list_any f (range_with_len (i + 1) (c.args.run.now.count - (i + 1))))
          (sym c.if-is_some.false ∙ c.is_some.ensures ∙ ap (λ (o : Option NotedSlot). is_some o) c.listed.ensures
          ∙ ap (λ (k : SlotKey). is_some (slot_at c.args.self.now.image.now k)) c.key.ensures)
          ∙ ap (list_any f) (sym (range-next i c.args.run.now.count c.loop-i-test.true)) ∙ c.loop-i.invariant.left;
    }

pub returns-then-is_some : goal.returns-then-is_some
returns-then-is_some c =
    let f : ℕ → Bool = λ i.
    is_some (slot_at c.args.self.now.image.now (record { cnode = c.args.run.now.first.cnode; index = c.args.run.now.first.index + i })) in
    let i = c.loop-i.i in
    let full : f i ≡ true = sym (c.is_some.ensures ∙ ap (λ (o : Option NotedSlot). is_some o) c.listed.ensures
    ∙ ap (λ (k : SlotKey). is_some (slot_at c.args.self.now.image.now k)) c.key.ensures) ∙ c.if-is_some.true in
    sym (ap (λ b. b || list_any f (range_with_len (i + 1) (c.args.run.now.count - (i + 1)))) full)
    ∙ ap (list_any f) (sym (range-next i c.args.run.now.count c.loop-i-test.true)) ∙ c.loop-i.invariant.left
