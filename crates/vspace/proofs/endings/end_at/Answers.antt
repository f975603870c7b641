-- No capability to a page table names what is no page.
use Rattle.std.proofs.Common.{◌∙◌, ◌%◌, ℕ, inl, inr, Some, refl, ap, arith}
use Rattle.vspace.proofs.EndingSteps.{table-place}
use Rattle.vspace.proofs.endings.end_at.Goals as goal

pub returns-else-table-from-eq0-clause-slots : goal.returns-else-table-from-eq0-clause-slots
returns-else-table-from-eq0-clause-slots g c = λ y. inr refl

pub returns-else-table-from-eq0-clause-ended : goal.returns-else-table-from-eq0-clause-ended
returns-else-table-from-eq0-clause-ended g c = λ slot m held.
    let place = table-place (g.S.SlotMap.slots c.args.store.now) (g.S.SlotStore.memory c.args.store.now) slot c.args.table (Some m) c.requires.agree held in
    absurd (elim c.else-table-from-eq0.either [
      | inl behind ↦ omega (arith, behind.1, place.1)
      | inr inside ↦ inside (ap (λ (size : ℕ). c.args.table % size) c.from.ensures ∙ place.0)
    ])
