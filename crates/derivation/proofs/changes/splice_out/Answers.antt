-- Descent of the others is as it was.
use Rattle.std.proofs.Common.{sym, subst}
use Rattle.model.specs.Capabilities.Slots.{Slots, Descendant}
use Rattle.derivation.proofs.Splices.{descendant-after, descendant-before}
use Rattle.derivation.proofs.changes.splice_out.Goals as goal

pub returns-clause-descent : goal.returns-clause-descent
returns-clause-descent g c = λ root other root_stays other_stays.
    let slots : Slots = g.S.SlotMap.slots c.args.store.now in (
      (λ after. descendant-before slots c.args.slot root other (subst (λ (new : Slots). Descendant new root other) c.splice_out.ensures.slots after)),
      (λ before. subst (λ (new : Slots). Descendant new root other) (sym c.splice_out.ensures.slots)
          (descendant-after slots c.args.slot root other c.splice_out.ensures.derivation root_stays other_stays before)),
    )
