-- Descent is the same under the new names.
use Rattle.std.proofs.Common.{sym, subst}
use Rattle.model.specs.Capabilities.Slots.{Slots, Descendant}
use Rattle.derivation.specs.Moves.{name_after_move}
use Rattle.derivation.proofs.Moves.{descendant-moved, descendant-unmoved}
use Rattle.derivation.proofs.changes.relocate.Goals as goal

pub returns-clause-descent : goal.returns-clause-descent
returns-clause-descent g c = λ root other root_apart other_apart.
    let slots : Slots = g.S.SlotMap.slots c.args.store.now in
    let Moved : Slots → Type 0 = λ (new : Slots). Descendant new (name_after_move c.args.from c.args.to root) (name_after_move c.args.from c.args.to other) in
    let tree = c.relocate.ensures.derivation in (
      (λ after. descendant-unmoved slots c.args.from c.args.to root other tree c.requires.full c.requires.empty root_apart other_apart
          (subst Moved c.relocate.ensures.slots after)),
      (λ before. subst Moved (sym c.relocate.ensures.slots)
          (descendant-moved slots c.args.from c.args.to root other tree c.requires.full c.requires.empty other_apart before)),
    )
