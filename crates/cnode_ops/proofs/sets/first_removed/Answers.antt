-- Where no descendant is listed there is none.
use Rattle.std.proofs.Common.{◌∙◌, sym, ap}
use Rattle.cnode_ops.specs.Sets.{set_of}
use Rattle.cnode_ops.proofs.NoneBelow.{no-descendants}
use Rattle.cnode_ops.proofs.sets.first_removed.Goals as goal

pub returns-in-Below-clause-none : goal.returns-in-Below-clause-none
returns-in-Below-clause-none g c = λ none slot full.
    ap (λ set. set_of (g.S.SlotMap.slots c.args.store.now) set slot) c.in-Below.is
    ∙ no-descendants _ _ _ c.next_below.ensures.derivation c.next_below.ensures.lists (sym c.next_below.ensures.next ∙ none) slot
