-- By the lemma on the rows, or the slots, one after another.
use Rattle.slots.proofs.preorder.Walking.{parents-back}
use Rattle.slots.proofs.preorder.walk_laws.parent_is_back.Goals as goal

pub returns : goal.returns
returns c =
    λ rows next previous depths s n linked there few. parents-back rows next previous depths s n linked.rises linked.deep linked.chain there few
