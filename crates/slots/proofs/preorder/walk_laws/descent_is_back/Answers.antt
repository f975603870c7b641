-- By the lemma on the rows, or the slots, one after another.
use Rattle.slots.proofs.preorder.BackTests.{descends-back}
use Rattle.slots.proofs.preorder.walk_laws.descent_is_back.Goals as goal

pub returns : goal.returns
returns c =
    λ rows next previous depths root s n linked shallow there few.
    descends-back rows next previous depths root s n linked.rises linked.deep linked.once shallow linked.chain there few
