-- By the lemma on the rows, or the slots, one after another.
use Rattle.slots.proofs.preorder.Linked.{chain-first}
use Rattle.slots.proofs.preorder.change_laws.first_keeps_chain.Goals as goal

pub returns : goal.returns
returns c =
    chain-first
