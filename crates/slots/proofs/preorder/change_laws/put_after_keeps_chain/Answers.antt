-- By the lemma on the rows, or the slots, one after another.
use Rattle.std.proofs.Common.{◌≡◌, Some, None}
use Rattle.slots.proofs.preorder.Linked.{chain-put_after}
use Rattle.slots.proofs.preorder.change_laws.put_after_keeps_chain.Goals as goal

pub returns : goal.returns
returns c =
    λ slots next previous at slot chain once none there. chain-put_after slots next previous None at slot chain once
    (λ same. absurd (let clash : None ≡ Some slot = same in cc)) (λ b same. absurd (let clash : None ≡ Some b = same in cc)) none there
