-- By the lemma on the rows, or the slots, one after another.
use Rattle.std.proofs.Common.{◌≡◌, Some, None}
use Rattle.slots.proofs.preorder.Linked.{chain-without}
use Rattle.slots.proofs.preorder.change_laws.without_keeps_chain.Goals as goal

pub returns : goal.returns
returns c =
    λ slots next previous gone chain once there. chain-without slots next previous None gone chain once
    (λ b same. absurd (let clash : None ≡ Some b = same in cc)) there
