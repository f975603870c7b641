-- By the lemma on the rows, or the slots, one after another.
use Rattle.std.proofs.Common.{None}
use Rattle.slots.proofs.preorder.Walking.{linked-rows}
use Rattle.slots.proofs.preorder.walk_laws.links_lead_through_rows.Goals as goal

pub returns : goal.returns
returns c =
    λ rows next previous depths n linked few. linked-rows rows next previous depths None n linked.chain linked.deep few
