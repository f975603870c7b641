-- By the lemma on the rows, or the slots, one after another.
use Rattle.std.proofs.Common.{None}
use Rattle.slots.specs.preorder.Preorder.{slots_of}
use Rattle.slots.proofs.preorder.Walking.{linked-next}
use Rattle.slots.proofs.preorder.walk_laws.next_is_linked.Goals as goal

pub returns : goal.returns
returns c =
    λ rows next previous depths s linked there. linked-next (slots_of rows) next previous None s linked.chain there
