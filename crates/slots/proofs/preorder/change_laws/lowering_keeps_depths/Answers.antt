-- By the lemma on the rows, or the slots, one after another.
use Rattle.std.proofs.Common.{None}
use Rattle.slots.proofs.preorder.DepthChanges.{deep-taken_out, low-beside, low-own}
use Rattle.slots.proofs.preorder.change_laws.lowering_keeps_depths.Goals as goal

pub returns : goal.returns
returns c =
    record {
      taken = λ rows next previous depths gone n linked there few.
          deep-taken_out rows next previous None depths gone n linked.chain linked.deep linked.once there few;
      own =
          λ rows next previous depths d gone n linked there. low-own rows next previous None depths d n gone linked.chain linked.once there;
      beside =
          λ rows next previous depths d gone n s linked there none. low-beside rows next previous None depths d n gone s linked.chain there none;
    }
