-- By the lemma on the rows, or the slots, one after another.
use Rattle.std.proofs.Common.{None}
use Rattle.slots.proofs.preorder.Walking.{behind-first, behind-next, behind-none}
use Rattle.slots.proofs.preorder.walk_laws.next_below_is_linked.Goals as goal

pub returns : goal.returns
returns c =
    record {
      first = λ rows next previous depths root linked there. behind-first rows next previous depths None root linked.chain linked.deep there;
      behind =
          λ rows next previous depths root s linked there. behind-next rows next previous depths None root s linked.chain linked.deep there;
      none = behind-none;
    }
