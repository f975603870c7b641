-- By the lemmas on runs.
use Rattle.std.proofs.Common.{None}
use Rattle.slots.specs.preorder.Preorder.{slots_of}
use Rattle.slots.proofs.preorder.Runs.{another-beside, next-another, previous-another}
use Rattle.slots.proofs.preorder.run_laws.neighbours_tell.Goals as goal

pub returns : goal.returns
returns c =
    record {
      another = λ rows keys key next previous depths s other linked. another-beside keys key (slots_of rows) next previous None s other linked.chain;
      next = λ rows next previous depths s other linked. next-another (slots_of rows) next previous None s other linked.chain linked.once;
      previous = λ rows next previous depths s other linked. previous-another (slots_of rows) next previous s other linked.chain linked.once;
    }
