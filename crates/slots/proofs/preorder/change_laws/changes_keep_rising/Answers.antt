-- By the lemma on the rows, or the slots, one after another.
use Rattle.slots.proofs.preorder.Changes.{rises-first, rises-put_behind, rises-renamed, rises-taken_out}
use Rattle.slots.proofs.preorder.change_laws.changes_keep_rising.Goals as goal

pub returns : goal.returns
returns c =
    record {
      put = λ rows parent slot. rises-put_behind rows 0 parent slot;
      first = rises-first;
      taken = λ rows gone. rises-taken_out rows 0 gone;
      moved =
          λ rows from to. rises-renamed rows 0 from to;
    }
