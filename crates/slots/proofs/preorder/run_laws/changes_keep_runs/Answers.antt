-- By the lemmas on runs.
use Rattle.slots.specs.preorder.Preorder.{slots_of}
use Rattle.slots.proofs.preorder.Runs.{runs-first, runs-put_behind, runs-renamed, runs-same, runs-taken_out}
use Rattle.slots.proofs.preorder.run_laws.changes_keep_runs.Goals as goal

pub returns : goal.returns
returns c =
    record {
      same = λ rows old new. runs-same old new (slots_of rows);
      put = runs-put_behind;
      first = λ rows keys slot. runs-first keys slot (slots_of rows);
      taken = runs-taken_out;
      moved = runs-renamed;
    }
