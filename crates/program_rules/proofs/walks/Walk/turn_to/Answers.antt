-- Parts of a log change their places.
use Rattle.program_rules.proofs.walks.Walk.turn_to.Goals as goal

pub returns : goal.returns
returns c = λ image t slots log along.
    let shown = c.turn.ensures.shown log along.shown along.aside in
    record {
      shown = c.turn-2.ensures.shown log shown along.left;
      aside = c.turn.ensures.aside log along.shown along.aside;
      left = c.turn-2.ensures.aside log shown along.left;
      rooted = along.rooted;
      found = along.found;
    }
