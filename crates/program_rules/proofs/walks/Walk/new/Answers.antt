-- Each part is one of any log.
use Rattle.program_rules.proofs.walks.Walk.new.Goals as goal

pub returns : goal.returns
returns c = λ image t slots log left rooted.
    record {
      shown = c.new.ensures.shown log;
      aside = c.new-2.ensures.shown log;
      left = left;
      rooted = rooted;
      found = c.new-3.ensures image t slots log;
    }
