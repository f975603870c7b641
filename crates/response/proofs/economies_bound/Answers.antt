-- By induction over the events.
use Rattle.response.proofs.Runs.{bounded, bounded-later}
use Rattle.response.proofs.economies_bound.Goals as goal

pub returns-clause-start : goal.returns-clause-start
returns-clause-start c = λ image priority rates price most n left events economy begins keeps stands before later is.
    bounded image priority rates price most n left events economy keeps stands begins before later is

pub returns-clause-later : goal.returns-clause-later
returns-clause-later c = λ image priority rates price most n left events economy keeps stands front more later is other.
    bounded-later image priority rates price most n left events economy keeps stands front more later is other
