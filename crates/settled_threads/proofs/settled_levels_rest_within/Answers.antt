-- What is left at rest is what the others leave.
use Rattle.settled_threads.proofs.settled_levels_rest_within.Goals as goal

pub returns-clause-start : goal.returns-clause-start
returns-clause-start c = λ bytes image priority w settling rates is_taken is_open owed_most most n events accepted devices pays answers settled inputs
    tended owe.
    let left = c.settled_levels_leave_others.ensures bytes image priority w settling is_taken is_open owed_most accepted settled inputs tended owe in
    c.levels_rest_owing.ensures.start bytes image priority w rates is_taken is_open owed_most most n events accepted devices pays answers left.0 left.1

pub returns-clause-later : goal.returns-clause-later
returns-clause-later c = λ bytes image priority w settling rates is_taken is_open owed_most most n events accepted devices pays answers settled inputs
    tended owe.
    let left = c.settled_levels_leave_others.ensures bytes image priority w settling is_taken is_open owed_most accepted settled inputs tended owe in
    c.levels_rest_owing.ensures.later bytes image priority w rates is_taken is_open owed_most most n events accepted devices pays answers left.0 left.1
