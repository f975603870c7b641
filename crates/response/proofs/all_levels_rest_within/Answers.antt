-- What is left at rest is so much.
use Rattle.response.proofs.all_levels_rest_within.Goals as goal

pub returns-clause-start : goal.returns-clause-start
returns-clause-start c = λ bytes image priority w rates is_taken is_open owed_most most n events accepted devices pays answers alone acknowledged owe.
    let left = c.left_at_rest.ensures bytes image priority w is_taken is_open owed_most accepted alone acknowledged owe in
    c.levels_rest_owing.ensures.start bytes image priority w rates is_taken is_open owed_most most n events accepted devices pays answers left.0 left.1

pub returns-clause-later : goal.returns-clause-later
returns-clause-later c = λ bytes image priority w rates is_taken is_open owed_most most n events accepted devices pays answers alone acknowledged owe.
    let left = c.left_at_rest.ensures bytes image priority w is_taken is_open owed_most accepted alone acknowledged owe in
    c.levels_rest_owing.ensures.later bytes image priority w rates is_taken is_open owed_most most n events accepted devices pays answers left.0 left.1
