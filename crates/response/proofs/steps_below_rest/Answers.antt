-- What is left at rest is so much.
use Rattle.response.proofs.steps_below_rest.Goals as goal

pub returns : goal.returns
returns c = λ bytes image priority w is_taken is_open owed_most most events t accepted devices pays taken acknowledged owe.
    let left = c.left_at_rest.ensures bytes image priority w is_taken is_open owed_most accepted taken acknowledged owe in
    c.steps_below_rest_owing.ensures bytes image priority w is_taken is_open owed_most most events t accepted devices pays left.0 left.1
