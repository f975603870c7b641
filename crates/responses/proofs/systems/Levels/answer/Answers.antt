-- By what passed the test.
use Rattle.responses.proofs.Whole.{bound-is-so}
use Rattle.responses.proofs.systems.Levels.answer.Goals as goal

pub returns-in-Ok : goal.returns-in-Ok
returns-in-Ok c = λ bytes accepted.
    let hold = c.tested_settled_responses_hold.ensures in
    bound-is-so c.args.self.now c.args.priority _ _ hold.steps hold.rested_steps hold.lines hold.rested_lines hold.alone hold.rested_alone hold.inputs
    c.in-Ok.ensures bytes accepted
