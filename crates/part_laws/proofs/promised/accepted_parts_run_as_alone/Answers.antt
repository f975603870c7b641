-- By the law on own steps.
use Rattle.part_laws.proofs.promised.accepted_parts_run_as_alone.Goals as goal

pub returns : goal.returns
returns c = c.parts_run_as_alone.ensures c.own_steps_agree.ensures
