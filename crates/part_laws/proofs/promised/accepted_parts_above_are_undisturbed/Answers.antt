-- By the law on own steps.
use Rattle.part_laws.proofs.promised.accepted_parts_above_are_undisturbed.Goals as goal

pub returns : goal.returns
returns c = c.parts_above_are_undisturbed.ensures c.own_steps_agree.ensures
