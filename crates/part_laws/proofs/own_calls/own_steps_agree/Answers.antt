-- Both sides map as they may read.
use Rattle.part_laws.proofs.own_calls.own_steps_agree.Goals as goal

pub returns : goal.returns
returns c = λ image part s t thread both agree now inside. c.own_steps_agree_as_read.ensures image part s t thread both both.reads agree now inside
