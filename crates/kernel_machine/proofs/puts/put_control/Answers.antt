-- By the law on interrupt control.
use Rattle.kernel_machine.proofs.puts.put_control.Goals as goal
use Rattle.model.specs.Kernel.Setup.{put_control}
use Rattle.soundness.proofs.Laws.{control-whole}

pub put-requires-clause-sound : goal.put-requires-clause-sound
unfolding put_control
put-requires-clause-sound g c t sound is = control-whole _ t c.args.index sound is

pub returns-clause-outcome : goal.returns-clause-outcome
unfolding put_control
returns-clause-outcome g c = c.put.ensures.outcome
