-- By the number of the call, and the kind of the capability that it names.
use Rattle.soundness.proofs.SystemCalls.{system_call-whole}
use Rattle.soundness.proofs.step_laws.system_calls_keep_soundness.Goals as goal

pub returns : goal.returns
returns c = system_call-whole
