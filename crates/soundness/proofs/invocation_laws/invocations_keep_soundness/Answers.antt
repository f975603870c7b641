-- By the kind of the capability and the label.
use Rattle.soundness.proofs.Invoked.{invoke-whole}
use Rattle.soundness.proofs.invocation_laws.invocations_keep_soundness.Goals as goal

pub returns : goal.returns
returns c = invoke-whole
