-- The call of the rules is the kernel's, and its law says what it leaves.
use Rattle.headline.proofs.invocations.InvocationSteps.{invocation-goes-well}
use Rattle.headline.proofs.invocations.invocation_laws.invocations_go_well.Goals as goal

pub returns : goal.returns
returns c = λ bytes image t s labels accepted all listed now makes invokes.
    invocation-goes-well c.laws_on_invocations.ensures bytes image s labels accepted all t listed now makes invokes
