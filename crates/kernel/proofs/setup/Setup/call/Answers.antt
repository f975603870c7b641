-- What is lent on is the state.
use Rattle.model.specs.Kernel.Outcomes.{GivesState}
use Rattle.kernel.proofs.setup.Setup.call.Goals as goal
use Rattle.kernel_machine.specs.Setups.{Parts, state_in}
use Rattle.model.specs.Images.Boot.{made}
use Rattle.model.specs.Images.BootCalls.{loader_call}
use Rattle.std.proofs.Common.{subst}

pub returns-clause-outcome : goal.returns-clause-outcome
returns-clause-outcome c =
    subst (λ (k : Parts). GivesState (made (state_in k) (loader_call c.args.cap c.args.label c.args.words.now)) c.call.result (state_in c.call.new.self))
    c.self.view_is
    c.call.ensures.outcome
