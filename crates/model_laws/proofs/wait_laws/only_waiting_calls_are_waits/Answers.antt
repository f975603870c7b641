-- Case by case.
use Rattle.model_laws.proofs.WaitLaws.{only-waits}
use Rattle.model_laws.proofs.wait_laws.only_waiting_calls_are_waits.Goals as goal

pub returns : goal.returns
returns c = only-waits
