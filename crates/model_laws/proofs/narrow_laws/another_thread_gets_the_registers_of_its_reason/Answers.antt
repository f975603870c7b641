-- By the reasons, case by case.
use Rattle.std.proofs.Common.{inl, inr}
use Rattle.model_laws.proofs.Narrow.{answered-with, back-with, received-with}
use Rattle.model_laws.proofs.narrow_laws.another_thread_gets_the_registers_of_its_reason.Goals as goal

pub returns-clause-caller : goal.returns-clause-caller
returns-clause-caller c = λ image t s after other old new apart before waits behind differ wrong within.
    wrong (answered-with image t s after other old new waits (within.threads other old new apart before behind differ))

pub returns-clause-set_back : goal.returns-clause-set_back
returns-clause-set_back c = λ image t s after other queue failure old new apart none before waits behind differ wrong within.
    wrong (back-with image t s after other old new queue failure none waits (within.threads other old new apart before behind differ))

pub returns-clause-sender : goal.returns-clause-sender
returns-clause-sender c = λ image t s after other queue kind old new apart asks before waits behind differ stays goes within.
    elim (received-with image t s after other old new queue kind asks waits (within.threads other old new apart before behind differ)) [
      | inl same ↦ stays same
      | inr on ↦ goes on
    ]
