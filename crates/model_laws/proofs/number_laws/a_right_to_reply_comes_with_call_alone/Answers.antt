-- By the reasons, case by case.
use Rattle.model.specs.Acceptance.Authority.{self_of}
use Rattle.model_laws.proofs.CallNumbers.{giver-calls}
use Rattle.model_laws.proofs.Reasons.{third_differs}
use Rattle.model_laws.proofs.number_laws.a_right_to_reply_comes_with_call_alone.Goals as goal

pub returns : goal.returns
returns c = λ image t s after other endpoint call old new apart asks wrong before waits nobody behind has within.
    wrong (giver-calls image t s after other old new endpoint call asks waits nobody has
    (within.threads other old new apart before behind (third_differs old new (self_of image t) nobody has)))
