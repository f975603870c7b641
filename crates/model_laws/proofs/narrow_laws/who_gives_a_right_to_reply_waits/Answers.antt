-- By the reasons, case by case.
use Rattle.model_laws.proofs.Narrow.{giver-waits}
use Rattle.model_laws.proofs.Reasons.{third_differs}
use Rattle.model.specs.Acceptance.Authority.{self_of}
use Rattle.model_laws.proofs.narrow_laws.who_gives_a_right_to_reply_waits.Goals as goal

pub returns : goal.returns
returns c = λ image t s after other endpoint old new apart before waits nobody behind has wrong within.
    wrong (giver-waits image t s after other old new endpoint waits nobody has
    (within.threads other old new apart before behind (third_differs old new (self_of image t) nobody has)))
