-- Field by field.
use Rattle.headline.proofs.parts.Decided.{threads}
use Rattle.headline.proofs.parts.threads_are_told_apart.Goals as goal

pub returns : goal.returns
returns c = λ a b. threads a b
