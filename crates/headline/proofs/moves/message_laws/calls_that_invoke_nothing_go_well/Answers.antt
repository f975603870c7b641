-- Each call by its rule.
use Rattle.headline.proofs.moves.MessageSteps.{message-goes-well}
use Rattle.headline.proofs.moves.message_laws.calls_that_invoke_nothing_go_well.Goals as goal

pub returns : goal.returns
returns c = λ bytes image t s labels accepted all listed now makes quiet.
    message-goes-well c.laws_below.ensures bytes image t s labels accepted all listed now makes quiet
