-- Each call by its rule, of the thread that runs.
use Rattle.headline.proofs.authority.StandingCalls.{stands-within}
use Rattle.headline.proofs.authority.standing_laws.calls_that_invoke_nothing_stay_within_authority.Goals as goal

pub returns : goal.returns
returns c = λ bytes image t s labels accepted all listed now makes quiet.
    stands-within c.laws_below.ensures bytes image t s labels accepted all listed now makes quiet
