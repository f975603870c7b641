-- The thread goes to the tail, or its registers alone change.
use Rattle.headline.proofs.authority.OwnCalls.{character-within, yield-within}
use Rattle.headline.proofs.authority.call_laws.calls_on_nothing_stay_within_authority.Goals as goal

pub returns-clause-yields : goal.returns-clause-yields
returns-clause-yields c = yield-within

pub returns-clause-characters : goal.returns-clause-characters
returns-clause-characters c = character-within
