-- The line, and who waits at what it is bound to.
use Rattle.headline.proofs.authority.OwnCalls.{acknowledgement-within}
use Rattle.headline.proofs.authority.call_laws.acknowledgements_stay_within_authority.Goals as goal

pub returns : goal.returns
returns c = acknowledgement-within
