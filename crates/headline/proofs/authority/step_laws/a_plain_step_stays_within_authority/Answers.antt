-- Nothing else differs.
use Rattle.headline.proofs.authority.PlainSteps.{plain-within}
use Rattle.headline.proofs.authority.step_laws.a_plain_step_stays_within_authority.Goals as goal

pub returns : goal.returns
returns c = plain-within
