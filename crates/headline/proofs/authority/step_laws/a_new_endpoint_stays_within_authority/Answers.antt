-- One object appears, one slot is filled, and the untyped memory is used further.
use Rattle.headline.proofs.authority.MadeEndpoints.{retype-within}
use Rattle.headline.proofs.authority.step_laws.a_new_endpoint_stays_within_authority.Goals as goal

pub returns : goal.returns
returns c = retype-within
