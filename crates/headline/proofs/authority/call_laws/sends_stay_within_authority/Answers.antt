-- By who receives there.
use Rattle.headline.proofs.authority.EndpointCalls.{sends-within}
use Rattle.headline.proofs.authority.call_laws.sends_stay_within_authority.Goals as goal

pub returns : goal.returns
returns c = λ image t s kind number endpoint badge allowed sound is call writes.
    sends-within image t s sound number endpoint badge allowed call writes kind is
