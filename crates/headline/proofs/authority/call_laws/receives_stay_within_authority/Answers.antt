-- By who sends there.
use Rattle.headline.proofs.authority.EndpointCalls.{receives-within}
use Rattle.headline.proofs.authority.call_laws.receives_stay_within_authority.Goals as goal

pub returns : goal.returns
returns c = λ image t s kind number endpoint badge allowed sound is call reads.
    receives-within image t s sound number endpoint badge allowed call reads kind is
