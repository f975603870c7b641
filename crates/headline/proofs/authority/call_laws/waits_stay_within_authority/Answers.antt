-- By the word.
use Rattle.headline.proofs.authority.NotificationCalls.{waits-within}
use Rattle.headline.proofs.authority.call_laws.waits_stay_within_authority.Goals as goal

pub returns : goal.returns
returns c = λ image t s kind number notification badge allowed sound is call reads.
    waits-within image t s sound number notification badge allowed call reads kind is
