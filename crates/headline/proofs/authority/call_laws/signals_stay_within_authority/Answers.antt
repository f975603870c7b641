-- By who waits there.
use Rattle.headline.proofs.authority.NotificationCalls.{signals-within}
use Rattle.headline.proofs.authority.call_laws.signals_stay_within_authority.Goals as goal

pub returns : goal.returns
returns c = λ image t s kind number notification badge allowed sound is call writes.
    signals-within image t s sound number notification badge allowed call writes kind is
