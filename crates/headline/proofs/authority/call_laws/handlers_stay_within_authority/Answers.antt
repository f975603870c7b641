-- One empty slot holds the handler after the call.
use Rattle.headline.proofs.authority.NewHandlers.{get-within}
use Rattle.headline.proofs.authority.call_laws.handlers_stay_within_authority.Goals as goal

pub returns : goal.returns
returns c = λ image t s kind number sound is call gets. get-within image t s kind number is sound call gets
