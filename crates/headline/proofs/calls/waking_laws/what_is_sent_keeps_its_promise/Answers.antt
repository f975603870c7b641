-- By what is known of the registers.
use Rattle.headline.proofs.calls.PromisedMessages.{known-keeps}
use Rattle.headline.proofs.calls.waking_laws.what_is_sent_keeps_its_promise.Goals as goal

pub returns : goal.returns
returns c = known-keeps
