-- What a reply changes, and then what a receive changes in the state after it.
use Rattle.headline.proofs.authority.ReplyCalls.{reply-endpoint, reply-notification, reply-within}
use Rattle.headline.proofs.authority.call_laws.replies_stay_within_authority.Goals as goal

pub returns-clause-alone : goal.returns-clause-alone
returns-clause-alone c = λ image t s number sound is at nobody.
    reply-within image t s sound number is at.own at.is at.runs nobody at.calls

pub returns-clause-receiving : goal.returns-clause-receiving
returns-clause-receiving c = λ image t s number endpoint badge allowed sound is call reads nobody own_buffers.
    reply-endpoint image t s sound number is endpoint badge allowed reads call nobody own_buffers

pub returns-clause-waiting : goal.returns-clause-waiting
returns-clause-waiting c = λ image t s number notification badge allowed sound is call reads nobody own_buffers.
    reply-notification image t s sound number is notification badge allowed reads call nobody own_buffers
