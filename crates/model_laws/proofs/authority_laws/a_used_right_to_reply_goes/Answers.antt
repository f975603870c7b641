-- The right stays where its caller waits on, and comes from a sender, which awaits no answer.
use Rattle.model_laws.proofs.UsedRights.{used-right}
use Rattle.model_laws.proofs.authority_laws.a_used_right_to_reply_goes.Goals as goal

pub returns : goal.returns
returns c = λ image t s after caller old new sound before behind right answered still within.
    used-right image t s after sound old caller new.caller before right answered still (within.right old new before behind)
