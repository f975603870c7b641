-- The destination alone changes.
use Rattle.headline.proofs.authority.SlotCalls.{mint-within}
use Rattle.headline.proofs.authority.slot_laws.mints_stay_within_authority.Goals as goal

pub returns : goal.returns
returns c = λ image t s after own call destination source word payload is slots.
    mint-within image t s own is call destination source slots word payload after
