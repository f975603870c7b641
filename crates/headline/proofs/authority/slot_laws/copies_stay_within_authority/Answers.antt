-- The destination alone changes.
use Rattle.headline.proofs.authority.SlotCalls.{copy-within}
use Rattle.headline.proofs.authority.slot_laws.copies_stay_within_authority.Goals as goal

pub returns : goal.returns
returns c = λ image t s after own call destination source word is slots. copy-within image t s own is call destination source slots word after
