-- The source, the destination, and what derives from the source.
use Rattle.headline.proofs.authority.SlotCalls.{move-within}
use Rattle.headline.proofs.authority.slot_laws.moves_stay_within_authority.Goals as goal

pub returns : goal.returns
returns c = λ image t s after own call destination source is slots children roots.
    move-within image t s own is call destination source slots children roots.0 roots.1 after
