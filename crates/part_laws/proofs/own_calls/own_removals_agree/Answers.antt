-- Own slots are the same on both sides, and the boot CNode is.
use Rattle.part_laws.proofs.own_calls.removal.Removed.{removals-agree}
use Rattle.part_laws.proofs.own_calls.own_removals_agree.Goals as goal

pub returns : goal.returns
returns c = λ image part s t u both agree member now.
    removals-agree c.laws_on_invocations.ensures c.threads_have_their_own_blocks.ensures image part s t u both agree member now
