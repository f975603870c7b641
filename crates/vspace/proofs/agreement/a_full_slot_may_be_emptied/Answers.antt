-- By the law on changes of slots.
use Rattle.vspace.proofs.AgreementRemoved.{agree-emptied}
use Rattle.vspace.proofs.agreement.a_full_slot_may_be_emptied.Goals as goal

pub returns : goal.returns
returns c = agree-emptied
