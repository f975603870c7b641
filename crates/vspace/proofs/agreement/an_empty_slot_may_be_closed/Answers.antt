-- By the law on changes of slots.
use Rattle.vspace.proofs.AgreementRemoved.{agree-one_closed}
use Rattle.vspace.proofs.agreement.an_empty_slot_may_be_closed.Goals as goal

pub returns : goal.returns
returns c = agree-one_closed
