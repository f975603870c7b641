-- The tables and the mappings are carried along.
use Rattle.vspace.proofs.AgreementSlots.{agree-closed}
use Rattle.vspace.proofs.agreement.slots_may_be_closed.Goals as goal

pub returns : goal.returns
returns c = agree-closed
