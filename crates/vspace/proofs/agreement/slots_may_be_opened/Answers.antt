-- The tables and the mappings are carried along.
use Rattle.vspace.proofs.AgreementSlots.{agree-opened}
use Rattle.vspace.proofs.agreement.slots_may_be_opened.Goals as goal

pub returns : goal.returns
returns c = agree-opened
