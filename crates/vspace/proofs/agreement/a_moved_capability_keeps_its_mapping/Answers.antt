-- The tables and the mappings are carried along.
use Rattle.vspace.proofs.AgreementSlots.{agree-moved}
use Rattle.vspace.proofs.agreement.a_moved_capability_keeps_its_mapping.Goals as goal

pub returns : goal.returns
returns c = agree-moved
