-- The tables and the mappings are carried along.
use Rattle.vspace.proofs.AgreementSlots.{agree-beside}
use Rattle.vspace.proofs.agreement.bytes_beside_tables_may_change.Goals as goal

pub returns : goal.returns
returns c = agree-beside
