-- The tables and the mappings are carried along.
use Rattle.vspace.proofs.AgreementSlots.{agree-changed}
use Rattle.vspace.proofs.agreement.a_capability_without_tables_may_change.Goals as goal

pub returns : goal.returns
returns c = agree-changed
