-- The tables and the mappings are carried along.
use Rattle.vspace.proofs.AgreementSlots.{agree-removed}
use Rattle.vspace.proofs.agreement.an_unmapped_capability_may_be_removed.Goals as goal

pub returns : goal.returns
returns c = agree-removed
