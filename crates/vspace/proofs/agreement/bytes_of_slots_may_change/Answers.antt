-- No table is where a slot is.
use Rattle.vspace.proofs.AgreementBytes.{agree-outside}
use Rattle.vspace.proofs.agreement.bytes_of_slots_may_change.Goals as goal

pub returns : goal.returns
returns c = agree-outside
