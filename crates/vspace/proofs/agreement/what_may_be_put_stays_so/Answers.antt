-- Case by case.
use Rattle.vspace.proofs.AgreementBytes.{may-outside}
use Rattle.vspace.proofs.agreement.what_may_be_put_stays_so.Goals as goal

pub returns : goal.returns
returns c = may-outside
