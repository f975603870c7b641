-- Field by field.
use Rattle.vspace.proofs.AgreementPut.{agree-put}
use Rattle.vspace.proofs.agreement.an_unmapped_capability_may_be_put.Goals as goal

pub returns : goal.returns
returns c = agree-put
