-- By the law on changes of slots.
use Rattle.vspace.proofs.AgreementRemoved.{agree-unused}
use Rattle.vspace.proofs.agreement.a_watermark_may_be_set_back.Goals as goal

pub returns : goal.returns
returns c = agree-unused
