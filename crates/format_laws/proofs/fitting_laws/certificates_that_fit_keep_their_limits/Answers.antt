-- By the format's own tests.
use Rattle.format_laws.proofs.Certificates.{certificates-fit}
use Rattle.format_laws.proofs.fitting_laws.certificates_that_fit_keep_their_limits.Goals as goal

pub returns : goal.returns
returns c = certificates-fit
