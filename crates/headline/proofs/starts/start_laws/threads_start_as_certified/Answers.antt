-- At the entry, with what is noted of it.
use Rattle.headline.proofs.starts.ThreadStarts.{thread-starts}
use Rattle.headline.proofs.starts.start_laws.threads_start_as_certified.Goals as goal

pub returns : goal.returns
returns c = λ bytes image t accepted there. thread-starts image t accepted.spelled.fits accepted.formed accepted.programs there
