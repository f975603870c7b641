-- Nothing else is at its offset, and no earlier thread has its object.
use Rattle.headline.proofs.starts.StartObjects.{object-started}
use Rattle.headline.proofs.starts.start_laws.threads_are_as_listed.Goals as goal

pub returns : goal.returns
returns c = object-started
