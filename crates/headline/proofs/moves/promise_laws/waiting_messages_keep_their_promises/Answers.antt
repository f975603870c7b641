-- Each by its thread's point.
use Rattle.headline.proofs.moves.KeptPromises.{promises-kept}
use Rattle.headline.proofs.moves.promise_laws.waiting_messages_keep_their_promises.Goals as goal

pub returns : goal.returns
returns c = promises-kept c.laws_below.ensures
