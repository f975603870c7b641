-- Event by event.
use Rattle.headline.proofs.parts.Given.{given-kept}
use Rattle.headline.proofs.parts.threads_hold_what_they_were_given.Goals as goal

pub returns : goal.returns
returns c = λ bytes image s after event accepted before within. given-kept bytes image accepted s after before event within
