-- Each event keeps the ready list free of doubles.
use Rattle.headline.proofs.authority.ReadySteps.{step-sound}
use Rattle.headline.proofs.authority.ready_laws.the_ready_list_holds_no_thread_twice.Goals as goal

pub returns : goal.returns
returns c = step-sound
