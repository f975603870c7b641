-- Nothing, a pending bit, or a signal: its badge joins the word, or wakes the first waiter.
use Rattle.headline.proofs.authority.Interrupted.{raise-within}
use Rattle.headline.proofs.authority.step_laws.an_interrupt_stays_within_authority.Goals as goal

pub returns : goal.returns
returns c = raise-within
