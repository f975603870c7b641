-- The thread that runs is first at its priority; it loses a tick, or goes to the tail.
use Rattle.headline.proofs.authority.Ticks.{tick-within}
use Rattle.headline.proofs.authority.step_laws.a_tick_stays_within_authority.Goals as goal

pub returns : goal.returns
returns c = tick-within
