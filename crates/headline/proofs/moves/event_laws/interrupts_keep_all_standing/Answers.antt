-- An interrupt is a signal, or is pending.
use Rattle.headline.proofs.moves.Interrupts.{all-over-interrupt}
use Rattle.headline.proofs.moves.event_laws.interrupts_keep_all_standing.Goals as goal

pub returns : goal.returns
returns c = all-over-interrupt c.laws_below.ensures
