-- The current thread is there.
use Rattle.std.proofs.Common.{◌∙◌, sym}
use Rattle.sched.proofs.Current.{current-there}
use Rattle.sched.proofs.turns.tick.Goals as goal

pub ticked-requires : goal.ticked-requires
ticked-requires g c = record { there = current-there _ c.in-Some.thread c.requires.sound (sym c.current.ensures ∙ c.in-Some.is) }
