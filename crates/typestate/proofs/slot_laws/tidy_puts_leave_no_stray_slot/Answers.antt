-- One after another.
use Rattle.typestate.proofs.Rising.{from-first}
use Rattle.typestate.proofs.TidyChanges.{tidy-puts}
use Rattle.typestate.proofs.slot_laws.tidy_puts_leave_no_stray_slot.Goals as goal

pub returns : goal.returns
returns c = λ space slots made rises none tidy. tidy-puts space slots made (from-first slots rises) none tidy
