-- By the kind of change.
use Rattle.typestate.proofs.Rising.{from-first}
use Rattle.typestate.proofs.TidyChanges.{tidy-changes}
use Rattle.typestate.proofs.slot_laws.tidy_changes_leave_no_stray_slot.Goals as goal

pub returns : goal.returns
returns c = λ space slots change rises none tidy. tidy-changes space slots change (from-first slots rises) none tidy
