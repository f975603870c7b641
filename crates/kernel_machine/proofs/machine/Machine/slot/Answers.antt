-- What is looked at is the state.
use Rattle.kernel_machine.proofs.machine.Machine.slot.Goals as goal
use Rattle.kernel_machine.specs.Setups.{IsPlace, Parts, state_in}
use Rattle.std.proofs.Common.{IfSome, subst}

pub returns-clause-parent : goal.returns-clause-parent
returns-clause-parent c = subst (λ (k : Parts). IfSome c.look_at.result (λ seen. IfSome seen.1 (IsPlace (state_in k)))) c.self.view_is c.look_at.ensures.parent
