use Rattle.std.proofs.Common.{refl}
use Rattle.model_laws.proofs.Opened.{opened}
use Rattle.model_laws.proofs.loop_rows.loop_may_not_jump_anywhere.Goals as goal

pub returns-clause-computed : goal.returns-clause-computed
unfolding opened
returns-clause-computed c = refl

pub returns-clause-illegal : goal.returns-clause-illegal
unfolding opened
returns-clause-illegal c = refl
