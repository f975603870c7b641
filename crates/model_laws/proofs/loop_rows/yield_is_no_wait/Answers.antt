use Rattle.std.proofs.Common.{refl}
use Rattle.model_laws.proofs.Opened.{opened}
use Rattle.model_laws.proofs.loop_rows.yield_is_no_wait.Goals as goal

pub returns : goal.returns
unfolding opened
returns c = refl
