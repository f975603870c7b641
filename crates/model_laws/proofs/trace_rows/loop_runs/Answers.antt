use Rattle.std.proofs.Common.{refl}
use Rattle.model_laws.proofs.Opened.{opened}
use Rattle.model_laws.proofs.trace_rows.loop_runs.Goals as goal

pub returns : goal.returns
unfolding opened
returns c = refl
