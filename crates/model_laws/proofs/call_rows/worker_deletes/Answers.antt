use Rattle.std.proofs.Common.{refl}
use Rattle.model_laws.proofs.Opened.{opened}
use Rattle.model_laws.proofs.call_rows.worker_deletes.Goals as goal

pub returns : goal.returns
unfolding opened
returns c = refl
