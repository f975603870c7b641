use Rattle.std.proofs.Common.{refl}
use Rattle.model_laws.proofs.Opened.{opened}
use Rattle.model_laws.proofs.call_rows.calls_write_registers.Goals as goal

pub returns-clause-invocation : goal.returns-clause-invocation
unfolding opened
returns-clause-invocation c = refl

pub returns-clause-sent_invocation : goal.returns-clause-sent_invocation
unfolding opened
returns-clause-sent_invocation c = refl
