use Rattle.std.proofs.Common.{refl}
use Rattle.model_laws.proofs.Opened.{opened}
use Rattle.model_laws.proofs.trace_rows.solo_boots_as_described.Goals as goal

pub returns-clause-slots : goal.returns-clause-slots
unfolding opened
returns-clause-slots c = refl

pub returns-clause-objects : goal.returns-clause-objects
unfolding opened
returns-clause-objects c = refl

pub returns-clause-bytes : goal.returns-clause-bytes
unfolding opened
returns-clause-bytes c = refl

pub returns-clause-ready : goal.returns-clause-ready
unfolding opened
returns-clause-ready c = refl
