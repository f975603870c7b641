-- By what the call has to be where a line changes.
use Rattle.std.proofs.Common.{inl, inr, refl}
use Rattle.model.specs.declared.system_calls.SystemCall.TheVariants.{Receives, Replies, RepliesAndReceives}
use Rattle.model.specs.Kernel.Deliveries.{is_send}
use Rattle.model_laws.proofs.CallNumbers.{not-so}
use Rattle.model_laws.proofs.number_laws.a_line_is_acknowledged_by_sending.Goals as goal

pub returns-clause-masked : goal.returns-clause-masked
returns-clause-masked c = λ image t s after number kind asks differ within.
    let names = (within.lines number (inl differ)).0 in not-so image t s (Receives kind) is_send asks refl names names.such.0

pub returns-clause-pending : goal.returns-clause-pending
returns-clause-pending c = λ image t s after number kind asks differ within.
    let names = (within.lines number (inr differ)).0 in not-so image t s (Receives kind) is_send asks refl names names.such.0

pub returns-clause-replies : goal.returns-clause-replies
returns-clause-replies c = λ image t s after number asks differ within.
    let names = (within.lines number (inl differ)).0 in not-so image t s Replies is_send asks refl names names.such.0

pub returns-clause-both : goal.returns-clause-both
returns-clause-both c = λ image t s after number asks differ within.
    let names = (within.lines number (inl differ)).0 in not-so image t s RepliesAndReceives is_send asks refl names names.such.0
