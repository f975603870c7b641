-- What joins a queue, by which call.
use Rattle.std.proofs.Common.{Contains, subst, sym, ap}
use Rattle.model.specs.Kernel.State.{EndpointState}
use Rattle.model.specs.Kernel.Deliveries.{is_send}
use Rattle.model_laws.proofs.Narrow.{not-received, not-sent, receives-by}
use Rattle.model_laws.proofs.QueueChanges.{sender-asks}
use Rattle.model_laws.proofs.narrow_laws.a_queue_is_joined_by_its_calls.Goals as goal

pub returns-clause-senders : goal.returns-clause-senders
returns-clause-senders c = λ image t s after endpoint kind old new x asks before behind among fresh within.
    let change = within.endpoints endpoint old new before behind (λ same. fresh (subst (λ (e : EndpointState). Contains e.senders x) (sym same) among)) in
    let asked = sender-asks image t s after endpoint old new change x among fresh in
    not-sent image t s kind asks asked.named (ap is_send asked.named.such.0)

pub returns-clause-receivers : goal.returns-clause-receivers
returns-clause-receivers c = λ image t s after endpoint other kind old new asks before behind among fresh within.
    let change = within.endpoints endpoint old new before behind (λ same. fresh (subst (λ (e : EndpointState). Contains e.receivers other) (sym same) among)) in
    let names = receives-by image t s after endpoint old new change other among fresh in
    not-received image t s kind asks names names.such.receives
