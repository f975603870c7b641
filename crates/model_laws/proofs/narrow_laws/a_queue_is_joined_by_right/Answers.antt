-- What joins a queue, by which capability.
use Rattle.std.proofs.Common.{◌≡◌, true, false, Contains, subst, sym, ◌∙◌}
use Rattle.model.specs.declared.capabilities.Cap.TheVariants.{Endpoint}
use Rattle.model.specs.declared.rights.Rights.{Rights}
use Rattle.model.specs.Capabilities.Rights.{may_read, may_write}
use Rattle.model.specs.Kernel.State.{EndpointState, NotificationState}
use Rattle.model_laws.proofs.Narrow.{one-endpoint, receives-by, waits-by}
use Rattle.model_laws.proofs.QueueChanges.{sender-asks}
use Rattle.model_laws.proofs.narrow_laws.a_queue_is_joined_by_right.Goals as goal

pub returns-clause-writes : goal.returns-clause-writes
returns-clause-writes c = λ image t s after slot endpoint badge r old new x named holds none before behind among fresh within.
    let change = within.endpoints endpoint old new before behind (λ same. fresh (subst (λ (e : EndpointState). Contains e.senders x) (sym same) among)) in
    let asks = sender-asks image t s after endpoint old new change x among fresh in
    let e : Endpoint endpoint asks.allowed x.badge ≡ Endpoint endpoint r badge =
    one-endpoint image t s slot endpoint badge r asks.named.slot endpoint x.badge asks.allowed named holds asks.named.named asks.named.such.1 in
    let same : asks.allowed ≡ r = cc in
    let clash : true ≡ false = sym (subst (λ (q : Rights). may_write q ≡ true) same asks.writes) ∙ none in cc

pub returns-clause-reads : goal.returns-clause-reads
returns-clause-reads c = λ image t s after slot endpoint badge other r old new named holds none before behind among fresh within.
    let change = within.endpoints endpoint old new before behind (λ same. fresh (subst (λ (e : EndpointState). Contains e.receivers other) (sym same) among)) in
    let names = receives-by image t s after endpoint old new change other among fresh in
    let e : Endpoint endpoint names.such.allowed names.such.badge ≡ Endpoint endpoint r badge =
    one-endpoint image t s slot endpoint badge r names.slot endpoint names.such.badge names.such.allowed named holds names.named names.such.is in
    let same : names.such.allowed ≡ r = cc in
    let clash : true ≡ false = sym (subst (λ (q : Rights). may_read q ≡ true) same names.such.reads) ∙ none in cc

pub returns-clause-waits : goal.returns-clause-waits
returns-clause-waits c = λ image t s after slot notification badge other r old new named holds none before behind among fresh within.
    let change = within.notifications notification old new before behind
    (λ same. fresh (subst (λ (n : NotificationState). Contains n.waiters other) (sym same) among)) in
    let clash : true ≡ false = sym (waits-by image t s after notification old new change other among fresh r badge slot named holds) ∙ none in cc
