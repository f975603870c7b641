-- What joins a queue, by which capability.
use Rattle.std.proofs.Common.{◌≡◌, Ok, Err, [], ◌∷◌, Contains, subst, sym, ap, ◌∙◌}
use Rattle.model.specs.Acceptance.Authority.{self_of}
use Rattle.model.specs.Kernel.State.{BySend, ByCall, ByFault, EndpointState, FaultMessage}
use Rattle.model.specs.declared.system_calls.SendCall.{SendCall}
use Rattle.model.specs.declared.system_calls.SendCall.TheVariants.{Calling, Sending, Trying}
use Rattle.model.specs.Kernel.Deliveries.{sent_by}
use Rattle.model_laws.proofs.QueueChanges.{asked-badge, asked-reply, endpoint-named, first-goes, receiver-is, sender-asks}
use Rattle.model_laws.proofs.Reasons.{named-capability}
use Rattle.model_laws.proofs.authority_laws.a_sender_that_joins_is_the_caller.Goals as goal

pub returns-clause-thread : goal.returns-clause-thread
returns-clause-thread c = λ image t s after endpoint old new x before behind among fresh another within.
    let change = within.endpoints endpoint old new before behind (λ same. fresh (subst (λ (e : EndpointState). Contains e.senders x) (sym same) among)) in
    another (sender-asks image t s after endpoint old new change x among fresh).thread

pub returns-clause-badge : goal.returns-clause-badge
returns-clause-badge c = λ image t s after slot endpoint badge r old new x named holds before behind among fresh another within.
    let change = within.endpoints endpoint old new before behind (λ same. fresh (subst (λ (e : EndpointState). Contains e.senders x) (sym same) among)) in
    another (asked-badge image t s endpoint slot badge r x (sender-asks image t s after endpoint old new change x among fresh) named holds)

pub returns-clause-reply : goal.returns-clause-reply
returns-clause-reply c = λ image t s after slot endpoint badge r old new x named holds before behind among fresh another within.
    let change = within.endpoints endpoint old new before behind (λ same. fresh (subst (λ (e : EndpointState). Contains e.senders x) (sym same) among)) in
    another (asked-reply image t s endpoint slot badge r x (sender-asks image t s after endpoint old new change x among fresh) named holds)

pub returns-clause-receiver : goal.returns-clause-receiver
returns-clause-receiver c = λ image t s after endpoint other old new before behind among fresh another within.
    let change = within.endpoints endpoint old new before behind (λ same. fresh (subst (λ (e : EndpointState). Contains e.receivers other) (sym same) among)) in
    another (sym (receiver-is image t s after endpoint old new change other among fresh))

pub returns-clause-order : goal.returns-clause-order
returns-clause-order c = λ image t s after endpoint old new first second before behind differ two one within.
    let change = within.endpoints endpoint old new before behind
    (λ same. let e : first ∷ second ∷ [] ≡ first ∷ [] = sym two ∙ ap (λ (e : EndpointState). e.senders) same ∙ one in cc) in
    differ (sym (first-goes image t s after endpoint old new change first second two one))

pub returns-clause-another : goal.returns-clause-another
returns-clause-another c = λ image t s after slot endpoint old new named other before behind differ within.
    let names = endpoint-named image t s after endpoint old new (within.endpoints endpoint old new before behind differ) in
    other names.2.0 names.2.1.0 (named-capability s (self_of image t) slot names.0 named names.1 ∙ names.2.1.1)

pub returns-clause-nothing : goal.returns-clause-nothing
returns-clause-nothing c = λ image t s after endpoint failure old new named before behind differ within.
    let names = endpoint-named image t s after endpoint old new (within.endpoints endpoint old new before behind differ) in
    let e : Ok names.0 ≡ Err failure = sym names.1 ∙ named in cc

never-fault : (kind : SendCall) (message : FaultMessage) → sent_by kind ≡ ByFault message → ⊥
never-fault Calling message is = let e : ByCall ≡ ByFault message = is in cc
never-fault Sending message is = let e : BySend ≡ ByFault message = is in cc
never-fault Trying message is = let e : BySend ≡ ByFault message = is in cc

pub returns-clause-fault : goal.returns-clause-fault
returns-clause-fault c = λ image t s after endpoint old new x message before behind among fresh told within.
    let change = within.endpoints endpoint old new before behind (λ same. fresh (subst (λ (e : EndpointState). Contains e.senders x) (sym same) among)) in
    let asks = sender-asks image t s after endpoint old new change x among fresh in
    never-fault asks.kind message (sym asks.sends ∙ told)
