-- Call, Send, NBSend, Recv and NBRecv on an endpoint that the thread names, whatever waits there, stay within authority.
use Rattle.std.proofs.Common.{ℕ, ◌≡◌, ◌≢◌, Bool, true, false, if◌then◌else◌, Option, Some, None, List, [], ◌∷◌, refl, sym, ◌∙◌, ap, subst}
use Rattle.std.specs.Option.{option_map_or}
use Rattle.model.specs.declared.capabilities.Cap.TheVariants.{Endpoint}
use Rattle.model.specs.declared.errors.KError.TheVariants.{InvalidCapability}
use Rattle.model.specs.declared.lookup_failures.LookupFailure.TheVariants.{MissingCapability}
use Rattle.model.specs.declared.rights.Rights.{Rights}
use Rattle.model.specs.declared.system_calls.ReceiveCall.{ReceiveCall}
use Rattle.model.specs.declared.system_calls.ReceiveCall.TheVariants.{Receiving, Polling}
use Rattle.model.specs.declared.system_calls.SendCall.{SendCall}
use Rattle.model.specs.declared.system_calls.SendCall.TheVariants.{Calling, Sending, Trying}
use Rattle.model.specs.declared.system_calls.SystemCall.TheVariants.{Sends, Receives}
use Rattle.model.specs.declared.system_calls.SystemCall.{SystemCall}
use Rattle.headline.proofs.authority.Awaited.{asks-so}
use Rattle.model.specs.Acceptance.Authority.{AsksAs, CallNames, gives_right, WithinAuthority, self_of}
use Rattle.model.specs.Capabilities.Rights.{may_grant_reply, may_read, may_write}
use Rattle.model.specs.Images.Image.{Image, Thread}
use Rattle.model.specs.Kernel.Deliveries.{is_receive, once_received, ReceivesFrom, SendsTo, sent_by}
use Rattle.model.specs.Kernel.Kinds.{object_named}
use Rattle.model.specs.Kernel.Messages.{Message, bytes_between, deliver_sent, deliver_with, deliver_word, length_between, message_between}
use Rattle.model.specs.Kernel.Messages.{passes, receive, received, received_waiting, receives, send, sends, tries_to_send, try_to_receive, try_to_send}
use Rattle.model.specs.Kernel.Messages.{waits_to_receive, with_caller}
use Rattle.model.specs.Kernel.Retype.{NewEndpoint}
use Rattle.model.specs.Kernel.Scheduling.{block, wake}
use Rattle.model.specs.Kernel.Soundness.{IsSound}
use Rattle.model.specs.Kernel.State.{State, Inactive, AwaitsReply, AwaitsHandler, Object, ThreadObject, EndpointObject, EndpointState, Sender, Sent}
use Rattle.model.specs.Kernel.State.{BySend, ByCall, ByFault, FaultMessage, ThreadState, as_thread, endpoint_at, new_thread, with_endpoint}
use Rattle.model.specs.Kernel.Steps.{Done, call_of, lacks_capability, receive_by, receive_named, receive_on_endpoint, refused, send_by, send_named}
use Rattle.model.specs.Kernel.Steps.{send_on, sender, system_call}
use Rattle.headline.proofs.moves.Laws.{at-endpoint, caller-there, endpoint-there}
use Rattle.headline.proofs.authority.Changes.{ChangesObjects, KeepsSlice, changes-within}
use Rattle.headline.proofs.authority.CallsMade.{called-as, runs-apart}
use Rattle.headline.proofs.authority.Deliveries.{between-same}
use Rattle.headline.proofs.authority.OwnRegisters.{RunsApart, goes-on-within}
use Rattle.headline.proofs.authority.Receiving.{call-received, receiver-waits, receives-nothing, sent-received, stopped-received}
use Rattle.headline.proofs.authority.Sending.{called-changes, given-changes, halted-changes, waits-changes}
use Rattle.headline.proofs.authority.Yielding.{nothing-changes}
use Rattle.headline.specs.authority.Scenarios.{CallsOn}
use Rattle.soundness.proofs.Laws.{endpoint-kind}

module _ (image : Image) (t : Thread) (s : State) (sound : IsSound s) (number e badge : ℕ) (allowed : Rights)
    (call : CallsOn image t s number (Endpoint e allowed badge)) where
  abbrev self : ℕ
  self = self_of image t

  queue : (x : EndpointState) × (s.objects e ≡ Some (EndpointObject x))
  queue = endpoint-kind (s.objects e) (sound.memory.named call.slot NewEndpoint e (ap object_named call.holds))

  queue-is : endpoint_at s e ≡ queue.0
  queue-is = at-endpoint s e queue.0 queue.1

  apart : RunsApart image t s
  apart = runs-apart image t s sound call.own call.is call.runs

  self-queue : self ≢ e
  self-queue same =
      let clash : Some (ThreadObject call.own) ≡ Some (EndpointObject queue.0) = sym call.is ∙ ap s.objects same ∙ queue.1 in absurd cc

  goes-on : (m : State) → ChangesObjects image t s m → WithinAuthority image t s (passes m (self_of image t))
  goes-on m change = goes-on-within image t s m apart change.now change.is (changes-within image t s m change)

  -- ---- the thread sends

  module _ (writes : may_write allowed ≡ true) where
    abbrev grants : Bool
    grants = may_grant_reply allowed

    names-to : (kind : SendCall) → call_of number ≡ Some (Sends kind) → CallNames image t s (SendsTo e badge)
    names-to kind is = record {
      call = Sends kind;
      slot = call.slot;
      asks = asks-so image t s number (Endpoint e allowed badge) call (Sends kind) is;
      own = call.among;
      named = call.named;
      such = record { sends = refl; allowed = allowed; is = call.holds; writes = writes };
    }

    asks : (kind : SendCall) → call_of number ≡ Some (Sends kind)
        → AsksAs image t s e (sender (self_of image t) (sent_by kind) badge (may_grant_reply allowed))
    asks kind is = record {
      allowed = allowed;
      kind = kind;
      named = record {
        call = Sends kind;
        slot = call.slot;
        asks = asks-so image t s number (Endpoint e allowed badge) call (Sends kind) is;
        own = call.among;
        named = call.named;
        such = (refl, call.holds);
      };
      writes = writes;
      thread = refl;
      replies = refl;
      sends = refl;
    }

    -- what a receiver gets
    told-so : (fewer : EndpointState) (r : ℕ) → deliver_with (with_endpoint s e fewer) (bytes_between (with_endpoint s e fewer) (self_of image t) r
        (length_between (with_endpoint s e fewer) (self_of image t) r)) r badge (message_between (with_endpoint s e fewer) (self_of image t) r)
        ≡ deliver_with (with_endpoint s e fewer) (bytes_between s (self_of image t) r (length_between s (self_of image t) r)) r badge
        (message_between s (self_of image t) r)
    told-so fewer r =
        let taken = with_endpoint s e fewer in
        ap (λ (m : Message). deliver_with taken (bytes_between s self r m.count) r badge m)
        (between-same s taken self r refl (ap (λ (o : Option Object). (option_map_or (λ (v : ThreadState). v) (as_thread o) new_thread).registers)
        (endpoint-there s e fewer self self-queue)))

    abbrev fewer_of : List ℕ → EndpointState
    fewer_of others = record (endpoint_at s e) { receivers = others }

    given : (kind : SendCall) → call_of number ≡ Some (Sends kind) → (r : ℕ) (others : List ℕ) → (endpoint_at s e).receivers ≡ r ∷ others
        → WithinAuthority image t s
        (sends s e (sender (self_of image t) BySend badge (may_grant_reply allowed)) (r ∷ others))
    given kind is r others first =
        subst (λ (m : State). WithinAuthority image t s (passes (wake m r) self)) (sym (told-so (fewer_of others) r))
        (goes-on _ (given-changes image t s sound call.own call.is call.runs e queue.0 queue.1 badge r others
        (sym (ap (λ (q : EndpointState). q.receivers) queue-is) ∙ first) (names-to kind is)))

    send-within : call_of number ≡ Some (Sends Sending) → WithinAuthority image t s (send s e (sender (self_of image t) BySend badge (may_grant_reply allowed)))
    send-within is =
        elim (endpoint_at s e).receivers as (λ (l : List ℕ). (endpoint_at s e).receivers ≡ l
        → WithinAuthority image t s (sends s e (sender self BySend badge grants) l)) [
          | [] ↦ λ none.
              changes-within image t s _ (waits-changes image t s sound call.own call.is call.runs e queue.0 queue.1 badge BySend grants
              (asks Sending is))
          | r ∷ others ↦ λ first. given Sending is r others first
        ] refl

    try-within : call_of number ≡ Some (Sends Trying)
        → WithinAuthority image t s (try_to_send s e (sender (self_of image t) BySend badge (may_grant_reply allowed)))
    try-within is =
        elim (endpoint_at s e).receivers as (λ (l : List ℕ). (endpoint_at s e).receivers ≡ l
        → WithinAuthority image t s (tries_to_send s e (sender self BySend badge grants) l)) [
          | [] ↦ λ none. goes-on s (nothing-changes image t s sound call.own call.is call.runs)
          | r ∷ others ↦ λ first. given Trying is r others first
        ] refl

    call-within : call_of number ≡ Some (Sends Calling) → WithinAuthority image t s (send s e (sender (self_of image t) ByCall badge (may_grant_reply allowed)))
    call-within is =
        elim (endpoint_at s e).receivers as (λ (l : List ℕ). (endpoint_at s e).receivers ≡ l
        → WithinAuthority image t s (sends s e (sender self ByCall badge grants) l)) [
          | [] ↦ λ none.
              changes-within image t s _ (waits-changes image t s sound call.own call.is call.runs e queue.0 queue.1 badge ByCall grants
              (asks Calling is))
          | r ∷ others ↦ λ first.
              let listed = sym (ap (λ (q : EndpointState). q.receivers) queue-is) ∙ first in
              let told = bytes_between s self r (length_between s self r) in
              let three = wake (deliver_with (with_endpoint s e (fewer_of others)) told r badge (message_between s self r)) r in
              subst (λ (m : State). WithinAuthority image t s (received (wake m r) (sender self ByCall badge grants) ByCall r))
              (sym (told-so (fewer_of others) r)) (elim (may_grant_reply allowed) as (λ (b : Bool). may_grant_reply allowed ≡ b
              → WithinAuthority image t s (if b then with_caller (block three self AwaitsReply) r (Some self) else block three self Inactive)) [
                | true ↦ λ grant.
                    changes-within image t s _ (called-changes image t s sound call.own call.is call.runs e queue.0 queue.1 badge r others listed
                    (names-to Calling is)
                    (record {
                      call = Sends Calling;
                      slot = call.slot;
                      asks = asks-so image t s number (Endpoint e allowed badge) call (Sends Calling) is;
                      own = call.among;
                      named = call.named;
                      such = record { calls = refl; allowed = allowed; is = call.holds; writes = writes; replies = grant };
                    }))
                | false ↦ λ none.
                    changes-within image t s _ (halted-changes image t s sound call.own call.is call.runs e queue.0 queue.1 badge r others listed
                    (names-to Calling is)
                    Inactive)
              ] refl)
        ] refl

    by-kind : (kind : SendCall) → call_of number ≡ Some (Sends kind)
        → WithinAuthority image t s (send_on s (self_of image t) kind e badge (may_grant_reply allowed)).0
    by-kind Calling is = call-within is
    by-kind Sending is = send-within is
    by-kind Trying is = try-within is

    pub sends-within : (kind : SendCall) → call_of number ≡ Some (Sends kind) → WithinAuthority image t s (system_call s (self_of image t)).0
    sends-within kind is =
        subst (λ (d : Done). WithinAuthority image t s d.0)
        (sym (called-as image t s number (Endpoint e allowed badge) call (Sends kind) is
        ∙ ap (send_named s self kind) call.named
        ∙ ap (send_by s self kind call.slot) call.holds
        ∙ ap (λ (b : Bool). if b then send_on s self kind e badge grants else refused s self kind InvalidCapability) writes))
        (by-kind kind is)

  -- ---- the thread receives

  module _ (reads : may_read allowed ≡ true) where
    module _ (what : SystemCall) (what_is : call_of number ≡ Some what) (gets : is_receive what ≡ true) where
      names-from : CallNames image t s (ReceivesFrom e)
      names-from = record {
        call = what;
        slot = call.slot;
        asks = asks-so image t s number (Endpoint e allowed badge) call what what_is;
        own = call.among;
        named = call.named;
        such = record { receives = gets; allowed = allowed; badge = badge; is = call.holds; reads = reads };
      }

      abbrev ready : State
      ready = with_caller s self None

      ready-is : endpoint_at ready e ≡ queue.0
      ready-is = at-endpoint ready e queue.0 (caller-there s self None e (λ same. self-queue (sym same)) ∙ queue.1)

      abbrev taken_of : List Sender → State
      taken_of others = with_endpoint ready e (record (endpoint_at ready e) { senders = others })

      module _ (first : Sender) (others : List Sender) (there : (endpoint_at (with_caller s (self_of image t) None) e).senders
          ≡ first ∷ others) where
        abbrev got : State
        got = deliver_sent (taken_of others) first self

        listed : queue.0.senders ≡ first ∷ others
        listed = sym (ap (λ (q : EndpointState). q.senders) ready-is) ∙ there

        becomes-called : first.sent ≡ ByCall → (b : Bool) → first.grant_reply ≡ b → (u : ThreadState)
            → once_received first first.sent u ≡ record u { status = if b then AwaitsReply else Inactive }
        becomes-called is b grant u =
            ap (λ (x : Sent). once_received first x u) is ∙ ap (λ (b : Bool). record u { status = if b then AwaitsReply else Inactive }) grant

        becomes-faulted : (fault : FaultMessage) → first.sent ≡ ByFault fault → (u : ThreadState)
            → once_received first first.sent u ≡ record u { status = AwaitsHandler }
        becomes-faulted fault is u = ap (λ (x : Sent). once_received first x u) is

        from-sent : (sent : Sent) → first.sent ≡ sent → KeepsSlice image t s (received_waiting got first sent self)
        from-sent BySend is =
            sent-received image t s sound call.own call.is call.runs e queue.0 queue.1 names-from first others listed is
        from-sent ByCall is =
            elim first.grant_reply as (λ (b : Bool). first.grant_reply ≡ b
            → KeepsSlice image t s (if b then with_caller (block got first.thread AwaitsReply) self (Some first.thread) else block got first.thread Inactive)) [
              | true ↦ λ grant. call-received image t s sound call.own call.is call.runs e queue.0 queue.1 names-from first others listed AwaitsReply
                  (becomes-called is true grant _) (λ same. absurd cc) (ap (gives_right first) is ∙ grant)
              | false ↦ λ none. stopped-received image t s sound call.own call.is call.runs e queue.0 queue.1 names-from first others listed Inactive
                  (becomes-called is false none _) (λ same. absurd cc)
            ] refl
        from-sent (ByFault fault) is = call-received image t s sound call.own call.is call.runs e queue.0 queue.1 names-from first others listed AwaitsHandler
            (becomes-faulted fault is _) (λ same. absurd cc) (ap (gives_right first) is)

      from-queue : (after : State) → KeepsSlice image t s after → KeepsSlice image t s (receives (with_caller s (self_of image t) None) e
          (self_of image t) after (endpoint_at (with_caller s (self_of image t) None) e).senders)
      from-queue after nothing =
          elim (endpoint_at ready e).senders as (λ (l : List Sender). (endpoint_at ready e).senders ≡ l
          → KeepsSlice image t s (receives ready e self after l)) [
            | [] ↦ λ none. nothing
            | first ∷ others ↦ λ there. from-sent first others there first.sent refl
          ] refl

      pub receive-keeps : KeepsSlice image t s (receive s e (self_of image t))
      receive-keeps =
          from-queue (waits_to_receive ready e self)
          (receiver-waits image t s sound call.own call.is call.runs e queue.0 queue.1 names-from)

      pub try-keeps : KeepsSlice image t s (try_to_receive s e (self_of image t))
      try-keeps =
          from-queue (deliver_word ready self 0)
          (receives-nothing image t s sound call.own call.is call.runs e queue.0 queue.1 names-from)

      receive-by : (kind : ReceiveCall) → KeepsSlice image t s (receive_on_endpoint s (self_of image t) kind e).0
      receive-by Receiving = receive-keeps
      receive-by Polling = try-keeps

    pub receives-within : (kind : ReceiveCall) → call_of number ≡ Some (Receives kind) → WithinAuthority image t s (system_call s (self_of image t)).0
    receives-within kind is =
        subst (λ (d : Done). WithinAuthority image t s d.0)
        (sym (called-as image t s number (Endpoint e allowed badge) call (Receives kind) is
        ∙ ap (receive_named s self kind) call.named
        ∙ ap (receive_by s self kind) call.holds
        ∙ ap (λ (b : Bool). if b then receive_on_endpoint s self kind e else lacks_capability s self 1 MissingCapability) reads))
        (changes-within image t s _ (receive-by (Receives kind) is refl kind).change)
