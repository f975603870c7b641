-- The rules on messages by the kind of the call and of the capability: each test that they make has passed where they answer.
use Rattle.std.proofs.Common.{ℕ, ◌≡◌, Bool, true, false, Option, Some, None, Result, Ok, Err, [], ◌∷◌, if◌then◌else◌, refl, subst}
use Rattle.std.proofs.lemmas.Bool.{and_parts}
use Rattle.std.proofs.lemmas.Option.{none-some, same_Some}
use Rattle.headline.proofs.calls.KnownCalls.{passes, range-known}
use Rattle.headline.specs.calls.Messages.{KnownToKeep, KnownToKeepAt, NeedsNothing, ReceivesBy, on_endpoint, on_notification, SendsBy, calls, sends, tries}
use Rattle.headline.specs.calls.Messages.{signals, invokes}
use Rattle.model.specs.declared.capabilities.Cap.{Cap}
use Rattle.model.specs.declared.capabilities.Cap.TheVariants.{Empty, Untyped, Endpoint, Notification, CNode, Frame, PageTable, Tcb, RootTable, InterruptControl}
use Rattle.model.specs.declared.capabilities.Cap.TheVariants.{InterruptHandler}
use Rattle.model.specs.declared.refusals.Point.{Point}
use Rattle.model.specs.declared.refusals.Refusal.{Refusal}
use Rattle.model.specs.declared.rights.Rights.{Rights}
use Rattle.model.specs.declared.refusals.Refusal.TheVariants.{CapNotThere, PromiseNotKept}
use Rattle.model.specs.Acceptance.CallRules.{AfterCall, after_message, answers, badges, by_call, changes_nothing, demand, known, known_behind, may_send}
use Rattle.model.specs.Acceptance.CallRules.{message_registers, promise_received, promise_rule, receive_rule, send_rule, sends_message, with_answer}
use Rattle.model.specs.Acceptance.CallRules.{with_received}
use Rattle.model.specs.Acceptance.NotedStates.{PointState}
use Rattle.model.specs.Acceptance.Promises.{keeps_promise, promise_at}
use Rattle.model.specs.Acceptance.Ranges.{range_of, with_range}
use Rattle.model.specs.Capabilities.Rights.{may_grant_reply, may_read, may_write}
use Rattle.model.specs.Images.Format.{◌>>=◌}
use Rattle.model.specs.Images.Image.{Image, ImagePromise, Thread}
use Rattle.model.specs.Kernel.Messages.{a0, a1}
use Rattle.model.specs.declared.system_calls.SendCall.{SendCall}
use Rattle.model.specs.declared.system_calls.SendCall.TheVariants.{Calling, Sending, Trying}
use Rattle.model.specs.declared.system_calls.SystemCall.{SystemCall}
use Rattle.model.specs.declared.system_calls.SystemCall.TheVariants.{Sends, Receives, RepliesAndReceives, Replies, Yields, PutsCharacter}

-- ---- one test before an answer

same-answer : (a b : AfterCall) → ◌≡◌ {A = Result AfterCall Refusal} (Ok a) (Ok b) → b ≡ a
same-answer a b h = cc

demanded : (test : Bool) (refusal : Refusal) (end left : AfterCall) → (demand test refusal >>= (λ _. Ok end)) ≡ Ok left → (test ≡ true) × (left ≡ end)
demanded true refusal end left h = (refl, same-answer end left h)
demanded false refusal end left h = absurd (let clash : ◌≡◌ {A = Result AfterCall Refusal} (Err refusal) (Ok left) = h in cc)

refused : {A : Type 0} (refusal : Refusal) (left : AfterCall) → ◌≡◌ {A = Result AfterCall Refusal} (Err refusal) (Ok left) → A
refused refusal left h = absurd (let clash : ◌≡◌ {A = Result AfterCall Refusal} (Err refusal) (Ok left) = h in cc)

-- ---- receives

pub receives-known : (image : Image) (at : Point) (state : PointState) (is_wait : Bool) (capability : Cap) (left : AfterCall)
    → receive_rule image at state is_wait capability ≡ Ok left → ReceivesBy image state is_wait capability left
receives-known image at state is_wait (Endpoint offset r badge) left h =
    let behind : AfterCall = known_behind state (with_received state.ranges (promise_received image is_wait offset)) is_wait message_registers in
    let parts = demanded (may_read r) (CapNotThere at) behind left h in
    on_endpoint offset r badge refl parts.0 parts.1
receives-known image at state is_wait (Notification offset r badge) left h =
    let parts = demanded (may_read r) (CapNotThere at) (known_behind state (with_range state.ranges a0 badges) is_wait (a0 ∷ [])) left h in
    on_notification offset r badge refl parts.0 parts.1
receives-known image at state is_wait Empty left h = refused (CapNotThere at) left h
receives-known image at state is_wait (Untyped offset bits watermark) left h = refused (CapNotThere at) left h
receives-known image at state is_wait (CNode offset radix guard) left h = refused (CapNotThere at) left h
receives-known image at state is_wait (Frame offset r mapping) left h = refused (CapNotThere at) left h
receives-known image at state is_wait (PageTable offset mapping) left h = refused (CapNotThere at) left h
receives-known image at state is_wait (Tcb offset) left h = refused (CapNotThere at) left h
receives-known image at state is_wait (RootTable offset) left h = refused (CapNotThere at) left h
receives-known image at state is_wait InterruptControl left h = refused (CapNotThere at) left h
receives-known image at state is_wait (InterruptHandler irq_line) left h = refused (CapNotThere at) left h

-- ---- Call, Send and NBSend

-- what is promised is kept where the rule on promises answers
promise-kept : (at : Point) (state : PointState) (badge : ℕ) (promise : Option ImagePromise) → promise_rule at state badge promise ≡ Ok tt
    → (p : ImagePromise) → promise ≡ Some p → KnownToKeep state badge p
promise-kept at state badge None h p is = absurd (none-some p is)
promise-kept at state badge (Some q) h p is =
    let found = passes (known at state a1) (λ info. demand (keeps_promise state.ranges info badge q) (PromiseNotKept at)) tt h in
    let info : ℕ = found.value in
    let keeps : keeps_promise state.ranges info badge q ≡ true = granted (keeps_promise state.ranges info badge q) (PromiseNotKept at) found.goes in
    subst (KnownToKeep state badge) (same_Some q p is)
    (record { info = info; known = range-known info at (range_of state.ranges a1) found.is; keeps = keeps })
  where
    granted : (test : Bool) (refusal : Refusal) → demand test refusal ≡ Ok tt → test ≡ true
    granted true refusal goes = refl
    granted false refusal goes = absurd (let clash : ◌≡◌ {A = Result (Unit {0}) Refusal} (Err refusal) (Ok tt) = goes in cc)

-- what the rule on a message asks, where it answers
record MaySend (image : Image) (state : PointState) (kind : SendCall) (r : Rights) (badge endpoint : ℕ) (left : AfterCall) : Type 0 where
  allowed : may_send kind r ≡ true
  keeps : KnownToKeepAt image endpoint state badge
  behind : left ≡ after_message state kind

message-sent : (image : Image) (at : Point) (state : PointState) (kind : SendCall) (r : Rights) (badge endpoint : ℕ) (left : AfterCall)
    → sends_message at state kind r badge (promise_at image endpoint) ≡ Ok left → MaySend image state kind r badge endpoint left
message-sent image at state kind r badge endpoint left h =
    let rest : Result AfterCall Refusal = promise_rule at state badge (promise_at image endpoint) >>= λ _. Ok (after_message state kind) in
    let first = allowing (may_send kind r) (CapNotThere at) rest left h in
    let second = passes (promise_rule at state badge (promise_at image endpoint)) (λ _. Ok (after_message state kind)) left first.1 in
    record {
      allowed = first.0;
      keeps = promise-kept at state badge (promise_at image endpoint) second.is;
      behind = same-answer (after_message state kind) left second.goes;
    }
  where
    allowing : (test : Bool) (refusal : Refusal) (rest : Result AfterCall Refusal) (left : AfterCall) → (demand test refusal >>= (λ _. rest)) ≡ Ok left
        → (test ≡ true) × (rest ≡ Ok left)
    allowing true refusal rest left h = (refl, h)
    allowing false refusal rest left h = absurd (let clash : ◌≡◌ {A = Result AfterCall Refusal} (Err refusal) (Ok left) = h in cc)

pub sends-known : (image : Image) (t : Thread) (at : Point) (state : PointState) (kind : SendCall) (slot : ℕ) (capability : Cap) (left : AfterCall)
    → send_rule image t at state kind slot capability ≡ Ok left → SendsBy image t at state kind slot capability left
sends-known image t at state Calling slot (Endpoint offset r badge) left h =
    let sent = message-sent image at state Calling r badge offset left h in
    let rights = and_parts (may_write r) (may_grant_reply r) sent.allowed in
    calls offset r badge refl refl rights.0 rights.1 sent.keeps sent.behind
sends-known image t at state Sending slot (Endpoint offset r badge) left h =
    let sent = message-sent image at state Sending r badge offset left h in sends offset r badge refl refl sent.allowed sent.keeps sent.behind
sends-known image t at state Trying slot (Endpoint offset r badge) left h =
    let sent = message-sent image at state Trying r badge offset left h in tries offset r badge refl refl sent.allowed sent.keeps sent.behind
sends-known image t at state kind slot (Notification offset r badge) left h =
    let behind : AfterCall = if answers kind then known_behind state (with_answer state.ranges) false (a0 ∷ a1 ∷ []) else changes_nothing state false in
    let parts = demanded (may_write r) (CapNotThere at) behind left h in
    signals offset r badge refl parts.0 parts.1
sends-known image t at state kind slot Empty left h = invokes tt h
sends-known image t at state kind slot (Untyped offset bits watermark) left h = invokes tt h
sends-known image t at state kind slot (CNode offset radix guard) left h = invokes tt h
sends-known image t at state kind slot (Frame offset r mapping) left h = invokes tt h
sends-known image t at state kind slot (PageTable offset mapping) left h = invokes tt h
sends-known image t at state kind slot (Tcb offset) left h = invokes tt h
sends-known image t at state kind slot (RootTable offset) left h = invokes tt h
sends-known image t at state kind slot InterruptControl left h = invokes tt h
sends-known image t at state kind slot (InterruptHandler irq_line) left h = invokes tt h

-- ---- calls that need nothing

pub others-known : (image : Image) (t : Thread) (at : Point) (state : PointState) (call : SystemCall) (left : AfterCall) → NeedsNothing call
    → by_call image t at state call ≡ Ok left → left ≡ changes_nothing state false
others-known image t at state Replies left nothing h = same-answer (changes_nothing state false) left h
others-known image t at state Yields left nothing h = same-answer (changes_nothing state false) left h
others-known image t at state PutsCharacter left nothing h = same-answer (changes_nothing state false) left h
others-known image t at state (Sends kind) left nothing h = absurd nothing
others-known image t at state (Receives kind) left nothing h = absurd nothing
others-known image t at state RepliesAndReceives left nothing h = absurd nothing
