-- Call, Send and NBSend on an endpoint or a notification: the step goes well.
use Rattle.std.proofs.Common.{ℕ, ◌≡◌, ◌∙◌, ◌+◌, ◌++◌, ◌^◌, ◌<◌, ◌≤◌, inl, Bool, true, false, if◌then◌else◌, Some, option_map, Ok, List, [], ◌∷◌, refl, sym, ap}
use Rattle.std.proofs.Common.{subst}
use Rattle.std.specs.Prelude.{Contains}
use Rattle.headline.specs.calls.Messages.{IsInvoked, KnownToKeepAt, SendsBy}
use Rattle.headline.specs.facts.Standing.{AllStand, IsControlBlock}
use Rattle.headline.specs.facts.Waiting.{NamesThere, SendsAs, behind_reply}
use Rattle.model.specs.declared.capabilities.Cap.{Cap}
use Rattle.model.specs.declared.capabilities.Cap.TheVariants.{Endpoint}
use Rattle.model.specs.declared.errors.KError.TheVariants.{InvalidCapability}
use Rattle.model.specs.declared.labels.Label.{Label}
use Rattle.model.specs.declared.labels.Label.TheVariants.{Ran}
use Rattle.model.specs.declared.labels.Outcome.{Outcome}
use Rattle.model.specs.declared.labels.Outcome.TheVariants.{Waited, Plain}
use Rattle.model.specs.declared.rights.Rights.{Rights}
use Rattle.model.specs.Acceptance.Accepted.{IsAccepted}
use Rattle.headline.specs.moves.Ground.{SameGround}
use Rattle.model.specs.Acceptance.CallRules.{AfterCall, answers, by_capability, changes_nothing, known_behind, send_rule, with_answer}
use Rattle.model.specs.Acceptance.NotedStates.{PointState}
use Rattle.model.specs.Acceptance.PointStates.{point_of}
use Rattle.model.specs.Acceptance.ThreadInvariants.{IsCode, IsWaiting, tcb_of}
use Rattle.model.specs.Capabilities.Rights.{may_grant_reply, may_write}
use Rattle.model.specs.Capabilities.Slots.{capability_at}
use Rattle.model.specs.Images.Described.{Numbered, numbered_threads}
use Rattle.model.specs.Images.Image.{Image}
use Rattle.model.specs.Kernel.AddressSpaces.{page_size}
use Rattle.model.specs.Kernel.Kinds.{kind_of}
use Rattle.model.specs.Kernel.Messages.{a0, a1, bytes_between, length_between, passes, send, send_to, sends, signal, tries_to_send, try_to_send}
use Rattle.model.specs.Kernel.Messages.{waits_to_send}
use Rattle.model.specs.Kernel.Soundness.{IsSound}
use Rattle.model.specs.Kernel.State.{State, BySend, ByCall, EndpointObject, EndpointState, NotificationObject, NotificationState, ThreadState, endpoint_at}
use Rattle.model.specs.Kernel.State.{with_endpoint}
use Rattle.model.specs.Kernel.Steps.{Done, memory_base, named_slot, refused, send_by, send_call, send_named, sender, send_on, signal_on}
use Rattle.model.specs.declared.system_calls.SendCall.{SendCall}
use Rattle.model.specs.declared.system_calls.SendCall.TheVariants.{Calling, Sending, Trying}
use Rattle.model.specs.Kernel.Waits.{is_waited}
use Rattle.headline.specs.moves.Moving.{CallsAt}
use Rattle.headline.specs.moves.Laws.{Laws}
use Rattle.headline.proofs.kept.Laws.{code-stays, length-few}
use Rattle.headline.proofs.moves.Calling.{IsCounted, counted}
use Rattle.headline.proofs.moves.NamedSlots.{endpoint-named, named-here, notification-named}
use Rattle.headline.proofs.moves.NotificationCalls.{HasSignalled, signal-leaves}
use Rattle.headline.proofs.moves.ReceiveCalls.{IsFine}
use Rattle.headline.proofs.moves.Places.{at-endpoint}
use Rattle.headline.proofs.moves.Sends.{called-stands, receiver-blocked, sent-stands, waits-stand}
use Rattle.headline.proofs.moves.SimpleCalls.{passes-stand, result-stands}
use Rattle.headline.proofs.moves.Waiters.{control-waiting}

module _ (laws : Laws) (bytes : List ℕ) (image : Image) (s : State) (labels : List Label) (accepted : IsAccepted bytes image) (all : AllStand image s labels)
    (t : Numbered) (listed : Contains (numbered_threads image) t) (own : ThreadState) (point : ℕ) (state : PointState) (left : AfterCall)
    (at : CallsAt image t s labels own point state left) (pc : ℕ) where
  abbrev tcb : ℕ
  tcb = tcb_of image t

  abbrev behind : Outcome → List Label
  behind outcome = labels ++ Ran (memory_base + tcb) pc outcome ∷ []

  counts : (outcome : Outcome) → is_waited outcome ≡ left.is_wait → IsCounted image t labels (behind outcome) left.is_wait
  counts outcome same = subst (IsCounted image t labels (behind outcome)) same (counted image t labels pc outcome)

  -- ---- endpoints

  module _ (e : ℕ) (r : Rights) (badge : ℕ) (small : badge < 2 ^ 28) (old : EndpointState) (was : s.objects e ≡ Some (EndpointObject old))
      (named : NamesThere image t state (Endpoint e r badge)) (keeps : KnownToKeepAt image e state badge) where
    receiver-listed : (r : ℕ) (others : List ℕ) → (endpoint_at s e).receivers ≡ r ∷ others → IsControlBlock image r
    receiver-listed r others first =
        let there = was ∙ ap (λ (f : EndpointState). Some (EndpointObject f)) (sym (at-endpoint s e old was)) in
        let blocked = receiver-blocked s all.sound e there r others first in
        control-waiting image s labels all r blocked.own blocked.is (subst IsWaiting (sym blocked.status) tt)

    -- the receiver's buffer is no code
    code-sent : (f : EndpointState) (r : ℕ) → IsControlBlock image r → (frame place : ℕ) → IsCode image frame → frame ≤ place → place < frame + page_size
        → bytes_between (with_endpoint s e f) tcb r (length_between (with_endpoint s e f) tcb r) place ≡ s.bytes place
    code-sent f r block frame place code low high =
        let taken = with_endpoint s e f in
        let count = length_between taken tcb r in
        subst (λ (x : ℕ). bytes_between s tcb x count place ≡ s.bytes place) (sym block.is)
        (code-stays bytes image s labels accepted all block.thread block.listed tcb count (length-few taken tcb r) frame place code low high)

    by-call : (grants : Bool) → grants ≡ may_grant_reply r → grants ≡ true → left ≡ behind_reply state → IsSound (send s e (sender tcb ByCall badge grants)) →
        AllStand image (send s e (sender tcb ByCall badge grants)) (behind Waited)
    by-call grants same grant asks =
        let x = sender tcb ByCall badge grants in
        let wait : true ≡ left.is_wait = sym (ap (λ (l : AfterCall). l.is_wait) asks) in
        elim (endpoint_at s e).receivers as (λ xs. (endpoint_at s e).receivers ≡ xs → IsSound (sends s e x xs) →
        AllStand image (sends s e x xs) (behind Waited)) [
          | [] ↦ λ none sound.
              waits-stand laws bytes image s labels (behind Waited) accepted all t listed own point state left at (counts Waited wait) e old was ByCall
              badge grants (waits_to_send s e x) sound
              (record { memory_bits = refl; boot_radix = refl; slots = λ slot. refl; bytes = λ frame place code low high. refl }) none (λ y. refl) (sym wait)
              (Endpoint e r badge) named (inl refl) (record { badge = refl; grants = same; kind = SendsAs.by_call refl grant asks; keeps = keeps })
          | r ∷ others ↦ λ first sound.
              let fewer = record (endpoint_at s e) { receivers = others } in
              let one = with_endpoint s e fewer in
              called-stands laws bytes image s labels (behind Waited) accepted all t listed own point state left at (counts Waited wait) e old was ByCall
              badge grants (send_to one x r) sound
              (elim grants as (λ g. SameGround image s (send_to one (sender tcb ByCall badge g) r)) [
                | true ↦
                    record { memory_bits = refl; boot_radix = refl; slots = λ slot. refl; bytes = code-sent fewer r (receiver-listed r others first) }
                | false ↦
                    record { memory_bits = refl; boot_radix = refl; slots = λ slot. refl; bytes = code-sent fewer r (receiver-listed r others first) }
              ]) keeps r others first small (λ y. refl) refl grant asks
        ] refl

    by-send : (grants : Bool) → grants ≡ may_grant_reply r → left ≡ changes_nothing state true → IsSound (send s e (sender tcb BySend badge grants)) →
        AllStand image (send s e (sender tcb BySend badge grants)) (behind Waited)
    by-send grants same asks =
        let x = sender tcb BySend badge grants in
        let wait : true ≡ left.is_wait = sym (ap (λ (l : AfterCall). l.is_wait) asks) in
        elim (endpoint_at s e).receivers as (λ xs. (endpoint_at s e).receivers ≡ xs → IsSound (sends s e x xs) →
        AllStand image (sends s e x xs) (behind Waited)) [
          | [] ↦ λ none sound.
              waits-stand laws bytes image s labels (behind Waited) accepted all t listed own point state left at (counts Waited wait) e old was BySend
              badge grants (waits_to_send s e x) sound
              (record { memory_bits = refl; boot_radix = refl; slots = λ slot. refl; bytes = λ frame place code low high. refl }) none (λ y. refl) (sym wait)
              (Endpoint e r badge) named (inl refl) (record { badge = refl; grants = same; kind = SendsAs.by_send refl asks; keeps = keeps })
          | r ∷ others ↦ λ first sound. to-receiver Waited wait grants r others first (asks ∙ ap (changes_nothing state) wait) sound
        ] refl
      where
        to-receiver : (outcome : Outcome) → is_waited outcome ≡ left.is_wait → (grants : Bool) (r : ℕ) (others : List ℕ) →
            (endpoint_at s e).receivers ≡ r ∷ others → left ≡ changes_nothing state left.is_wait
            → IsSound (sends s e (sender tcb BySend badge grants) (r ∷ others)) →
            AllStand image (sends s e (sender tcb BySend badge grants) (r ∷ others)) (behind outcome)
        to-receiver outcome waited grants r others first asks sound =
            let fewer = record (endpoint_at s e) { receivers = others } in
            let after = send_to (with_endpoint s e fewer) (sender tcb BySend badge grants) r in
            sent-stands laws bytes image s labels (behind outcome) accepted all t listed own point state left at (counts outcome waited) e old was BySend
            badge grants after sound
            (record { memory_bits = refl; boot_radix = refl; slots = λ slot. refl; bytes = code-sent fewer r (receiver-listed r others first) }) keeps r
            others first small (λ y. refl) refl asks

    by-try : (grants : Bool) → left ≡ changes_nothing state false → IsSound (try_to_send s e (sender tcb BySend badge grants)) →
        AllStand image (try_to_send s e (sender tcb BySend badge grants)) (behind Plain)
    by-try grants asks =
        let x = sender tcb BySend badge grants in
        let wait : false ≡ left.is_wait = sym (ap (λ (l : AfterCall). l.is_wait) asks) in
        elim (endpoint_at s e).receivers as (λ xs. (endpoint_at s e).receivers ≡ xs → IsSound (tries_to_send s e x xs) →
        AllStand image (tries_to_send s e x xs) (behind Plain)) [
          | [] ↦ λ none sound. passes-stand laws bytes image s labels (behind Plain) accepted all t listed own point state left at (counts Plain wait) asks
              sound
          | r ∷ others ↦ λ first sound.
              let fewer = record (endpoint_at s e) { receivers = others } in
              let after = send_to (with_endpoint s e fewer) x r in
              sent-stands laws bytes image s labels (behind Plain) accepted all t listed own point state left at (counts Plain wait) e old was BySend badge
              grants after sound
              (record { memory_bits = refl; boot_radix = refl; slots = λ slot. refl; bytes = code-sent fewer r (receiver-listed r others first) }) keeps r
              others first small (λ y. refl) refl (asks ∙ ap (changes_nothing state) wait)
        ] refl

  -- ---- notifications

  module _ (n badge : ℕ) (small : badge < 2 ^ 28) (old : NotificationState) (was : s.objects n ≡ Some (NotificationObject old)) where
    abbrev signalled : State
    signalled = signal s n badge

    signal-left : HasSignalled image t signalled labels own point state left
    signal-left =
        signal-leaves laws bytes image s labels accepted all t listed own point state left at n old was badge small
        (laws.signals s n badge all.sound (ap (option_map kind_of) was) small)

    passes-signal : left ≡ changes_nothing state false → IsSound (passes signalled tcb) → AllStand image (passes signalled tcb) (behind Plain)
    passes-signal asks =
        passes-stand laws bytes image signalled labels (behind Plain) accepted signal-left.all t listed own point state left signal-left.at
        (counts Plain (sym (ap (λ (l : AfterCall). l.is_wait) asks))) asks

    signal-fine : (kind : SendCall) → left ≡ (if answers kind then known_behind state (with_answer state.ranges) false (a0 ∷ a1 ∷ []) else
        changes_nothing state false)
        → IsSound (signal_on s tcb kind n badge).0 → IsFine image t labels pc (signal_on s tcb kind n badge)
    signal-fine Calling asks sound = record {
      faults = refl;
      errors = refl;
      stands = result-stands laws bytes image signalled labels (behind Plain) accepted signal-left.all t listed own point state left signal-left.at
          (counts Plain (sym (ap (λ (l : AfterCall). l.is_wait) asks))) asks sound;
    }
    signal-fine Sending asks sound = record { faults = refl; errors = refl; stands = passes-signal asks sound }
    signal-fine Trying asks sound = record { faults = refl; errors = refl; stands = passes-signal asks sound }

  -- ---- whatever the thread names

  -- a capability that may write is used
  used : (kind : SendCall) (slot : ℕ) (c : Cap) (by : Done) (r : Rights) → may_write r ≡ true →
      send_by s tcb kind slot c ≡ (if may_write r then by else refused s tcb kind InvalidCapability)
      → (IsSound by.0 → IsFine image t labels pc by) → IsSound (send_by s tcb kind slot c).0 → IsFine image t labels pc (send_by s tcb kind slot c)
  used kind slot c by r writes is =
      let same : send_by s tcb kind slot c ≡ by = is ∙ ap (λ b. if b then by else refused s tcb kind InvalidCapability) writes in
      λ goes. subst (λ (d : Done). IsSound d.0 → IsFine image t labels pc d) (sym same) goes

  by-object : (kind : SendCall) (slot : ℕ) → NamesThere image t state (capability_at s.slots slot) → (IsInvoked (capability_at s.slots slot) → ⊥)
      → SendsBy image t.thread (point_of t point) state kind slot (capability_at s.slots slot) left
      → IsSound (send_by s tcb kind slot (capability_at s.slots slot)).0 → IsFine image t labels pc (send_by s tcb kind slot (capability_at s.slots slot))
  by-object kind slot names quiet (SendsBy.calls offset r badge kind_is is writes grants keeps asks) =
      let there = endpoint-named image t s labels all state slot names offset r badge is in
      let by : Done = send_on s tcb Calling offset badge (may_grant_reply r) in
      used kind slot (capability_at s.slots slot) by r writes
      (ap (λ k. send_by s tcb k slot (capability_at s.slots slot)) kind_is ∙ ap (send_by s tcb Calling slot) is
      ∙ ap (λ k. if may_write r then by else refused s tcb k InvalidCapability) (sym kind_is))
      (λ sound. record {
        faults = refl;
        errors = refl;
        stands =
            by-call offset r badge there.small there.old there.was there.named keeps (may_grant_reply r) refl grants asks sound;
      })
  by-object kind slot names quiet (SendsBy.sends offset r badge kind_is is writes keeps asks) =
      let there = endpoint-named image t s labels all state slot names offset r badge is in
      let by : Done = send_on s tcb Sending offset badge (may_grant_reply r) in
      used kind slot (capability_at s.slots slot) by r writes
      (ap (λ k. send_by s tcb k slot (capability_at s.slots slot)) kind_is ∙ ap (send_by s tcb Sending slot) is
      ∙ ap (λ k. if may_write r then by else refused s tcb k InvalidCapability) (sym kind_is))
      (λ sound. record {
        faults = refl;
        errors = refl;
        stands =
            by-send offset r badge there.small there.old there.was there.named keeps (may_grant_reply r) refl asks sound;
      })
  by-object kind slot names quiet (SendsBy.tries offset r badge kind_is is writes keeps asks) =
      let there = endpoint-named image t s labels all state slot names offset r badge is in
      let by : Done = send_on s tcb Trying offset badge (may_grant_reply r) in
      used kind slot (capability_at s.slots slot) by r writes
      (ap (λ k. send_by s tcb k slot (capability_at s.slots slot)) kind_is ∙ ap (send_by s tcb Trying slot) is
      ∙ ap (λ k. if may_write r then by else refused s tcb k InvalidCapability) (sym kind_is))
      (λ sound. record {
        faults = refl;
        errors = refl;
        stands = by-try offset r badge there.small there.old there.was there.named keeps (may_grant_reply r) asks sound;
      })
  by-object kind slot names quiet (SendsBy.signals offset r badge is writes asks) =
      let there = notification-named image t s labels all state slot names offset r badge is in
      let by : Done = signal_on s tcb kind offset badge in
      used kind slot (capability_at s.slots slot) by r writes (ap (send_by s tcb kind slot) is)
      (signal-fine offset badge there.small there.old there.was kind asks)
  by-object kind slot names quiet (SendsBy.invokes invoked asks) = absurd (quiet invoked)

  pub send-fine : (kind : SendCall) → by_capability image t.thread (point_of t point) state (send_rule image t.thread (point_of t point) state kind) ≡ Ok left
      → ((slot : ℕ) → named_slot s tcb ≡ Ok slot → IsInvoked (capability_at s.slots slot) → ⊥) → IsSound (send_call s tcb kind).0 →
      IsFine image t labels pc (send_call s tcb kind)
  send-fine kind rule quiet =
      let names = named-here laws bytes image s labels accepted t listed own point state left at (send_rule image t.thread (point_of t point) state kind)
      rule in
      let by = laws.sends image t.thread (point_of t point) state kind names.slot (capability_at s.slots names.slot) left names.rule in
      subst (λ (done : Done). IsSound done.0 → IsFine image t labels pc done) (sym (ap (send_named s tcb kind) names.named))
      (by-object kind names.slot names.there (quiet names.slot names.named) by)
