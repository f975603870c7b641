-- A thread that waits for an answer called, and so did one that is queued as a caller: kept by each step.
use Rattle.std.proofs.Common.{ℕ, ◌≡◌, ◌≢◌, ◌∙◌, ◌⊎◌, ◌==◌, ◌-◌, ◌/◌, inl, inr, Bool, true, false, if◌then◌else◌, Option, Some, List}
use Rattle.std.proofs.Common.{◌∷◌, refl, sym, ap, subst, arith}
use Rattle.std.specs.Prelude.{Contains}
use Rattle.std.specs.Option.{option_map_or}
use Rattle.model.specs.declared.capabilities.Cap.{Cap}
use Rattle.model.specs.declared.capabilities.Cap.TheVariants.{Endpoint}
use Rattle.model.specs.declared.labels.Label.{Label}
use Rattle.model.specs.declared.rights.Rights.{Rights}
use Rattle.model.specs.declared.system_calls.ReceiveCall.TheVariants.{Polling, Receiving}
use Rattle.model.specs.declared.system_calls.SendCall.{SendCall}
use Rattle.model.specs.declared.system_calls.SendCall.TheVariants.{Calling, Sending, Trying}
use Rattle.model.specs.declared.system_calls.SystemCall.{SystemCall}
use Rattle.model.specs.declared.system_calls.SystemCall.TheVariants.{PutsCharacter, Receives, Replies, RepliesAndReceives, Sends, Yields}
use Rattle.model.specs.Acceptance.Authority.{CallNames, WithinAuthority, self_of}
use Rattle.model.specs.Acceptance.PointStates.{noted}
use Rattle.model.specs.Acceptance.ThreadInvariants.{tcb_of}
use Rattle.model.specs.Capabilities.Slots.{capability_at}
use Rattle.model.specs.Images.Described.{Numbered, numbered_threads}
use Rattle.model.specs.Images.Image.{Image}
use Rattle.model.specs.Kernel.Deliveries.{Reason, ReceivesFrom, caller, faulted, once_received, receiver, sender, sent_by, set_back, waiter, woken}
use Rattle.model.specs.Kernel.Deliveries.{TakesSender}
use Rattle.model.specs.Kernel.Messages.{message_of, resumption}
use Rattle.model.specs.Kernel.Soundness.{IsSound}
use Rattle.model.specs.Kernel.State.{AwaitsHandler, AwaitsReply, Blocked, ByCall, ByFault, BySend, EndpointState, Inactive, Object, Runnable}
use Rattle.model.specs.Kernel.State.{Sender, Sent, State, Status, ThreadObject, ThreadState, as_endpoint, endpoint_at, new_endpoint, thread_at}
use Rattle.soundness.proofs.Laws.{endpoint-kind}
use Rattle.headline.specs.facts.Standing.{AllStand}
use Rattle.response.specs.Asking.{Asked, asked_by, asked_to_receive, asked_to_send}
use Rattle.response.specs.Owed.{WaitsWhereAsked, asked_noted, asked_there, is_call}
use Rattle.response.proofs.AskedNow.{asked_now}
use Rattle.response.proofs.AskedQueues.{new-receiver, new-sender, receiver-blocked, sender-blocked}
use Rattle.response.proofs.AtBells.{there-is}
use Rattle.response.proofs.Interrupts.{thread-of}
use Rattle.response.proofs.Rung.{asks-of}

-- where a thread is, is what it asks
pub asked-same : (image : Image) (u : Numbered) (s after : State)
    → (thread_at after (tcb_of image u)).registers.pc ≡ (thread_at s (tcb_of image u)).registers.pc → asked_there image after u ≡ asked_there image s u
asked-same image u s after pc =
    ap (λ (k : ℕ). asked_noted image u ((k - u.thread.header.base) / 4) (noted image u ((k - u.thread.header.base) / 4))) pc

-- a decided claim, where its opposite has denied way
pub by-cases : (b : Bool) → (b ≡ false → ⊥) → b ≡ true
by-cases true never = refl
by-cases false never = absurd (never refl)

pub by-cases-not : (b : Bool) → (b ≡ true → ⊥) → b ≡ false
by-cases-not true never = absurd (never refl)
by-cases-not false never = refl

-- a thread that does not wait owes nothing of that
pub vacuous : (image : Image) (u : Numbered) (s : State) → IsSound s → (status : Status) → (thread_at s (tcb_of image u)).status ≡ status
    → (status ≡ AwaitsReply → is_call (asked_there image s u) ≡ true) → ((queue : ℕ) → status ≡ Blocked queue → ⊥) → WaitsWhereAsked image u s
vacuous image u s sound status is awaits never = record {
  awaits = λ so. awaits (sym is ∙ so);
  sends = λ queue e x at among own sent.
      absurd (never queue (sym is ∙ ap (λ (k : ℕ). (thread_at s k).status) (sym own) ∙ sender-blocked s sound queue e at x among));
  receives = λ queue e at among. absurd (never queue (sym is ∙ receiver-blocked s sound queue e at (tcb_of image u) among));
}

pub runs-vacuous : (image : Image) (u : Numbered) (s : State) → IsSound s → (thread_at s (tcb_of image u)).status ≡ Runnable → WaitsWhereAsked image u s
runs-vacuous image u s sound runs_ =
    vacuous image u s sound Runnable runs_ (λ clash. absurd (let c : Runnable ≡ AwaitsReply = clash in cc))
    (λ queue clash. absurd (let c : Runnable ≡ Blocked queue = clash in cc))

module _ (image : Image) (s after : State) (labels later : List Label) (all : AllStand image s labels) (behind : AllStand image after later)
    (t : Numbered) (listed : Contains (numbered_threads image) t) (within : WithinAuthority image t.thread s after) where
  -- ---- another thread

  module _ (u : Numbered) (among : Contains (numbered_threads image) u) (apart : tcb_of image u ≢ tcb_of image t) (asked_so : WaitsWhereAsked image u s) where
    -- it stays where it is, with its status
    module _ (pc : (thread_at after (tcb_of image u)).registers.pc ≡ (thread_at s (tcb_of image u)).registers.pc)
        (status : (thread_at after (tcb_of image u)).status ≡ (thread_at s (tcb_of image u)).status) where
      same-asked : asked_there image after u ≡ asked_there image s u
      same-asked = asked-same image u s after pc

      stays : WaitsWhereAsked image u after
      stays = record {
        awaits = λ so. ap is_call same-asked ∙ asked_so.awaits (sym status ∙ so);
        sends = λ queue e x at member own sent. by-cases (is_call (asked_there image after u)) (λ denied.
            let asks = new-sender image t.thread s after within queue e at x member (λ old was before.
            let clash : false ≡ true = sym denied ∙ ap is_call same-asked ∙ asked_so.sends queue old x was before own sent in absurd cc) in
            absurd (apart (sym own ∙ asks.thread)));
        receives = λ queue e at member. by-cases-not (is_call (asked_there image after u)) (λ is_caller.
            let names = new-receiver image t.thread s after within queue e at (tcb_of image u) member (λ old was before.
            let clash : true ≡ false = sym is_caller ∙ ap is_call same-asked ∙ asked_so.receives queue old was before in absurd cc) in
            absurd (apart (sym names.1)));
      }

    module _ (before changed : ThreadState) (was : s.objects (tcb_of image u) ≡ Some (ThreadObject before))
        (is : after.objects (tcb_of image u) ≡ Some (ThreadObject changed)) where
      at_before : thread_at s (tcb_of image u) ≡ before
      at_before = ap thread-of was

      at_changed : thread_at after (tcb_of image u) ≡ changed
      at_changed = ap thread-of is

      runs-now : changed.status ≡ Runnable → WaitsWhereAsked image u after
      runs-now runs_ = runs-vacuous image u after behind.sound (ap (λ (x : ThreadState). x.status) at_changed ∙ runs_)

      stops-now : (status : Status) → changed.status ≡ status → (status ≡ AwaitsReply → ⊥) → ((queue : ℕ) → status ≡ Blocked queue → ⊥)
          → WaitsWhereAsked image u after
      stops-now status so denied never =
          vacuous image u after behind.sound status (ap (λ (x : ThreadState). x.status) at_changed ∙ so) (λ clash. absurd (denied clash)) never

      -- its message is received
      by-sent : (first : Sender) (sent : Sent) → changed ≡ once_received first sent before → (sent ≡ ByCall → is_call (asked_there image s u) ≡ true)
          → WaitsWhereAsked image u after
      by-sent first BySend so call = runs-now (ap (λ (x : ThreadState). x.status) so)
      by-sent first (ByFault fault) so call =
          stops-now AwaitsHandler (ap (λ (x : ThreadState). x.status) so) (λ clash. absurd (let c : AwaitsHandler ≡ AwaitsReply = clash in cc))
          (λ queue clash. absurd (let c : AwaitsHandler ≡ Blocked queue = clash in cc))
      by-sent first ByCall so call =
          vacuous image u after behind.sound changed.status (ap (λ (x : ThreadState). x.status) at_changed)
          (λ _. ap is_call (asked-same image u s after (ap (λ (x : ThreadState). x.registers.pc) (at_changed ∙ so)
          ∙ sym (ap (λ (x : ThreadState). x.registers.pc) at_before))) ∙ call refl)
          (λ queue blocked. never queue first.grant_reply (sym (ap (λ (x : ThreadState). x.status) so) ∙ blocked))
        where
          never : (queue : ℕ) (b : Bool) → (if b then AwaitsReply else Inactive) ≡ Blocked queue → ⊥
          never queue true clash = let c : AwaitsReply ≡ Blocked queue = clash in absurd cc
          never queue false clash = let c : Inactive ≡ Blocked queue = clash in absurd cc

      sent-call : (endpoint : ℕ) (first : Sender) → TakesSender s after endpoint first → first.thread ≡ tcb_of image u → first.sent ≡ ByCall
          → is_call (asked_there image s u) ≡ true
      sent-call endpoint first gone own sent =
          let found = endpoint-kind (s.objects endpoint) gone.was in
          let head : found.0.senders ≡ first ∷ (endpoint_at after endpoint).senders =
          sym (ap (λ (o : Option Object). (option_map_or (λ (e : EndpointState). e) (as_endpoint o) new_endpoint).senders) found.1)
          ∙ gone.leaves in
          asked_so.sends endpoint found.0 first found.1 (subst (λ (l : List Sender). Contains l first) (sym head) (0, omega arith, refl)) own sent

      handled : (b : Bool) → changed.status ≡ (if b then Runnable else Inactive) → WaitsWhereAsked image u after
      handled true so = runs-now so
      handled false so =
          stops-now Inactive so (λ clash. absurd (let c : Inactive ≡ AwaitsReply = clash in cc))
          (λ queue clash. absurd (let c : Inactive ≡ Blocked queue = clash in cc))

      handled-status : (b : Bool) (x y : ThreadState) → (if b then x else y).status ≡ (if b then x.status else y.status)
      handled-status true x y = refl
      handled-status false x y = refl

      by-reason : Reason s after (self_of image t.thread) (CallNames image t.thread s) (tcb_of image u) before changed → WaitsWhereAsked image u after
      by-reason (receiver endpoint badge right gone blocked named may so arrives) = runs-now (ap (λ (x : ThreadState). x.status) so)
      by-reason (sender endpoint first gone own blocked named so arrives) =
          by-sent first first.sent so (λ sent. sent-call endpoint first gone own sent)
      by-reason (waiter o badge gone blocked named so) = runs-now (ap (λ (x : ThreadState). x.status) so)
      by-reason (caller right awaits so arrives) = runs-now (ap (λ (x : ThreadState). x.status) so)
      by-reason (faulted right awaits so) =
          handled ((message_of (thread_at s (self_of image t.thread))).label == 0)
          (ap (λ (x : ThreadState). x.status) so ∙ handled-status ((message_of (thread_at s (self_of image t.thread))).label == 0)
          (woken before (record before.registers { pc = resumption before.registers.pc (message_of (thread_at s (self_of image t.thread))).words }))
          (record before { status = Inactive }))
      by-reason (set_back queue blocked some gone so) = runs-now (ap (λ (x : ThreadState). x.status) so)

      by-states : (told : (a b : ThreadState) → (a ≡ b) ⊎ (a ≢ b)) → WaitsWhereAsked image u after
      by-states told = elim (told before changed) [
        | inl same ↦ stays (ap (λ (x : ThreadState). x.registers.pc) (at_changed ∙ sym same ∙ sym at_before))
            (ap (λ (x : ThreadState). x.status) (at_changed ∙ sym same ∙ sym at_before))
        | inr differs ↦ by-reason (within.threads (tcb_of image u) before changed apart was is differs)
      ]

    pub others-asked : (told : (a b : ThreadState) → (a ≡ b) ⊎ (a ≢ b)) → WaitsWhereAsked image u after
    others-asked told =
        let was = there-is image u s labels (all.stand u among) in
        let is = there-is image u after later (behind.stand u among) in
        by-states was.0 is.0 was.1 is.1 told

  -- ---- the thread itself, where it waits after its call

  module _ (runs_before : (thread_at s (tcb_of image t)).status ≡ Runnable) (asked : Asked) (asks : asked_now s (tcb_of image t) ≡ asked)
      (spot : asked_there image after t ≡ asked) (awaits : (thread_at after (tcb_of image t)).status ≡ AwaitsReply → is_call asked ≡ true) where
    sends-call : (kind : SendCall) (c : Cap) (queue badge : ℕ) (r : Rights) → c ≡ Endpoint queue r badge → ByCall ≡ sent_by kind
        → is_call (asked_to_send kind c) ≡ true
    sends-call Calling c queue badge r is sent = ap (λ (x : Cap). is_call (asked_to_send Calling x)) is
    sends-call Sending c queue badge r is sent = absurd (let clash : ByCall ≡ BySend = sent in cc)
    sends-call Trying c queue badge r is sent = absurd (let clash : ByCall ≡ BySend = sent in cc)

    by-call : (call : SystemCall) (kind : SendCall) (c : Cap) (queue badge : ℕ) (r : Rights) → call ≡ Sends kind → c ≡ Endpoint queue r badge
        → ByCall ≡ sent_by kind → is_call (asked_by call c) ≡ true
    by-call call kind c queue badge r is at sent =
        ap (λ (x : SystemCall). is_call (asked_by x c)) is ∙ sends-call kind c queue badge r at sent

    receives-none : (queue : ℕ) (call : SystemCall) (c : Cap) → ReceivesFrom queue call c → is_call (asked_by call c) ≡ false
    receives-none queue (Receives Receiving) c d = ap (λ (x : Cap). is_call (asked_to_receive false Receiving x)) d.is
    receives-none queue (Receives Polling) c d = ap (λ (x : Cap). is_call (asked_to_receive false Polling x)) d.is
    receives-none queue RepliesAndReceives c d = ap (λ (x : Cap). is_call (asked_to_receive true Receiving x)) d.is
    receives-none queue (Sends kind) c d = absurd (let clash : false ≡ true = d.receives in cc)
    receives-none queue Replies c d = absurd (let clash : false ≡ true = d.receives in cc)
    receives-none queue Yields c d = absurd (let clash : false ≡ true = d.receives in cc)
    receives-none queue PutsCharacter c d = absurd (let clash : false ≡ true = d.receives in cc)

    asks-call : (Such : SystemCall → Cap → Type 0) (names : CallNames image t.thread s Such) → asked ≡ asked_by names.call (capability_at s.slots names.slot)
    asks-call Such names = sym asks ∙ asks-of image t.thread s after all.sound.slots.derivation.valid Such names

    not-queued : (queue : ℕ) → (thread_at s (tcb_of image t)).status ≡ Blocked queue → ⊥
    not-queued queue blocked = let clash : Runnable ≡ Blocked queue = sym runs_before ∙ blocked in absurd cc

    pub own-asked : WaitsWhereAsked image t after
    own-asked = record {
      awaits = λ so. ap is_call spot ∙ awaits so;
      sends = λ queue e x at member own sent. ap is_call spot ∙ (
          let asks_as = new-sender image t.thread s after within queue e at x member (λ old was before.
          not-queued queue (ap (λ (k : ℕ). (thread_at s k).status) (sym own) ∙ sender-blocked s all.sound queue old was x before)) in
          let names = asks_as.named in
          ap is_call (asks-call _ names)
          ∙ by-call names.call asks_as.kind (capability_at s.slots names.slot) queue x.badge asks_as.allowed names.such.0 names.such.1
          (sym sent ∙ asks_as.sends));
      receives = λ queue e at member. ap is_call spot ∙ (
          let names = new-receiver image t.thread s after within queue e at (tcb_of image t) member (λ old was before.
          not-queued queue (receiver-blocked s all.sound queue old was (tcb_of image t) before)) in
          ap is_call (asks-call _ names.0)
          ∙ receives-none queue names.0.call (capability_at s.slots names.0.slot) names.0.such);
    }
