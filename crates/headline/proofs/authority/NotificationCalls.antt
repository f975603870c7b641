-- Call, Send, NBSend, Recv and NBRecv on a notification that the thread names, whatever waits there, stay within authority.
use Rattle.std.proofs.Common.{ℕ, ◌≡◌, ◌==◌, Bool, true, false, if◌then◌else◌, Some, List, [], ◌∷◌, refl, sym, ◌∙◌, ap, subst, inl, inr}
use Rattle.model.specs.declared.capabilities.Cap.TheVariants.{Notification}
use Rattle.model.specs.declared.errors.KError.TheVariants.{InvalidCapability}
use Rattle.model.specs.declared.lookup_failures.LookupFailure.TheVariants.{MissingCapability}
use Rattle.model.specs.declared.rights.Rights.{Rights}
use Rattle.model.specs.declared.system_calls.ReceiveCall.{ReceiveCall}
use Rattle.model.specs.declared.system_calls.ReceiveCall.TheVariants.{Receiving, Polling}
use Rattle.model.specs.declared.system_calls.SendCall.{SendCall}
use Rattle.model.specs.declared.system_calls.SystemCall.TheVariants.{Sends, Receives}
use Rattle.model.specs.declared.system_calls.SystemCall.{SystemCall}
use Rattle.headline.proofs.authority.Awaited.{asks-so}
use Rattle.model.specs.Acceptance.Authority.{CallNames, WaitsFor, WithinAuthority, self_of}
use Rattle.model.specs.Capabilities.Rights.{may_read, may_write}
use Rattle.model.specs.Images.Image.{Image, Thread}
use Rattle.model.specs.Kernel.Deliveries.{Signals, by_right, is_receive}
use Rattle.model.specs.Kernel.Kinds.{object_named}
use Rattle.model.specs.Kernel.Messages.{deliver_word, poll, signal, signals, wait, waits_for_signal, takes_word}
use Rattle.model.specs.Kernel.Retype.{NewNotification}
use Rattle.model.specs.Kernel.Soundness.{IsSound}
use Rattle.model.specs.Kernel.State.{State, NotificationObject, NotificationState, notification_at, with_notification}
use Rattle.model.specs.Kernel.Steps.{Done, call_of, lacks_capability, receive_by, receive_named, receive_on_notification, refused, send_by, send_named}
use Rattle.model.specs.Kernel.Steps.{signal_on}
use Rattle.model.specs.Kernel.Steps.{system_call}
use Rattle.headline.proofs.authority.Changes.{ChangesObjects, KeepsSlice, changes-within}
use Rattle.headline.proofs.authority.CallsMade.{answered-within, called-as, runs-apart}
use Rattle.headline.proofs.authority.OwnRegisters.{RunsApart}
use Rattle.headline.proofs.authority.Signalling.{at-notification, badge-joins, polls-nothing, waiter-wakes, waits-for-word, word-taken}
use Rattle.headline.specs.authority.Scenarios.{CallsOn}
use Rattle.soundness.proofs.Laws.{notification-kind}

module _ (image : Image) (t : Thread) (s : State) (sound : IsSound s) (number n badge : ℕ) (allowed : Rights)
    (call : CallsOn image t s number (Notification n allowed badge)) where
  abbrev self : ℕ
  self = self_of image t

  word : (x : NotificationState) × (s.objects n ≡ Some (NotificationObject x))
  word = notification-kind (s.objects n) (sound.memory.named call.slot NewNotification n (ap object_named call.holds))

  word-is : notification_at s n ≡ word.0
  word-is = at-notification s n word.0 word.1

  apart : RunsApart image t s
  apart = runs-apart image t s sound call.own call.is call.runs

  -- ---- a signal

  module _ (writes : may_write allowed ≡ true) where
    names : (kind : SendCall) → call_of number ≡ Some (Sends kind) → (after : State) → after.pending ≡ s.pending
        → CallNames image t s (Signals s after n badge)
    names kind is after _ = record {
      call = Sends kind;
      slot = call.slot;
      asks = asks-so image t s number (Notification n allowed badge) call (Sends kind) is;
      own = call.among;
      named = call.named;
      such = by_right allowed refl call.holds writes;
    }

    signal-changes : (kind : SendCall) → call_of number ≡ Some (Sends kind) → ChangesObjects image t s (signal s n badge)
    signal-changes kind is =
        elim (notification_at s n).waiters as (λ (l : List ℕ). (notification_at s n).waiters ≡ l
        → ChangesObjects image t s (signals s n badge (notification_at s n) l)) [
          | [] ↦ λ none.
              badge-joins image t s sound call.own call.is call.runs n word.0 word.1 badge s.masked s.pending (names kind is)
              (sym (ap (λ (q : NotificationState). q.waiters) word-is) ∙ none)
              (λ line either. elim either [ inl differs ↦ absurd (differs refl) | inr differs ↦ absurd (differs refl) ])
          | w ∷ others ↦ λ first.
              waiter-wakes image t s sound call.own call.is call.runs n word.0 word.1 badge s.masked s.pending (names kind is) w others
              (sym (ap (λ (q : NotificationState). q.waiters) word-is) ∙ first)
              (λ line either. elim either [ inl differs ↦ absurd (differs refl) | inr differs ↦ absurd (differs refl) ])
        ] refl

    signalled : (kind : SendCall) → call_of number ≡ Some (Sends kind) → WithinAuthority image t s (signal_on s (self_of image t) kind n badge).0
    signalled kind is =
        let change = signal-changes kind is in
        answered-within image t s (signal s n badge) apart change.now change.is (changes-within image t s (signal s n badge) change) kind 0

    pub signals-within : (kind : SendCall) → call_of number ≡ Some (Sends kind) → WithinAuthority image t s (system_call s (self_of image t)).0
    signals-within kind is =
        subst (λ (d : Done). WithinAuthority image t s d.0)
        (sym (called-as image t s number (Notification n allowed badge) call (Sends kind) is
        ∙ ap (send_named s self kind) call.named
        ∙ ap (send_by s self kind call.slot) call.holds
        ∙ ap (λ (b : Bool). if b then signal_on s self kind n badge else refused s self kind InvalidCapability) writes))
        (signalled kind is)

  -- ---- the word is taken, or waited for

  module _ (reads : may_read allowed ≡ true) where
    module _ (what : SystemCall) (what_is : call_of number ≡ Some what) (gets : is_receive what ≡ true) where
      waits-for : CallNames image t s (WaitsFor n)
      waits-for = record {
        call = what;
        slot = call.slot;
        asks = asks-so image t s number (Notification n allowed badge) call what what_is;
        own = call.among;
        named = call.named;
        such = record { receives = gets; allowed = allowed; badge = badge; is = call.holds; reads = reads };
      }

      takes : (after : State) → KeepsSlice image t s after → KeepsSlice image t s (takes_word s n (self_of image t) after)
      takes after nothing =
          elim ((notification_at s n).word == 0) as (λ (b : Bool). KeepsSlice image t s (if b then after else
          deliver_word (with_notification s n (record (notification_at s n) { word = 0 })) self (notification_at s n).word)) [
            | true ↦ nothing
            | false ↦ word-taken image t s sound call.own call.is call.runs n word.0 word.1 waits-for
          ]

      pub wait-keeps : KeepsSlice image t s (wait s n (self_of image t))
      wait-keeps =
          takes (waits_for_signal s n self)
          (waits-for-word image t s sound call.own call.is call.runs n word.0 word.1 waits-for)

      pub poll-keeps : KeepsSlice image t s (poll s n (self_of image t))
      poll-keeps =
          takes (deliver_word s self 0) (polls-nothing image t s sound call.own call.is call.runs)

      receive-by : (kind : ReceiveCall) → KeepsSlice image t s (receive_on_notification s (self_of image t) kind n).0
      receive-by Receiving = wait-keeps
      receive-by Polling = poll-keeps

    pub waits-within : (kind : ReceiveCall) → call_of number ≡ Some (Receives kind) → WithinAuthority image t s (system_call s (self_of image t)).0
    waits-within kind is =
        subst (λ (d : Done). WithinAuthority image t s d.0)
        (sym (called-as image t s number (Notification n allowed badge) call (Receives kind) is
        ∙ ap (receive_named s self kind) call.named
        ∙ ap (receive_by s self kind) call.holds
        ∙ ap (λ (b : Bool). if b then receive_on_notification s self kind n else lacks_capability s self 1 MissingCapability) reads))
        (changes-within image t s _ (receive-by (Receives kind) is refl kind).change)
