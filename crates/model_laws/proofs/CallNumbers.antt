-- What authority says of notifications, rights to reply and lines, by the number of the call.
use Rattle.std.proofs.Common.{ℕ, ◌≡◌, ◌≢◌, Bool, true, false, Option, Some, None, Contains, sym, ap, ◌∙◌}
use Rattle.model.specs.declared.capabilities.Cap.{Cap}
use Rattle.model.specs.declared.system_calls.SendCall.TheVariants.{Calling}
use Rattle.model.specs.declared.system_calls.SystemCall.{SystemCall}
use Rattle.model.specs.declared.system_calls.SystemCall.TheVariants.{Sends}
use Rattle.model.specs.Acceptance.Authority.{CallNames, NotificationChange, WaitsFor, joins, passes_on, self_of, taken, waits}
use Rattle.model.specs.Images.Image.{Image, Thread}
use Rattle.model.specs.Kernel.Deliveries.{MayReply, Reason, as_before, caller, faulted, is_send, receiver, sender, set_back, to_sender, waiter}
use Rattle.model.specs.Kernel.State.{State, Blocked, AwaitsReply, AwaitsHandler, NotificationState, ThreadState}
use Rattle.model_laws.specs.Scenarios.{Asks}
use Rattle.model_laws.proofs.Narrow.{one-call, signal-sends}
use Rattle.model_laws.proofs.QueueChanges.{stays-old, tail-old}
use Rattle.model_laws.proofs.Reasons.{received_caller}

-- ---- the number

-- a call that is not of a sort names nothing by one that is
pub not-so : (image : Image) (t : Thread) (s : State) (call : SystemCall) {Such : SystemCall → Cap → Type 0} (sort : SystemCall → Bool)
    → Asks image t s call → sort call ≡ false → (names : CallNames image t s Such) → sort names.call ≡ true → ⊥
not-so image t s call sort asks other names is =
    let e : false ≡ true = sym other ∙ sym (ap sort (one-call image t s call asks names)) ∙ is in cc

-- ---- notifications

module _ (image : Image) (t : Thread) (s after : State) (notification : ℕ) (old new : NotificationState) where
  -- who is new among those that wait asked by the call
  pub waits-for : NotificationChange image t s after notification old new → (x : ℕ) → Contains new.waiters x → (Contains old.waiters x → ⊥)
      → CallNames image t s (WaitsFor notification)
  waits-for (joins b names none is) x among fresh =
      absurd (fresh (stays-old old.waiters new.waiters x (ap (λ (n : NotificationState). n.waiters) is) among))
  waits-for (passes_on b first names list same served) x among fresh = absurd (fresh (tail-old old.waiters new.waiters first x list among))
  waits-for (taken names is) x among fresh =
      absurd (fresh (stays-old old.waiters new.waiters x (ap (λ (n : NotificationState). n.waiters) is) among))
  waits-for (waits names is) x among fresh = names

  -- by a call that does not send the word stays, or is 0 after it
  pub word-stays : ((Such : SystemCall → Cap → Type 0) → (names : CallNames image t s Such) → is_send names.call ≡ true → ⊥)
      → old.word ≢ new.word → new.word ≢ 0 → NotificationChange image t s after notification old new → ⊥
  word-stays never differ some (joins b names none is) = never _ names (signal-sends image t s after notification b names)
  word-stays never differ some (passes_on b first names list same served) = differ (sym same)
  word-stays never differ some (taken names is) = some (ap (λ (n : NotificationState). n.word) is)
  word-stays never differ some (waits names is) = differ (sym (ap (λ (n : NotificationState). n.word) is))

-- ---- rights to reply

module _ (image : Image) (t : Thread) (s after : State) (other : ℕ) (old new : ThreadState) where
  calls-where : (e b : ℕ) (before c : Option ℕ) (call : SystemCall) → Asks image t s call → before ≡ None → c ≡ Some (self_of image t)
      → MayReply after (self_of image t) (CallNames image t s) e b before c → call ≡ Sends Calling
  calls-where e b before c call asks none has (as_before same) =
      let f : None ≡ Some (self_of image t) = sym none ∙ sym same ∙ has in absurd cc
  calls-where e b before c call asks none has (to_sender names is waits_so) = sym (one-call image t s call asks names) ∙ names.such.calls

  -- who gives the right to reply calls
  pub giver-calls : (queue : ℕ) (call : SystemCall) → Asks image t s call → old.status ≡ Blocked queue → old.caller ≡ None
      → new.caller ≡ Some (self_of image t) → Reason s after (self_of image t) (CallNames image t s) other old new → call ≡ Sends Calling
  giver-calls queue call asks waits_so none has (receiver e b c list blocked names may is comes) =
      calls-where e b old.caller c call asks none (sym (ap (λ (u : ThreadState). u.caller) is) ∙ has) may
  giver-calls queue call asks waits_so none has (sender e first list same blocked names is comes) =
      let f : None ≡ Some (self_of image t) = sym none ∙ sym (received_caller first first.sent old) ∙ sym (ap (λ (u : ThreadState). u.caller) is) ∙ has in
      absurd cc
  giver-calls queue call asks waits_so none has (waiter n b list blocked names is) =
      let f : None ≡ Some (self_of image t) = sym none ∙ sym (ap (λ (u : ThreadState). u.caller) is) ∙ has in absurd cc
  giver-calls queue call asks waits_so none has (caller right awaits is comes) = let f : Blocked queue ≡ AwaitsReply = sym waits_so ∙ awaits in absurd cc
  giver-calls queue call asks waits_so none has (faulted right awaits is) = let f : Blocked queue ≡ AwaitsHandler = sym waits_so ∙ awaits in absurd cc
  giver-calls queue call asks waits_so none has (set_back q blocked some gone is) =
      let f : None ≡ Some (self_of image t) = sym none ∙ sym (ap (λ (u : ThreadState). u.caller) is) ∙ has in absurd cc
