-- Who waits in the queue of a notification waits for what its call asks.
use Rattle.std.proofs.Common.{ℕ, ◌≡◌, ◌∙◌, Option, Some, Result, Ok, List, ◌∷◌, refl, sym, ap, subst, arith}
use Rattle.std.specs.Prelude.{Contains}
use Rattle.model.specs.declared.labels.Label.{Label}
use Rattle.model.specs.declared.refusals.Refusal.{Refusal}
use Rattle.model.specs.Acceptance.Accepted.{IsAccepted}
use Rattle.model.specs.Acceptance.CallRules.{AfterCall}
use Rattle.model.specs.Acceptance.ThreadInvariants.{ThreadInvariant, runs, tcb_of, waits}
use Rattle.model.specs.Images.Described.{Numbered, numbered_threads}
use Rattle.model.specs.Images.Image.{Image}
use Rattle.model.specs.Kernel.Soundness.{waiting_at}
use Rattle.model.specs.Kernel.State.{Blocked, Runnable, NotificationObject, NotificationState, Object, State, Status, ThreadObject, ThreadState}
use Rattle.headline.specs.facts.Standing.{AllStand}
use Rattle.headline.specs.facts.Waiting.{QueuesSo, WaitsSo}
use Rattle.headline.specs.moves.Laws.{Laws}
use Rattle.headline.proofs.Laws.{Waits, first-waits}
use Rattle.response.specs.Laws.{WaitsToTake}
use Rattle.response.proofs.Takers.{takes-here}

pub one-left : {a b : AfterCall} → ◌≡◌ {A = Option (Result AfterCall Refusal)} (Some (Ok a)) (Some (Ok b)) → a ≡ b
one-left both = cc

runs-not-blocked : (own one : ThreadState) (queue : ℕ) → own.status ≡ Runnable → one.status ≡ Blocked queue → one ≡ own → ⊥
runs-not-blocked own one queue may rests same = let clash : Runnable ≡ Blocked queue = sym may ∙ sym (ap (λ (u : ThreadState). u.status) same)
    ∙ rests in absurd cc

pub same-thread : (o : Option Object) (a b : ThreadState) → o ≡ Some (ThreadObject a) → o ≡ Some (ThreadObject b) → a ≡ b
same-thread o a b first second =
    let both : Some (ThreadObject a) ≡ Some (ThreadObject b) = sym first ∙ second in
    let inside : ThreadObject a ≡ ThreadObject b = cc in cc

module _ (laws : Laws) (bytes : List ℕ) (image : Image) (s : State) (labels : List Label) (accepted : IsAccepted bytes image) (all : AllStand image s labels)
    (t : Numbered) (queue : ℕ) (n : NotificationState) (others : List ℕ) (listed : Contains (numbered_threads image) t)
    (is : s.objects queue ≡ Some (NotificationObject n)) (first : n.waiters ≡ tcb_of image t ∷ others) where
  waits-here : Waits s (tcb_of image t) queue
  waits-here = first-waits s all.sound queue (tcb_of image t) others (ap waiting_at is ∙ first)

  among : Contains n.waiters (tcb_of image t)
  among = subst (λ (l : List ℕ). Contains l (tcb_of image t)) (sym first) (0, omega arith, refl)

  by-invariant : ThreadInvariant image t s labels → WaitsToTake image t s labels queue
  by-invariant (runs own point state there status stands budget) =
      absurd (runs-not-blocked own (Waits.own waits-here) queue status (Waits.blocked waits-here)
      (same-thread (s.objects (tcb_of image t)) (Waits.own waits-here) own (Waits.is waits-here) there))
  by-invariant (waits own point state there status stands asks none) =
      let blocked : own.status ≡ Blocked queue =
      ap (λ (u : ThreadState). u.status) (same-thread (s.objects (tcb_of image t)) own (Waits.own waits-here) there (Waits.is waits-here))
      ∙ Waits.blocked waits-here in
      let left = asks.1.0 in
      let allowed = laws.allowed bytes image t point state accepted listed stands.inside stands.known asks.0 in
      let so : QueuesSo image t s state left queue =
      subst (λ (x : Status). WaitsSo image t s state left x) blocked
      (all.wait t listed own point state left there stands.inside stands.pc stands.known asks.1.1) in
      let same : allowed.left ≡ left = one-left (sym allowed.at ∙ asks.1.1) in
      record {
        own = own;
        there = there;
        status = blocked;
        point = point;
        state = state;
        stands = stands;
        ecall = asks.0;
        left = left;
        call = asks.1.1;
        asks = takes-here image t point state left queue so.capability asks.0 (so.waits n is among) (allowed.is ∙ ap (λ (a : AfterCall). Ok a) same)
            laws.receives laws.sends laws.others so.named so.leads;
        none = none;
      }

  pub waits-to-take : WaitsToTake image t s labels queue
  waits-to-take = by-invariant (all.stand t listed)
