-- A thread that has not run yet is as the image lists it: it runs with the registers that it starts with, and waits for nothing. So who waits, or
-- awaits a reply, has run.
use Rattle.std.proofs.Common.{ℕ, ◌≡◌, ◌≢◌, ◌∙◌, inl, inr, Bool, true, false, Option, Some, None, List, [], ◌∷◌, refl, sym, ap}
use Rattle.std.specs.Option.{option_map_or}
use Rattle.std.proofs.lemmas.Bool.{false≢true}
use Rattle.std.proofs.lemmas.Bool.Decides.{eqb_tells}
use Rattle.std.proofs.lemmas.Option.{none-some, same_Some}
use Rattle.model.specs.declared.capabilities.Cap.{Cap}
use Rattle.model.specs.declared.labels.Label.{Label}
use Rattle.model.specs.declared.system_calls.SystemCall.{SystemCall}
use Rattle.model.specs.Acceptance.Authority.{CallNames, WithinAuthority}
use Rattle.model.specs.Acceptance.ThreadInvariants.{ThreadInvariant, runs as runs_so, waits as waits_so, tcb_of}
use Rattle.model.specs.Images.Described.{Numbered, listed_thread, start_registers}
use Rattle.model.specs.Images.Image.{Image}
use Rattle.model.specs.Kernel.Deliveries.{Reason, receiver, sender, waiter, caller, faulted, set_back}
use Rattle.model.specs.Kernel.Scheduling.{current, head_of, is_runnable}
use Rattle.model.specs.Kernel.Soundness.{IsSound, waiting_at}
use Rattle.model.specs.Kernel.State.{State, Status, Inactive, Runnable, Blocked, AwaitsReply, AwaitsHandler, Object, ThreadObject, NotificationObject}
use Rattle.model.specs.Kernel.State.{NotificationState, ThreadState, as_notification, as_thread, new_notification, new_thread, notification_at, thread_at}
use Rattle.headline.specs.authority.Events.{InterruptChange, joins, passes_on, wakes, WithinInterrupt, WithinTick}
use Rattle.headline.specs.facts.Standing.{AllStand, IsControlBlock}
use Rattle.headline.proofs.authority.Laws.{bound-notification, first-waits, thread-object}
use Rattle.headline.proofs.parts.Laws.{settled, threads}

-- ---- as it starts

pub record HasNotBegun (image : Image) (u : Numbered) (s : State) : Type 0 where
  pub own : ThreadState
  pub is : s.objects (tcb_of image u) ≡ Some (ThreadObject own)
  pub runs : own.status ≡ Runnable
  pub registers : own.registers ≡ start_registers u.thread

pub starts-so : (image : Image) (u : Numbered) (s : State) → s.objects (tcb_of image u) ≡ Some (ThreadObject (listed_thread u.thread)) → HasNotBegun image u s
starts-so image u s is = record { own = listed_thread u.thread; is = is; runs = refl; registers = refl }

one-thread : (o : Option Object) (a b : ThreadState) → o ≡ Some (ThreadObject a) → o ≡ Some (ThreadObject b) → a ≡ b
one-thread o a b one other =
    let e : Some (ThreadObject a) ≡ Some (ThreadObject b) = sym one ∙ other in
    let f : ThreadObject a ≡ ThreadObject b = cc in cc

not-both : {A : Type 0} (status other : Status) → status ≡ Runnable → status ≡ other → is_runnable other ≡ false → A
not-both status other runs is rests = absurd (false≢true (sym rests ∙ ap is_runnable (sym is ∙ runs)))

-- ---- what is no reason

-- each reason is one for a thread that waits
waited : (s after : State) (self other : ℕ) (Named : (SystemCall → Cap → Type 0) → Type 0) (before changed : ThreadState)
    → Reason s after self Named other before changed → before.status ≡ Runnable → ⊥
waited s after self other Named before changed (receiver endpoint badge who takes blocked named may is arrives) runs =
    not-both before.status (Blocked endpoint) runs blocked refl
waited s after self other Named before changed (sender endpoint first takes who blocked named is arrives) runs =
    not-both before.status (Blocked endpoint) runs blocked refl
waited s after self other Named before changed (waiter notification badge takes blocked named is) runs =
    not-both before.status (Blocked notification) runs blocked refl
waited s after self other Named before changed (caller right awaits is arrives) runs = not-both before.status AwaitsReply runs awaits refl
waited s after self other Named before changed (faulted right awaits is) runs = not-both before.status AwaitsHandler runs awaits refl
waited s after self other Named before changed (set_back queue blocked was gone is) runs = not-both before.status (Blocked queue) runs blocked refl

-- ---- over an event

module _ (image : Image) (u : Numbered) (s after : State) (before : HasNotBegun image u s) where
  abbrev tcb : ℕ
  tcb = tcb_of image u

  -- it is as it was where no change has a reason
  still : (new : ThreadState) → after.objects (tcb_of image u) ≡ Some (ThreadObject new) → (before.own ≢ new → ⊥) → HasNotBegun image u after
  still new there never =
      let same : before.own ≡ new = settled before.own new (threads before.own new) never in
      record {
        own = new;
        is = there;
        runs = ap (λ (t : ThreadState). t.status) (sym same) ∙ before.runs;
        registers = ap (λ (t : ThreadState). t.registers) (sym same) ∙ before.registers;
      }

  still-there : (labels : List Label) → ThreadInvariant image u after labels
      → ((new : ThreadState) → after.objects (tcb_of image u) ≡ Some (ThreadObject new) → before.own ≢ new → ⊥) → HasNotBegun image u after
  still-there labels (runs_so new point state there status stands within) never = still new there (never new there)
  still-there labels (waits_so new point state there waiting stands at none) never = still new there (never new there)

  pub same-object : after.objects (tcb_of image u) ≡ s.objects (tcb_of image u) → HasNotBegun image u after
  same-object same = record { own = before.own; is = same ∙ before.is; runs = before.runs; registers = before.registers }

  -- a step of another thread
  pub others-leave : (labels : List Label) → ThreadInvariant image u after labels → (t : Numbered) → WithinAuthority image t.thread s after
      → tcb_of image u ≢ tcb_of image t → HasNotBegun image u after
  others-leave labels stand t within apart =
      still-there labels stand (λ new there differs. waited s after (tcb_of image t) tcb (CallNames image t.thread s) before.own new
      (within.threads tcb before.own new apart before.is there differs) before.runs)

  -- a tick
  pub tick-leaves : WithinTick s after → HasNotBegun image u after
  tick-leaves within = elim (current s) as (λ (o : Option ℕ). current s ≡ o → HasNotBegun image u after) [
    | None ↦ λ none. same-object (within.others tcb (λ some. none-some tcb (sym none ∙ some)))
    | Some x ↦ λ now. elim (eqb_tells x tcb) [
      | inr apart ↦ same-object (within.others tcb (λ some. apart.1 (same_Some x tcb (sym now ∙ some))))
      | inl here ↦
          let ran = within.runs tcb before.own (now ∙ ap (λ (n : ℕ). Some n) here.1) before.is in
          record { own = record before.own { slice = ran.0 }; is = ran.1; runs = before.runs; registers = before.registers }
    ]
  ] refl

  -- an interrupt
  first-is : (xs : List ℕ) (x : ℕ) → head_of xs ≡ Some x → (rest : List ℕ) × (xs ≡ x ∷ rest)
  first-is [] x is = absurd (none-some x is)
  first-is (y ∷ rest) x is = (rest, ap (λ (n : ℕ). n ∷ rest) (same_Some y x is))

  no-change : IsSound s → (number : ℕ) → InterruptChange number s after (tcb_of image u) → ⊥
  no-change sound number (joins badge old delivered there empty now) =
      let e : Some (ThreadObject before.own) ≡ Some (NotificationObject old) = sym before.is ∙ there in
      let f : ThreadObject before.own ≡ NotificationObject old = cc in cc
  no-change sound number (passes_on badge first others old delivered there list now) =
      let e : Some (ThreadObject before.own) ≡ Some (NotificationObject old) = sym before.is ∙ there in
      let f : ThreadObject before.own ≡ NotificationObject old = cc in cc
  no-change sound number (wakes notification badge old delivered first there now) =
      let bound = bound-notification s sound number notification badge delivered.bound in
      let own : notification_at s notification ≡ bound.0 =
      ap (λ (o : Option Object). option_map_or (λ (x : NotificationState). x) (as_notification o) new_notification) bound.1 in
      let list = first-is bound.0.waiters tcb (ap (λ (n : NotificationState). head_of n.waiters) (sym own) ∙ first) in
      let w = first-waits s sound notification tcb list.0 (ap waiting_at bound.1 ∙ list.1) in
      let same : w.own ≡ before.own = one-thread (s.objects tcb) w.own before.own w.is before.is in
      not-both before.own.status (Blocked notification) before.runs (ap (λ (t : ThreadState). t.status) (sym same) ∙ w.blocked) refl

  pub interrupt-leaves : IsSound s → (labels : List Label) → ThreadInvariant image u after labels → (number : ℕ) → WithinInterrupt number s after
      → HasNotBegun image u after
  interrupt-leaves sound labels stand number within =
      still-there labels stand (λ new there differs. no-change sound number (within.objects tcb (λ same. differs (one-thread (after.objects tcb) before.own new
      (sym same ∙ before.is) there))))

-- ---- who waits has run

-- a thread that does not run has begun
pub begun : (image : Image) (u : Numbered) (s : State) (own : ThreadState) → s.objects (tcb_of image u) ≡ Some (ThreadObject own)
    → is_runnable own.status ≡ false → HasNotBegun image u s → ⊥
begun image u s own is rests not_begun =
    let same : own ≡ not_begun.own = one-thread (s.objects (tcb_of image u)) own not_begun.own is not_begun.is in
    false≢true (sym rests ∙ ap (λ (t : ThreadState). is_runnable t.status) same ∙ ap is_runnable not_begun.runs)

-- it is a thread of the image, and is there
pub record IsThere (image : Image) (s : State) (offset : ℕ) : Type 0 where
  pub block : IsControlBlock image offset
  pub own : ThreadState
  pub is : s.objects (tcb_of image block.thread) ≡ Some (ThreadObject own)
  pub rests : is_runnable own.status ≡ false

abbrev is_inactive : Status → Bool
is_inactive Inactive = true
is_inactive Runnable = false
is_inactive (Blocked queue) = false
is_inactive AwaitsReply = false
is_inactive AwaitsHandler = false

pub waits-there : (image : Image) (s : State) (labels : List Label) → AllStand image s labels → (offset : ℕ) (own : ThreadState) (status : Status)
    → s.objects offset ≡ Some (ThreadObject own) → own.status ≡ status → is_runnable status ≡ false → is_inactive status ≡ false → IsThere image s offset
waits-there image s labels all offset own status is at rests stands = elim (all.others offset own is) [
  | inl stopped ↦ absurd (false≢true (sym stands ∙ ap is_inactive (sym at ∙ stopped)))
  | inr block ↦ record { block = block; own = own; is = ap s.objects (sym block.is) ∙ is; rests = ap is_runnable at ∙ rests }
]

pub replied-there : (image : Image) (s : State) (labels : List Label) → AllStand image s labels → (offset : ℕ) → (thread_at s offset).status ≡ AwaitsReply
    → IsThere image s offset
replied-there image s labels all offset awaits =
    elim (as_thread (s.objects offset)) as (λ (o : Option ThreadState). as_thread (s.objects offset) ≡ o → IsThere image s offset) [
      | Some own ↦ λ there. waits-there image s labels all offset own AwaitsReply (thread-object (s.objects offset) own there)
          (sym (ap (λ (o : Option ThreadState). (option_map_or (λ (t : ThreadState). t) o new_thread).status) there) ∙ awaits) refl refl
      | None ↦ λ none. absurd (false≢true
          (ap is_inactive (sym awaits ∙ ap (λ (o : Option ThreadState). (option_map_or (λ (t : ThreadState). t) o new_thread).status) none)))
    ] refl
