-- What the step of another thread makes of a thread: it is as it was; it waited, and goes on at the next instruction; it waits on where it is; or what
-- it waited for has ended.
use Rattle.std.proofs.Common.{ℕ, ◌≡◌, ◌≢◌, ◌∙◌, ◌⊎◌, ◌+◌, ◌%◌, ◌^◌, inl, inr, Bool, true, false, if◌then◌else◌, Some, None, List, sym, ap}
use Rattle.std.proofs.Common.{subst}
use Rattle.std.specs.Prelude.{Contains}
use Rattle.model.specs.declared.labels.Label.{Label}
use Rattle.model.specs.Acceptance.Accepted.{IsAccepted}
use Rattle.model.specs.Acceptance.Authority.{CallNames, WithinAuthority, self_of}
use Rattle.model.specs.Acceptance.ThreadInvariants.{IsWaiting, tcb_of}
use Rattle.model.specs.Images.Described.{Numbered, numbered_threads}
use Rattle.model.specs.Images.Image.{Image}
use Rattle.model.specs.Kernel.Deliveries.{Reason, caller, faulted, once_received, receiver, sender, set_back, waiter}
use Rattle.model.specs.Kernel.Messages.{a0, message_between}
use Rattle.model.specs.Kernel.Scheduling.{is_runnable}
use Rattle.model.specs.Kernel.State.{AwaitsHandler, AwaitsReply, Blocked, ByCall, ByFault, BySend, Inactive, Runnable, Sender, Sent, State}
use Rattle.model.specs.Kernel.State.{ThreadObject, ThreadState, thread_at}
use Rattle.headline.specs.facts.Standing.{AllStand}
use Rattle.headline.specs.moves.Laws.{Laws}
use Rattle.response.proofs.AtBells.{there-is}
use Rattle.response.proofs.Interrupts.{thread-of}
use Rattle.response.proofs.OwnCalls.{pc_at, write-pc}
use Rattle.response.proofs.OwnMessages.{delivered-pc}
use Rattle.response.proofs.WaitingThreads.{WaitsAt, waits-at}

module _ (laws : Laws) (bytes : List ℕ) (image : Image) (s after : State) (labels later : List Label) (accepted : IsAccepted bytes image)
    (all : AllStand image s labels) (behind : AllStand image after later) (told : (a b : ThreadState) → (a ≡ b) ⊎ (a ≢ b)) (t : Numbered)
    (within : WithinAuthority image t.thread s after) (u : Numbered) (listed : Contains (numbered_threads image) u)
    (other : tcb_of image u ≢ tcb_of image t) where
  pub data Resumed : Type 0 where
    as_before : after.objects (tcb_of image u) ≡ s.objects (tcb_of image u) → Resumed
    goes_next : (before : ThreadState) → WaitsAt image u s labels before
        → pc_at after (tcb_of image u) ≡ (before.registers.pc + 4) % 2 ^ 32 → Resumed
    waits_on : pc_at after (tcb_of image u) ≡ pc_at s (tcb_of image u) → ((thread_at after (tcb_of image u)).status ≡ Runnable → ⊥) → Resumed
    set_again : (queue : ℕ) → (thread_at s (tcb_of image u)).status ≡ Blocked queue → after.objects queue ≡ None
        → pc_at after (tcb_of image u) ≡ pc_at s (tcb_of image u) → Resumed

  module _ (before changed : ThreadState) (was : s.objects (tcb_of image u) ≡ Some (ThreadObject before))
      (is : after.objects (tcb_of image u) ≡ Some (ThreadObject changed)) where
    at_changed : thread_at after (tcb_of image u) ≡ changed
    at_changed = ap thread-of is

    at_before : thread_at s (tcb_of image u) ≡ before
    at_before = ap thread-of was

    waiting : is_runnable before.status ≡ false → WaitsAt image u s labels before
    waiting rests = waits-at laws bytes image s labels accepted all u listed before was rests

    next : is_runnable before.status ≡ false → changed.registers.pc ≡ (before.registers.pc + 4) % 2 ^ 32 → Resumed
    next rests pc = goes_next before (waiting rests) (ap (λ (x : ThreadState). x.registers.pc) at_changed ∙ pc)

    same-pc : changed.registers.pc ≡ before.registers.pc → pc_at after (tcb_of image u) ≡ pc_at s (tcb_of image u)
    same-pc pc =
        ap (λ (x : ThreadState). x.registers.pc) at_changed ∙ pc ∙ sym (ap (λ (x : ThreadState). x.registers.pc) at_before)

    stops-so : (b : Bool) → (if b then AwaitsReply else Inactive) ≡ Runnable → ⊥
    stops-so true clash = let c : AwaitsReply ≡ Runnable = clash in absurd cc
    stops-so false clash = let c : Inactive ≡ Runnable = clash in absurd cc

    by-sent : (first : Sender) (kind : Sent) → is_runnable before.status ≡ false → changed ≡ once_received first kind before → Resumed
    by-sent first BySend rests so = next rests (ap (λ (x : ThreadState). x.registers.pc) so)
    by-sent first ByCall rests so =
        waits_on (same-pc (ap (λ (x : ThreadState). x.registers.pc) so))
        (λ runs. stops-so first.grant_reply (sym (ap (λ (x : ThreadState). x.status) so) ∙ sym (ap (λ (x : ThreadState). x.status) at_changed) ∙ runs))
    by-sent first (ByFault fault) rests so =
        waits_on (same-pc (ap (λ (x : ThreadState). x.registers.pc) so))
        (λ runs. let clash : AwaitsHandler ≡ Runnable = sym (ap (λ (x : ThreadState). x.status) so)
        ∙ sym (ap (λ (x : ThreadState). x.status) at_changed) ∙ runs in absurd cc)

    by-reason : Reason s after (self_of image t.thread) (CallNames image t.thread s) (tcb_of image u) before changed → Resumed
    by-reason (receiver e badge right gone blocked named may so arrives) =
        next (ap is_runnable blocked) (ap (λ (x : ThreadState). x.registers.pc) so
        ∙ ap (λ (k : ℕ). (k + 4) % 2 ^ 32) (delivered-pc before.registers badge (message_between s (self_of image t.thread) (tcb_of image u))))
    by-reason (sender e first gone its_own blocked named so arrives) = by-sent first first.sent (ap is_runnable blocked) so
    by-reason (waiter bell badge gone blocked named so) =
        next (ap is_runnable blocked) (ap (λ (x : ThreadState). x.registers.pc) so
        ∙ ap (λ (k : ℕ). (k + 4) % 2 ^ 32) (write-pc before.registers a0 badge))
    by-reason (caller right awaits so arrives) =
        next (ap is_runnable awaits) (ap (λ (x : ThreadState). x.registers.pc) so
        ∙ ap (λ (k : ℕ). (k + 4) % 2 ^ 32) (delivered-pc before.registers 0 (message_between s (self_of image t.thread) (tcb_of image u))))
    by-reason (faulted right awaits so) =
        absurd (let never : IsWaiting AwaitsHandler = subst IsWaiting awaits (waiting (ap is_runnable awaits)).waiting in never)
    by-reason (set_back queue blocked some gone so) =
        set_again queue (ap (λ (x : ThreadState). x.status) at_before ∙ blocked) gone (same-pc (ap (λ (x : ThreadState). x.registers.pc) so))

    by-states : Resumed
    by-states = elim (told before changed) [
      | inl same ↦ as_before (is ∙ ap (λ (x : ThreadState). Some (ThreadObject x)) (sym same) ∙ sym was)
      | inr differs ↦ by-reason (within.threads (tcb_of image u) before changed other was is differs)
    ]

  pub resumed : Resumed
  resumed =
      let was = there-is image u s labels (all.stand u listed) in
      let is = there-is image u after later (behind.stand u listed) in
      by-states was.0 is.0 was.1 is.1
