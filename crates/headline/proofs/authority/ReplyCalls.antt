-- Reply and ReplyRecv stay within authority where whom the thread may answer does not wait for its handler.
use Rattle.std.proofs.Common.{ℕ, ◌≡◌, ◌≢◌, Bool, true, false, if◌then◌else◌, Option, Some, None, option_map, refl, sym, ◌∙◌, ap, subst}
use Rattle.std.specs.Prelude.{IsTrue}
use Rattle.std.specs.Option.{option_map_or}
use Rattle.model.specs.declared.capabilities.Cap.{Cap}
use Rattle.model.specs.declared.capabilities.Cap.TheVariants.{Endpoint, Notification}
use Rattle.model.specs.declared.lookup_failures.LookupFailure.TheVariants.{MissingCapability}
use Rattle.model.specs.declared.rights.Rights.{Rights}
use Rattle.model.specs.declared.system_calls.ReceiveCall.TheVariants.{Receiving}
use Rattle.model.specs.declared.system_calls.SystemCall.{SystemCall}
use Rattle.model.specs.declared.system_calls.SystemCall.TheVariants.{RepliesAndReceives, Replies}
use Rattle.model.specs.Acceptance.Authority.{WithinAuthority, self_of}
use Rattle.model.specs.Capabilities.Rights.{may_read}
use Rattle.model.specs.Images.Image.{Image, Thread}
use Rattle.model.specs.Kernel.Kinds.{kind_of}
use Rattle.model.specs.Kernel.Messages.{a7, message_between, passes, replied, reply, reply_to_call, with_caller}
use Rattle.model.specs.Kernel.Soundness.{IsSound, awaits_answer}
use Rattle.model.specs.Kernel.State.{State, Status, Inactive, Runnable, Blocked, AwaitsReply, AwaitsHandler, ThreadObject, ThreadState, as_thread, new_thread}
use Rattle.model.specs.Kernel.State.{thread_at}
use Rattle.model.specs.Kernel.Steps.{Done, call_of, calls_known, lacks_capability, receive_by, receive_call, receive_named, receive_on_endpoint}
use Rattle.model.specs.Kernel.Steps.{receive_on_notification, system_call}
use Rattle.model.specs.Machine.ProgramMemory.{read}
use Rattle.headline.proofs.facts.Laws.{at-place}
use Rattle.headline.proofs.authority.Answering.{after-self, answer-changes, answered-then, bytes-then, named-same}
use Rattle.headline.proofs.authority.CallsMade.{called-as, runs-apart}
use Rattle.headline.proofs.authority.Changes.{ChangesObjects, KeepsSlice, changes-within}
use Rattle.headline.proofs.authority.EndpointCalls.{receive-keeps}
use Rattle.headline.proofs.authority.Awaited.{number-is}
use Rattle.headline.proofs.authority.NotificationCalls.{wait-keeps}
use Rattle.headline.proofs.authority.OwnRegisters.{goes-on-within}
use Rattle.headline.proofs.authority.Ticks.{thread-object}
use Rattle.headline.proofs.authority.Yielding.{nothing-changes}
use Rattle.headline.specs.authority.Scenarios.{CallsOn, HaveOwnBuffers}
use Rattle.soundness.proofs.Laws.{reply-whole}

-- a thread that is not stopped is there
pub thread-with : (s : State) (x : ℕ) (status : Status) → status ≢ Inactive → (thread_at s x).status ≡ status
    → (u : ThreadState) × (s.objects x ≡ Some (ThreadObject u)) × (u.status ≡ status)
thread-with s x status stopped is =
    elim (as_thread (s.objects x)) as (λ (o : Option ThreadState). as_thread (s.objects x) ≡ o
    → (option_map_or (λ (u : ThreadState). u) o new_thread).status ≡ status
    → (u : ThreadState) × (s.objects x ≡ Some (ThreadObject u)) × (u.status ≡ status)) [
      | None ↦ λ _ is. absurd (stopped (sym is))
      | Some u ↦ λ here is. (u, thread-object (s.objects x) u here, is)
    ] refl is

module _ (image : Image) (t : Thread) (s : State) (sound : IsSound s) (own : ThreadState) (is : s.objects (self_of image t) ≡ Some (ThreadObject own))
    (runs : own.status ≡ Runnable)
    (unhandled : (caller : ℕ) → own.caller ≡ Some caller → (thread_at s caller).status ≢ AwaitsHandler) where
  abbrev self : ℕ
  self = self_of image t

  -- with whom it answers, or without anybody, a change that ends in what is wanted
  module _ (P : State → Type 0) (none : P s)
      (some : (caller : ℕ) → own.caller ≡ Some caller → (u : ThreadState) → s.objects caller ≡ Some (ThreadObject u) → u.status ≡ AwaitsReply
      → P (reply_to_call (with_caller s (self_of image t) None) (self_of image t) caller (message_between s (self_of image t) caller))) where
    abbrev to_caller : ℕ → Status → State
    to_caller caller status = replied (with_caller s self None) self caller status (message_between s self caller)

    by-status : (caller : ℕ) → own.caller ≡ Some caller → (status : Status) → (thread_at s caller).status ≡ status → IsTrue (awaits_answer status)
        → P (to_caller caller status)
    by-status caller right AwaitsReply now awaits =
        let there = thread-with s caller AwaitsReply (λ same. absurd cc) now in some caller right there.0 there.1 there.2
    by-status caller right AwaitsHandler now awaits = absurd (unhandled caller right now)
    by-status caller right Inactive now awaits = absurd (let clash : false ≡ true = awaits in cc)
    by-status caller right Runnable now awaits = absurd (let clash : false ≡ true = awaits in cc)
    by-status caller right (Blocked queue) now awaits = absurd (let clash : false ≡ true = awaits in cc)

    own-is : (thread_at s self).caller ≡ own.caller
    own-is = ap (λ (v : ThreadState). v.caller) (at-place s self own is)

    pub by-caller : P (reply s (self_of image t))
    by-caller =
        elim (thread_at s self).caller as (λ (c : Option ℕ). (thread_at s self).caller ≡ c
        → P (option_map_or (λ (caller : ℕ). to_caller caller (thread_at s caller).status) c s)) [
          | None ↦ λ _. none
          | Some caller ↦ λ has.
              by-status caller (sym own-is ∙ has) (thread_at s caller).status refl (sound.threads.callers self caller has)
        ] refl

  reply-changes : ChangesObjects image t s (reply s (self_of image t))
  reply-changes =
      by-caller (ChangesObjects image t s) (nothing-changes image t s sound own is runs)
      (λ caller right u there awaits. answer-changes image t s sound own is runs caller right u there awaits)

  pub reply-goes : WithinAuthority image t s (passes (reply s (self_of image t)) (self_of image t))
  reply-goes =
      let change = reply-changes in
      goes-on-within image t s (reply s self) (runs-apart image t s sound own is runs) change.now change.is (changes-within image t s (reply s self) change)

  -- ---- and receives

  -- threads that are not stopped have no buffer in common
  module _ (number : ℕ) (capability : Cap) (call : CallsOn image t s number capability)
      (receives : (m : State) → IsSound m → CallsOn image t m number capability
      → KeepsSlice image t m (receive_by m (self_of image t) Receiving capability).0)
      (own_buffers : HaveOwnBuffers s) where
    sound-replied : IsSound (reply s self)
    sound-replied = reply-whole s self sound (ap (option_map kind_of) is)

    received : ChangesObjects image t s (receive_by (reply s (self_of image t)) (self_of image t) Receiving capability).0
    received =
        by-caller (λ (m : State). IsSound m → ChangesObjects image t s (receive_by m (self_of image t) Receiving capability).0)
        (λ whole. (receives s whole call).change)
        (λ caller right u there awaits whole.
        let m : State = reply_to_call (with_caller s self None) self caller (message_between s self caller) in
        let later = receives m whole (record {
          own = record own { caller = None };
          is = after-self image t s sound own is runs caller right u there awaits;
          runs = runs;
          calls =
              ap (λ (v : ThreadState). read v.registers a7) (sym (at-place s self own is)) ∙ number-is s self call.own number call.is call.calls;
          slot = call.slot;
          named = named-same image t s sound own is runs caller right u there awaits ∙ call.named;
          among = call.among;
          holds = call.holds;
        }) in
        answered-then image t s sound own is runs caller right u there awaits own_buffers (receive_by m self Receiving capability).0 later.change later.slice
        (bytes-then image t s sound own is runs caller right u there awaits own_buffers (receive_by m self Receiving capability).0 later.change))
        sound-replied

    -- replying changes no slot, and not where the thread's capability is
    still-named : receive_call (reply s (self_of image t)) (self_of image t) Receiving
        ≡ receive_by (reply s (self_of image t)) (self_of image t) Receiving capability
    still-named =
        by-caller (λ (m : State). receive_call m (self_of image t) Receiving ≡ receive_by m (self_of image t) Receiving capability)
        (ap (receive_named s self Receiving) call.named ∙ ap (receive_by s self Receiving) call.holds)
        (λ caller right u there awaits.
        let m : State = reply_to_call (with_caller s self None) self caller (message_between s self caller) in
        ap (receive_named m self Receiving) (named-same image t s sound own is runs caller right u there awaits ∙ call.named)
        ∙ ap (receive_by m self Receiving) call.holds)

    pub reply-receives : WithinAuthority image t s (receive_call (reply s (self_of image t)) (self_of image t) Receiving).0
    reply-receives =
        subst (λ (d : Done). WithinAuthority image t s d.0) (sym still-named) (changes-within image t s _ received)

-- ---- the calls

module _ (image : Image) (t : Thread) (s : State) (sound : IsSound s) where
  pub reply-within : (number : ℕ) → call_of number ≡ Some Replies → (own : ThreadState) → s.objects (self_of image t) ≡ Some (ThreadObject own)
      → own.status ≡ Runnable → ((caller : ℕ) → own.caller ≡ Some caller → (thread_at s caller).status ≢ AwaitsHandler) → read own.registers a7 ≡ number
      → WithinAuthority image t s (system_call s (self_of image t)).0
  unfolding system_call
  reply-within number call own is runs unhandled calls_it =
      subst (λ (n : ℕ). WithinAuthority image t s (calls_known s (self_of image t) n (call_of n)).0)
      (sym (number-is s (self_of image t) own number is calls_it))
      (subst (λ (c : Option SystemCall). WithinAuthority image t s (calls_known s (self_of image t) number c).0) (sym call)
      (reply-goes image t s sound own is runs unhandled))

  module _ (number : ℕ) (both : call_of number ≡ Some RepliesAndReceives) (slotted : ℕ) (badge : ℕ) (allowed : Rights) (reads : may_read allowed ≡ true) where
    pub reply-endpoint : (call : CallsOn image t s number (Endpoint slotted allowed badge))
        → ((caller : ℕ) → call.own.caller ≡ Some caller → (thread_at s caller).status ≢ AwaitsHandler) → HaveOwnBuffers s
        → WithinAuthority image t s (system_call s (self_of image t)).0
    reply-endpoint call unhandled own_buffers =
        subst (λ (d : Done). WithinAuthority image t s d.0)
        (sym (called-as image t s number (Endpoint slotted allowed badge) call RepliesAndReceives both))
        (reply-receives image t s sound call.own call.is call.runs unhandled number (Endpoint slotted allowed badge) call
        (λ m whole at.
        subst (λ (b : Bool). KeepsSlice image t m (if b then receive_on_endpoint m (self_of image t) Receiving slotted else
        lacks_capability m (self_of image t) 1 MissingCapability).0) (sym reads)
        (receive-keeps image t m whole number slotted badge allowed at reads RepliesAndReceives both refl)) own_buffers)

    pub reply-notification : (call : CallsOn image t s number (Notification slotted allowed badge))
        → ((caller : ℕ) → call.own.caller ≡ Some caller → (thread_at s caller).status ≢ AwaitsHandler) → HaveOwnBuffers s
        → WithinAuthority image t s (system_call s (self_of image t)).0
    reply-notification call unhandled own_buffers =
        subst (λ (d : Done). WithinAuthority image t s d.0)
        (sym (called-as image t s number (Notification slotted allowed badge) call RepliesAndReceives both))
        (reply-receives image t s sound call.own call.is call.runs unhandled number (Notification slotted allowed badge) call
        (λ m whole at.
        subst (λ (b : Bool). KeepsSlice image t m (if b then receive_on_notification m (self_of image t) Receiving slotted else
        lacks_capability m (self_of image t) 1 MissingCapability).0) (sym reads)
        (wait-keeps image t m whole number slotted badge allowed at reads RepliesAndReceives both refl)) own_buffers)
