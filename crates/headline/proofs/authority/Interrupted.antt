-- An interrupt of a sound state stays within authority.
use Rattle.std.proofs.Common.{ℕ, ◌≡◌, ◌≢◌, ◌==◌, ◌+◌, ◌<◌, ◌≤◌, ◌++◌, ◌&&◌, Bool, true, false, not, nat_lt, if◌then◌else◌, Option, Some, None, List, [], ◌∷◌}
use Rattle.std.proofs.Common.{refl, sym, ◌∙◌, ap, subst, inl, inr, arith}
use Rattle.std.specs.Prelude.{bit_or}
use Rattle.std.specs.Option.{option_map_or}
use Rattle.std.proofs.lemmas.Bool.{eq-eqb, eqb-true, ne_eqb}
use Rattle.std.proofs.lemmas.Bool.Decides.{eqb_tells}
use Rattle.model.specs.declared.capabilities.Cap.{Cap}
use Rattle.model.specs.declared.capabilities.Cap.TheVariants.{Empty, Untyped, Endpoint, Notification, CNode, Frame, PageTable, Tcb, RootTable, InterruptControl}
use Rattle.model.specs.declared.capabilities.Cap.TheVariants.{InterruptHandler}
use Rattle.headline.specs.authority.Events.{InterruptChange, joins, passes_on, wakes, stays, adds, IsDelivered, WithinInterrupt}
use Rattle.model.specs.Capabilities.Slots.{capability_at}
use Rattle.model.specs.Kernel.Deliveries.{woken}
use Rattle.model.specs.Kernel.Interrupts.{Signal, binding, interrupt, raise, signal_of, with_pending}
use Rattle.model.specs.Kernel.Kinds.{object_named}
use Rattle.model.specs.Kernel.Messages.{a0, deliver_word, signals, with_registers}
use Rattle.model.specs.Kernel.Retype.{NewNotification}
use Rattle.model.specs.Kernel.Scheduling.{full_slice, head_of, is_runnable, wake}
use Rattle.model.specs.Kernel.Soundness.{IsSound, is_blocked_on, runs_at, waiting_at}
use Rattle.model.specs.Kernel.State.{State, Status, Inactive, Runnable, Blocked, AwaitsReply, AwaitsHandler, Object, ThreadObject, NotificationObject}
use Rattle.model.specs.Kernel.State.{NotificationState, ThreadState, as_notification, as_thread, binding_slot, new_notification, new_thread, notification_at}
use Rattle.model.specs.Kernel.State.{put, thread_at, with_notification, with_thread}
use Rattle.model.specs.Machine.Effects.{advanced}
use Rattle.model.specs.Machine.ProgramMemory.{write}
use Rattle.model.specs.Shared.Lists.{times_in, without}
use Rattle.soundness.proofs.Laws.{notification-kind}
use Rattle.headline.proofs.authority.Ticks.{thread-object}

-- ---- what a binding names

abbrev signalling : ℕ → ℕ → Signal
signalling n badge = record { notification = n; badge = badge }

bound-is : (c : Cap) (n badge : ℕ) → signal_of c ≡ Some (signalling n badge) → object_named c ≡ Some (NewNotification, n)
bound-is Empty n badge is = let e : None ≡ Some (signalling n badge) = is in absurd cc
bound-is (Untyped offset bits watermark) n badge is = let e : None ≡ Some (signalling n badge) = is in absurd cc
bound-is (Endpoint offset r b) n badge is = let e : None ≡ Some (signalling n badge) = is in absurd cc
bound-is (Notification offset r b) n badge is = ap (λ (o : Option Signal). Some (NewNotification, option_map_or (λ bound. bound.notification) o 0)) is
bound-is (CNode offset radix guard) n badge is = let e : None ≡ Some (signalling n badge) = is in absurd cc
bound-is (Frame offset r mapping) n badge is = let e : None ≡ Some (signalling n badge) = is in absurd cc
bound-is (PageTable offset mapping) n badge is = let e : None ≡ Some (signalling n badge) = is in absurd cc
bound-is (Tcb offset) n badge is = let e : None ≡ Some (signalling n badge) = is in absurd cc
bound-is (RootTable offset) n badge is = let e : None ≡ Some (signalling n badge) = is in absurd cc
bound-is InterruptControl n badge is = let e : None ≡ Some (signalling n badge) = is in absurd cc
bound-is (InterruptHandler irq_line) n badge is = let e : None ≡ Some (signalling n badge) = is in absurd cc

-- ---- who waits

pub record Waits (s : State) (thread queue : ℕ) : Type 0 where
  pub own : ThreadState
  pub is : s.objects thread ≡ Some (ThreadObject own)
  pub blocked : own.status ≡ Blocked queue
  pub rests : is_runnable own.status ≡ false

blocked-is : (queue : ℕ) (status : Status) → is_blocked_on queue status ≡ true → status ≡ Blocked queue
blocked-is queue Inactive is = let e : false ≡ true = is in absurd cc
blocked-is queue Runnable is = let e : false ≡ true = is in absurd cc
blocked-is queue (Blocked other) is = ap Blocked (eqb-true other queue is)
blocked-is queue AwaitsReply is = let e : false ≡ true = is in absurd cc
blocked-is queue AwaitsHandler is = let e : false ≡ true = is in absurd cc

pub waits-own : (s : State) (thread queue : ℕ) (o : Option ThreadState) → as_thread (s.objects thread) ≡ o
    → 1 ≤ (if option_map_or (λ t. is_blocked_on queue t.status) o false then 1 else 0) → Waits s thread queue
waits-own s thread queue None is some = absurd (omega (arith, some))
waits-own s thread queue (Some t) is some =
    elim (is_blocked_on queue t.status) as (λ b. is_blocked_on queue t.status ≡ b → 1 ≤ (if b then 1 else 0) → Waits s thread queue) [
      | true ↦ λ blocked more. let waits = blocked-is queue t.status blocked in
          record { own = t; is = thread-object (s.objects thread) t is; blocked = waits; rests = ap is_runnable waits }
      | false ↦ λ free more. absurd (omega (arith, more))
    ] refl some

pub one-more : (thread : ℕ) (rest : List ℕ) → 1 ≤ times_in (thread ∷ rest) thread
one-more thread rest =
    let more : times_in (thread ∷ rest) thread ≡ times_in rest thread + 1 =
    ap (λ (b : Bool). if b then times_in rest thread + 1 else times_in rest thread) (eq-eqb thread thread refl) in
    omega (arith, more)

-- a list that does not hold a thread
pub without-absent : (thread : ℕ) (threads : List ℕ) → times_in threads thread ≡ 0 → without thread threads ≡ threads
without-absent thread [] none = refl
without-absent thread (t ∷ threads) none = elim (eqb_tells t thread) [
  | inl here ↦
      let more : times_in (t ∷ threads) thread ≡ times_in threads thread + 1 =
      ap (λ (b : Bool). if b then times_in threads thread + 1 else times_in threads thread) here.0 in
      absurd (omega (arith, more, none))
  | inr apart ↦
      let same : times_in (t ∷ threads) thread ≡ times_in threads thread =
      ap (λ (b : Bool). if b then times_in threads thread + 1 else times_in threads thread) apart.0 in
      ap (λ (b : Bool). if not b then t ∷ without thread threads else without thread threads) apart.0
      ∙ ap (λ (l : List ℕ). t ∷ l) (without-absent thread threads (sym same ∙ none))
]

pub rests-nowhere : (s : State) (thread : ℕ) (own : ThreadState) → s.objects thread ≡ Some (ThreadObject own) → is_runnable own.status ≡ false
    → (priority : ℕ) → runs_at s thread priority ≡ false
rests-nowhere s thread own is rests priority =
    ap (λ (o : Option Object). option_map_or (λ t. is_runnable t.status && t.priority == priority) (as_thread o) false) is
    ∙ ap (λ (b : Bool). b && own.priority == priority) rests

-- ---- the three ways

unchanged : (number : ℕ) (s : State) → WithinInterrupt number s s
unchanged number s = record {
  beyond = λ far. refl;
  store = record { memory_bits = refl; boot_radix = refl; slots = λ slot. refl; bytes = λ place. refl };
  masked = λ other differs. refl;
  pending = λ other differs. refl;
  objects = λ offset differs. absurd (differs refl);
  ready = λ priority. stays refl;
}

pends : (number : ℕ) → (63 < number → ⊥) → (s : State) → WithinInterrupt number s (with_pending s number true)
pends number near s = record {
  beyond = λ far. absurd (near far);
  store = record { memory_bits = refl; boot_radix = refl; slots = λ slot. refl; bytes = λ place. refl };
  masked = λ other differs. refl;
  pending = λ other differs. ap (λ (b : Bool). if b then true else s.pending other) (ne_eqb other number differs);
  objects = λ offset differs. absurd (differs refl);
  ready = λ priority. stays refl;
}

module _ (s : State) (sound : IsSound s) (number n badge : ℕ) (near : 63 < number → ⊥) (delivered : IsDelivered number s n badge) (old : NotificationState)
    (there : s.objects n ≡ Some (NotificationObject old)) where
  joined : old.waiters ≡ [] → WithinInterrupt number s
      (record (with_notification s n (record old { word = bit_or old.word badge })) { masked = put s.masked number true })
  joined empty = record {
    beyond = λ far. absurd (near far);
    store = record { memory_bits = refl; boot_radix = refl; slots = λ slot. refl; bytes = λ place. refl };
    masked = λ other differs. ap (λ (b : Bool). if b then true else s.masked other) (ne_eqb other number differs);
    pending = λ other differs. refl;
    objects = λ offset differs. elim (eqb_tells offset n) [
      | inl here ↦
          subst (λ (o : ℕ). InterruptChange number s
          (record (with_notification s n (record old { word = bit_or old.word badge })) { masked = put s.masked number true }) o) (sym here.1)
          (joins badge old delivered there empty
          (ap (λ (b : Bool). if b then Some (NotificationObject (record old { word = bit_or old.word badge })) else s.objects n) (eq-eqb n n refl)))
      | inr apart ↦ absurd (differs
          (sym (ap (λ (b : Bool). if b then Some (NotificationObject (record old { word = bit_or old.word badge })) else s.objects offset) apart.0)))
    ];
    ready = λ priority. stays refl;
  }

  -- the first waiter is woken
  module _ (w : ℕ) (others : List ℕ) (list : old.waiters ≡ w ∷ others) where
    waits : Waits s w n
    waits =
        let law = sound.threads.queued w n in
        let here : waiting_at (s.objects n) ≡ w ∷ others = ap waiting_at there ∙ list in
        let count : times_in (waiting_at (s.objects n)) w ≡ times_in (w ∷ others) w = ap (λ (l : List ℕ). times_in l w) here in
        let more = one-more w others in
        waits-own s w n (as_thread (s.objects w)) refl (omega (arith, law, count, more))

    apart-from_queue : w ≢ n
    apart-from_queue same =
        let e : Some (ThreadObject (Waits.own waits)) ≡ Some (NotificationObject old) = sym (Waits.is waits) ∙ ap s.objects same ∙ there in
        let f : ThreadObject (Waits.own waits) ≡ NotificationObject old = cc in cc

    left-thread : thread_at (with_notification s n (record old { waiters = others })) w ≡ Waits.own waits
    left-thread =
        ap (λ (b : Bool). option_map_or (λ (t : ThreadState). t)
        (as_thread (if b then Some (NotificationObject (record old { waiters = others })) else s.objects w)) new_thread)
        (ne_eqb w n apart-from_queue)
        ∙ ap (λ (o : Option Object). option_map_or (λ (t : ThreadState). t) (as_thread o) new_thread) (Waits.is waits)

    -- a thread that was put is there
    put-thread : (x : State) (t : ThreadState) → thread_at (with_thread x w t) w ≡ t
    put-thread x t = ap (λ (b : Bool). option_map_or (λ (u : ThreadState). u) (as_thread (if b then Some (ThreadObject t) else x.objects w)) new_thread)
        (eq-eqb w w refl)

    -- the thread as it is once it was woken, and what it is on the way
    final-is : let left : State = with_notification s n (record old { waiters = others }) in
        let one : State = with_registers left w (write (thread_at left w).registers a0 badge) in
        let two : State = with_registers one w (advanced (thread_at one w).registers) in
        let own : ThreadState = Waits.own waits in
        let final : ThreadState = record (thread_at two w) { status = Runnable; slice = full_slice } in
        final ≡ woken own (advanced (write own.registers a0 badge))
    final-is =
        let left : State = with_notification s n (record old { waiters = others }) in
        let one : State = with_registers left w (write (thread_at left w).registers a0 badge) in
        let own : ThreadState = Waits.own waits in
        let got : thread_at one w ≡ record own { registers = write own.registers a0 badge } =
        put-thread left (record (thread_at left w) { registers = write (thread_at left w).registers a0 badge })
        ∙ ap (λ (x : ThreadState). record x { registers = write x.registers a0 badge }) left-thread in
        ap (λ (x : ThreadState). record x { status = Runnable; slice = full_slice })
        (put-thread one (record (thread_at one w) { registers = advanced (thread_at one w).registers })
        ∙ ap (λ (x : ThreadState). record x { registers = advanced x.registers }) got)

    woken-within : WithinInterrupt number s (record (wake (deliver_word (with_notification s n (record old { waiters = others })) w badge) w)
        { masked = put s.masked number true })
    woken-within =
        let left : State = with_notification s n (record old { waiters = others }) in
        let first : ThreadState = record (thread_at left w) { registers = write (thread_at left w).registers a0 badge } in
        let one : State = with_thread left w first in
        let second : ThreadState = record (thread_at one w) { registers = advanced (thread_at one w).registers } in
        let two : State = with_thread one w second in
        let own : ThreadState = Waits.own waits in
        let final : ThreadState = record (thread_at two w) { status = Runnable; slice = full_slice } in
        let after : State = record (wake (deliver_word left w badge) w) { masked = put s.masked number true } in
        let rest : Option Object = Some (NotificationObject (record old { waiters = others })) in
        let there_now : after.objects w ≡ Some (ThreadObject final) =
        ap (λ (b : Bool). if b then Some (ThreadObject final) else two.objects w) (eq-eqb w w refl) in
        let woken_now : after.objects w ≡ Some (ThreadObject (woken own (advanced (write own.registers a0 badge)))) =
        there_now ∙ ap (λ (x : ThreadState). Some (ThreadObject x)) final-is in
        let elsewhere : (offset : ℕ) → offset ≢ w → after.objects offset ≡ (if offset == n then rest else s.objects offset) =
        λ offset differs.
        ap (λ (b : Bool). if b then Some (ThreadObject final) else if b then Some (ThreadObject second) else if b then Some (ThreadObject first) else
        if offset == n then rest else s.objects offset)
        (ne_eqb offset w differs) in
        let head : head_of (notification_at s n).waiters ≡ Some w =
        ap (λ (o : Option Object). head_of (option_map_or (λ (x : NotificationState). x) (as_notification o) new_notification).waiters) there
        ∙ ap head_of list in
        let tail : ℕ = (thread_at (with_thread two w final) w).priority in
        let tail_is : tail ≡ own.priority = ap (λ (x : ThreadState). x.priority) (put-thread two final ∙ final-is) in
        let absent : (priority : ℕ) → without w (s.ready priority) ≡ s.ready priority =
        λ priority. without-absent w (s.ready priority)
        (sound.threads.ready w priority ∙ ap (λ (b : Bool). if b then 1 else 0) (rests-nowhere s w own (Waits.is waits) (Waits.rests waits) priority)) in
        record {
          beyond = λ far. absurd (near far);
          store = record { memory_bits = refl; boot_radix = refl; slots = λ slot. refl; bytes = λ place. refl };
          masked = λ other differs. ap (λ (b : Bool). if b then true else s.masked other) (ne_eqb other number differs);
          pending = λ other differs. refl;
          objects = λ offset differs. elim (eqb_tells offset w) [
            | inl here ↦ subst (λ (o : ℕ). InterruptChange number s after o) (sym here.1) (wakes n badge own delivered head (Waits.is waits) woken_now)
            | inr apart ↦ elim (eqb_tells offset n) [
              | inl queue ↦
                  subst (λ (o : ℕ). InterruptChange number s after o) (sym queue.1)
                  (passes_on badge w others old delivered there list
                  (elsewhere n (λ e. apart-from_queue (sym e)) ∙ ap (λ (b : Bool). if b then rest else s.objects n) (eq-eqb n n refl)))
              | inr other ↦ absurd (differs (sym (elsewhere offset apart.1 ∙ ap (λ (b : Bool). if b then rest else s.objects offset) other.0)))
            ]
          ];
          ready = λ priority. elim (eqb_tells priority tail) [
            | inl here ↦
                adds n badge w delivered head
                (record {
                  before = own;
                  changed = woken own (advanced (write own.registers a0 badge));
                  was = Waits.is waits;
                  rested = Waits.rests waits;
                  is = woken_now;
                  runs = refl;
                  at = sym tail_is ∙ sym here.1;
                })
                (ap (λ (b : Bool). if b then without w (s.ready tail) ++ w ∷ [] else without w (s.ready priority)) here.0
                ∙ ap (λ (l : List ℕ). l ++ w ∷ []) (absent tail) ∙ ap (λ (p : ℕ). s.ready p ++ w ∷ []) (sym here.1))
            | inr apart ↦
                stays (ap (λ (b : Bool). if b then without w (s.ready tail) ++ w ∷ [] else without w (s.ready priority)) apart.0 ∙ absent priority)
          ];
        }

signalled-within : (s : State) (sound : IsSound s) (number n badge : ℕ) (near : 63 < number → ⊥) (delivered : IsDelivered number s n badge)
    (old : NotificationState)
    (there : s.objects n ≡ Some (NotificationObject old)) (waiters : List ℕ) → old.waiters ≡ waiters
    → WithinInterrupt number s (record (signals s n badge old waiters) { masked = put s.masked number true })
signalled-within s sound number n badge near delivered old there [] list = joined s sound number n badge near delivered old there list
signalled-within s sound number n badge near delivered old there (w ∷ others) list = woken-within s sound number n badge near delivered old there w others list

-- what a line is bound to is there
pub bound-notification : (s : State) → IsSound s → (number n badge : ℕ) → binding s number ≡ Some (record { notification = n; badge = badge })
    → (x : NotificationState) × (s.objects n ≡ Some (NotificationObject x))
bound-notification s sound number n badge bound =
    notification-kind (s.objects n)
    (sound.memory.named (binding_slot s number) NewNotification n (bound-is (capability_at s.slots (binding_slot s number)) n badge bound))

-- so the signal is one on it
interrupted-within : (s : State) → IsSound s → (number n badge : ℕ) → (63 < number → ⊥) → s.masked number ≡ false → binding s number ≡ Some (signalling n badge)
    → WithinInterrupt number s (interrupt s number (signalling n badge))
interrupted-within s sound number n badge near unmasked bound =
    let delivered : IsDelivered number s n badge = record { bound = bound; unmasked = unmasked } in
    let found = bound-notification s sound number n badge bound in
    let own : notification_at s n ≡ found.0 = ap (λ (o : Option Object). option_map_or (λ (x : NotificationState). x) (as_notification o) new_notification)
    found.1 in
    subst (λ (x : NotificationState). WithinInterrupt number s (record (signals s n badge x x.waiters) { masked = put s.masked number true })) (sym own)
    (signalled-within s sound number n badge near delivered found.0 found.1 found.0.waiters refl)

raised-by : (s : State) → IsSound s → (number : ℕ) → (63 < number → ⊥) → s.masked number ≡ false → (o : Option Signal) → binding s number ≡ o
    → WithinInterrupt number s (option_map_or (interrupt s number) o (with_pending s number true))
raised-by s sound number near unmasked None bound = pends number near s
raised-by s sound number near unmasked (Some signal) bound = interrupted-within s sound number signal.notification signal.badge near unmasked bound

pub raise-within : (s : State) → IsSound s → (number : ℕ) → WithinInterrupt number s (raise s number)
raise-within s sound number =
    elim (nat_lt 63 number) as (λ far. nat_lt 63 number ≡ far →
    WithinInterrupt number s (if far then s else if s.masked number then with_pending s number true else
    option_map_or (interrupt s number) (binding s number) (with_pending s number true))) [
      | true ↦ λ far. unchanged number s
      | false ↦ λ not_far. let near : 63 < number → ⊥ = λ far. grind arith in
          elim (s.masked number) as (λ masked. s.masked number ≡ masked →
          WithinInterrupt number s (if masked then with_pending s number true else
          option_map_or (interrupt s number) (binding s number) (with_pending s number true))) [
            | true ↦ λ is. pends number near s
            | false ↦ λ is. raised-by s sound number near is (binding s number) refl
          ] refl
    ] refl
