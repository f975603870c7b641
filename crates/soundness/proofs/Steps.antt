-- A thread that wakes, stops, leaves what it waits for, or changes where it is.
use Rattle.std.proofs.Common.{ℕ, ◌≡◌, ◌≢◌, ◌∙◌, ◌==◌, ◌&&◌, ◌+◌, ◌^◌, ◌<◌, ◌++◌, ◌⊎◌, inl, inr, Bool, true, false, not, IsTrue, if◌then◌else◌, filter, map}
use Rattle.std.proofs.Common.{List, [], ◌∷◌, Option, Some, None, option_map, refl, sym, ap, subst, arith}
use Rattle.std.specs.Prelude.{All}
use Rattle.std.specs.Option.{option_map_or}
use Rattle.std.proofs.lemmas.Bool.{eqb-false}
use Rattle.std.proofs.lemmas.List.Elements.{All-filter}
use Rattle.model.specs.Kernel.Kinds.{kind_of}
use Rattle.model.specs.Kernel.Retype.{NewObject, NewThread}
use Rattle.model.specs.Kernel.Scheduling.{block, forgetting, full_slice, is_runnable, leaves, to_tail, unready, wake}
use Rattle.model.specs.Kernel.Soundness.{ThreadIsSound, awaits_answer, is_blocked_on, waiting_at, IsSound, SenderIsSound}
use Rattle.model.specs.Kernel.State.{State, Status, Runnable, Object, ThreadObject, EndpointObject, NotificationObject, CNodeObject, FrameObject}
use Rattle.model.specs.Kernel.State.{PageTableObject, RootTableObject, EndpointState, NotificationState, Sender, ThreadState, put, thread_at, with_thread}
use Rattle.model.specs.Shared.Lists.{times_in, without}
use Rattle.soundness.proofs.Moving.{Listed, Moving, StandsAs, ends, own_of, put-here, relisted, rewritten, runs_of, tailed, unreadied, waits_of}
use Rattle.soundness.proofs.Queues.{times-append, times-gone, times-kept}
use Rattle.soundness.proofs.Rest.{thread-kind}

-- ---- a thread's own state

-- one with another status, which does not run
pub stopped-fine : (t : ThreadState) (status : Status) → ThreadIsSound t → is_runnable status ≡ false → ThreadIsSound (record t { status = status })
stopped-fine t status fine stops = record {
  registers = fine.registers;
  words = fine.words;
  pc = fine.pc;
  priority = fine.priority;
  fault_address = fine.fault_address;
  slice = λ runs. let e : false ≡ true = sym stops ∙ runs in absurd cc;
}

-- or one that runs
pub woken-fine : (t : ThreadState) (status : Status) → ThreadIsSound t → ThreadIsSound (record t { status = status; slice = full_slice })
woken-fine t status fine = record {
  registers = fine.registers;
  words = fine.words;
  pc = fine.pc;
  priority = fine.priority;
  fault_address = fine.fault_address;
  slice = λ _. (omega arith, omega arith);
}

pub caller-fine : (t : ThreadState) (caller : Option ℕ) → ThreadIsSound t → ThreadIsSound (record t { caller = caller })
caller-fine t caller fine = record {
  registers = fine.registers;
  words = fine.words;
  pc = fine.pc;
  priority = fine.priority;
  fault_address = fine.fault_address;
  slice = fine.slice;
}

pub own-fine : (kinds : ℕ → Option NewObject) (s : State) (x : ℕ) (r w : ℕ → ℕ) (y : ℕ) → Listed kinds s x r w → kinds y ≡ Some NewThread
    → ThreadIsSound (thread_at s y)
own-fine kinds s x r w y listed is_thread =
    let own = thread-kind (s.objects y) (listed.kind y ∙ is_thread) in
    subst ThreadIsSound (sym (ap own_of own.1)) (listed.threads y own.0 own.1)

-- ---- where a thread comes to be

module _ (kinds : ℕ → Option NewObject) (s : State) (x : ℕ) (r w : ℕ → ℕ) (awaits : Bool) (moving : Moving kinds s x r w awaits)
    (is_thread : kinds x ≡ Some NewThread) where
  fine : ThreadIsSound (thread_at s x)
  fine = own-fine kinds s x r w x moving.listed is_thread

  -- it runs: it goes to the tail of its priority
  pub tail-whole : (t : ThreadState) → ThreadIsSound t → t.caller ≡ (thread_at s x).caller → is_runnable t.status ≡ true →
      ((queue : ℕ) → w queue ≡ waits_of (Some (ThreadObject t)) queue)
      → (IsTrue awaits → IsTrue (awaits_answer t.status)) → IsSound (to_tail (with_thread s x t) x)
  tail-whole t fits caller runs waits answers =
      let one = rewritten kinds s x r w awaits x t moving is_thread fits (λ c e. sym caller ∙ e) (λ other. absurd (other refl)) in
      let s1 = with_thread s x t in
      let two = unreadied kinds s1 x r w awaits one in
      let three = tailed kinds (unready s1 x) x w awaits two in
      let here : Some (ThreadObject t) ≡ put s.objects x (Some (ThreadObject t)) x = sym (put-here s.objects x (Some (ThreadObject t))) in
      ends kinds (to_tail s1 x) x (λ priority. if (thread_at (unready s1 x) x).priority == priority then 1 else 0) w awaits three
      (λ p. subst (λ (o : Option Object). ◌≡◌ {A = ℕ} (if (own_of o).priority == p then 1 else 0) (runs_of o p)) here
      (sym (ap (λ (b : Bool). if b && t.priority == p then 1 else 0) runs)))
      (λ q. subst (λ (o : Option Object). w q ≡ waits_of o q) here (waits q))
      (λ a. subst (λ (o : Option Object). IsTrue (awaits_answer (own_of o).status)) here (answers a))

  -- it does not run: it is in no list, or in a queue that it was put into
  pub stopped-whole : (status : Status) → is_runnable status ≡ false → ((queue : ℕ) → ◌≡◌ {A = ℕ} (w queue) (if is_blocked_on queue status then 1 else 0))
      → (IsTrue awaits → IsTrue (awaits_answer status)) → IsSound (block s x status)
  stopped-whole status stops waits answers =
      let one = unreadied kinds s x r w awaits moving in
      let t : ThreadState = record (thread_at s x) { status = status } in
      let s1 = unready s x in
      let two = rewritten kinds s1 x (λ _. 0) w awaits x t one is_thread (stopped-fine (thread_at s x) status fine stops) (λ c e. e)
      (λ other. absurd (other refl)) in
      let here : Some (ThreadObject t) ≡ put s.objects x (Some (ThreadObject t)) x = sym (put-here s.objects x (Some (ThreadObject t))) in
      ends kinds (with_thread s1 x t) x (λ _. 0) w awaits two
      (λ p. subst (λ (o : Option Object). ◌≡◌ {A = ℕ} 0 (runs_of o p)) here (sym (ap (λ (b : Bool). if b && t.priority == p then 1 else 0) stops)))
      (λ q. subst (λ (o : Option Object). w q ≡ waits_of o q) here (waits q))
      (λ a. subst (λ (o : Option Object). IsTrue (awaits_answer (own_of o).status)) here (answers a))

  -- it changes beside where it is
  pub rewritten-whole : (t : ThreadState) → ThreadIsSound t → ((caller : ℕ) → t.caller ≡ Some caller → (thread_at s x).caller ≡ Some caller)
      → ((priority : ℕ) → r priority ≡ runs_of (Some (ThreadObject t)) priority) → ((queue : ℕ) → w queue ≡ waits_of (Some (ThreadObject t)) queue)
      → (IsTrue awaits → IsTrue (awaits_answer t.status)) → IsSound (with_thread s x t)
  rewritten-whole t fits had runs waits answers =
      let one = rewritten kinds s x r w awaits x t moving is_thread fits had (λ other. absurd (other refl)) in
      let here : Some (ThreadObject t) ≡ put s.objects x (Some (ThreadObject t)) x = sym (put-here s.objects x (Some (ThreadObject t))) in
      ends kinds (with_thread s x t) x r w awaits one
      (λ p. subst (λ (o : Option Object). r p ≡ runs_of o p) here (runs p))
      (λ q. subst (λ (o : Option Object). w q ≡ waits_of o q) here (waits q))
      (λ a. subst (λ (o : Option Object). IsTrue (awaits_answer (own_of o).status)) here (answers a))

-- a thread that is in no queue wakes, if nobody holds a right for it
pub woken-whole : (kinds : ℕ → Option NewObject) (s : State) (x : ℕ) (r : ℕ → ℕ) → Moving kinds s x r (λ _. 0) false
    → kinds x ≡ Some NewThread → IsSound (wake s x)
woken-whole kinds s x r moving is_thread =
    tail-whole kinds s x r (λ _. 0) false moving is_thread (record (thread_at s x) { status = Runnable; slice = full_slice })
    (woken-fine (thread_at s x) Runnable (own-fine kinds s x r (λ _. 0) x moving.listed is_thread)) refl refl (λ _. refl)
    (λ e. let f : false ≡ true = e in absurd cc)

-- ---- leaving

forgotten-kind : (x : ℕ) (o : Option Object) → option_map kind_of (option_map (forgetting x) o) ≡ option_map kind_of o
forgotten-kind x None = refl
forgotten-kind x (Some (ThreadObject t)) = refl
forgotten-kind x (Some (EndpointObject e)) = refl
forgotten-kind x (Some (NotificationObject n)) = refl
forgotten-kind x (Some (CNodeObject radix)) = refl
forgotten-kind x (Some FrameObject) = refl
forgotten-kind x (Some PageTableObject) = refl
forgotten-kind x (Some RootTableObject) = refl

forgotten-stands : (x : ℕ) (o : Option Object) → StandsAs (option_map (forgetting x) o) o
forgotten-stands x None = record { runs = λ _. refl; waits = λ _. refl; awaits = refl }
forgotten-stands x (Some (ThreadObject t)) = record { runs = λ _. refl; waits = λ _. refl; awaits = refl }
forgotten-stands x (Some (EndpointObject e)) = record { runs = λ _. refl; waits = λ _. refl; awaits = refl }
forgotten-stands x (Some (NotificationObject n)) = record { runs = λ _. refl; waits = λ _. refl; awaits = refl }
forgotten-stands x (Some (CNodeObject radix)) = record { runs = λ _. refl; waits = λ _. refl; awaits = refl }
forgotten-stands x (Some FrameObject) = record { runs = λ _. refl; waits = λ _. refl; awaits = refl }
forgotten-stands x (Some PageTableObject) = record { runs = λ _. refl; waits = λ _. refl; awaits = refl }
forgotten-stands x (Some RootTableObject) = record { runs = λ _. refl; waits = λ _. refl; awaits = refl }

-- the threads of senders, without one
senders-without : (x : ℕ) (senders : List Sender)
    → map (λ sender. sender.thread) (filter (λ sender. not (sender.thread == x)) senders) ≡ without x (map (λ sender. sender.thread) senders)
senders-without x [] = refl
senders-without x (sender ∷ senders) =
    let kept = filter (λ sender. not (sender.thread == x)) senders in
    let more = senders-without x senders in
    elim (not (sender.thread == x)) as (λ b. map (λ sender. sender.thread) (if b then sender ∷ kept else kept)
    ≡ (if b then sender.thread ∷ without x (map (λ sender. sender.thread) senders) else without x (map (λ sender. sender.thread) senders))) [
      | true ↦ ap (λ (l : List ℕ). sender.thread ∷ l) more
      | false ↦ more
    ]

endpoint-others : (x thread : ℕ) (e : EndpointState) → thread ≢ x
    → times_in (waiting_at (Some (forgetting x (EndpointObject e)))) thread ≡ times_in (waiting_at (Some (EndpointObject e))) thread
endpoint-others x thread e other =
    let senders = map (λ sender. sender.thread) e.senders in
    ap (λ (l : List ℕ). times_in (l ++ without x e.receivers) thread) (senders-without x e.senders)
    ∙ times-append (without x senders) (without x e.receivers) thread
    ∙ ap (λ (n : ℕ). n + times_in (without x e.receivers) thread) (times-kept x senders thread other)
    ∙ ap (λ (n : ℕ). times_in senders thread + n) (times-kept x e.receivers thread other)
    ∙ sym (times-append senders e.receivers thread)

endpoint-gone : (x : ℕ) (e : EndpointState) → times_in (waiting_at (Some (forgetting x (EndpointObject e)))) x ≡ 0
endpoint-gone x e =
    let senders = map (λ sender. sender.thread) e.senders in
    ap (λ (l : List ℕ). times_in (l ++ without x e.receivers) x) (senders-without x e.senders)
    ∙ times-append (without x senders) (without x e.receivers) x
    ∙ ap (λ (n : ℕ). n + times_in (without x e.receivers) x) (times-gone x senders)
    ∙ ap (λ (n : ℕ). 0 + n) (times-gone x e.receivers)

forgotten-others : (x thread : ℕ) (o : Option Object) → thread ≢ x
    → times_in (waiting_at (option_map (forgetting x) o)) thread ≡ times_in (waiting_at o) thread
forgotten-others x thread None other = refl
forgotten-others x thread (Some (ThreadObject t)) other = refl
forgotten-others x thread (Some (EndpointObject e)) other = endpoint-others x thread e other
forgotten-others x thread (Some (NotificationObject n)) other = times-kept x n.waiters thread other
forgotten-others x thread (Some (CNodeObject radix)) other = refl
forgotten-others x thread (Some FrameObject) other = refl
forgotten-others x thread (Some PageTableObject) other = refl
forgotten-others x thread (Some RootTableObject) other = refl

forgotten-gone : (x : ℕ) (o : Option Object) → times_in (waiting_at (option_map (forgetting x) o)) x ≡ 0
forgotten-gone x None = refl
forgotten-gone x (Some (ThreadObject t)) = refl
forgotten-gone x (Some (EndpointObject e)) = endpoint-gone x e
forgotten-gone x (Some (NotificationObject n)) = times-gone x n.waiters
forgotten-gone x (Some (CNodeObject radix)) = refl
forgotten-gone x (Some FrameObject) = refl
forgotten-gone x (Some PageTableObject) = refl
forgotten-gone x (Some RootTableObject) = refl

-- what objects are that were changed so
record WasEndpoint (x : ℕ) (o : Option Object) (e : EndpointState) : Type 0 where
  before : EndpointState
  was : o ≡ Some (EndpointObject before)
  senders : e.senders ≡ filter (λ sender. not (sender.thread == x)) before.senders
  receivers : e.receivers ≡ without x before.receivers

was-endpoint : (x : ℕ) (o : Option Object) (e : EndpointState) → option_map (forgetting x) o ≡ Some (EndpointObject e) → WasEndpoint x o e
was-endpoint x (Some (EndpointObject before)) e is =
    let left : EndpointState = record { senders = filter (λ sender. not (sender.thread == x)) before.senders; receivers = without x before.receivers } in
    let same : left ≡ e = cc is in
    record {
      before = before;
      was = refl;
      senders = sym (ap (λ (e : EndpointState). e.senders) same);
      receivers =
          sym (ap (λ (e : EndpointState). e.receivers) same);
    }
was-endpoint x None e is = let f : None ≡ Some (EndpointObject e) = is in absurd cc
was-endpoint x (Some (ThreadObject t)) e is = let f : Some (forgetting x (ThreadObject t)) ≡ Some (EndpointObject e) = is in absurd cc
was-endpoint x (Some (NotificationObject n)) e is = let f : Some (forgetting x (NotificationObject n)) ≡ Some (EndpointObject e) = is in absurd cc
was-endpoint x (Some (CNodeObject radix)) e is = let f : Some (CNodeObject radix) ≡ Some (EndpointObject e) = is in absurd cc
was-endpoint x (Some FrameObject) e is = let f : Some FrameObject ≡ Some (EndpointObject e) = is in absurd cc
was-endpoint x (Some PageTableObject) e is = let f : Some PageTableObject ≡ Some (EndpointObject e) = is in absurd cc
was-endpoint x (Some RootTableObject) e is = let f : Some RootTableObject ≡ Some (EndpointObject e) = is in absurd cc

was-notification : (x : ℕ) (o : Option Object) (n : NotificationState) → option_map (forgetting x) o ≡ Some (NotificationObject n)
    → (m : NotificationState) × (o ≡ Some (NotificationObject m)) × (n.word ≡ m.word) × (n.waiters ≡ without x m.waiters)
was-notification x (Some (NotificationObject m)) n is =
    let left : NotificationState = record m { waiters = without x m.waiters } in
    let same : left ≡ n = cc is in (m, refl, sym (ap (λ (n : NotificationState). n.word) same), sym (ap (λ (n : NotificationState). n.waiters) same))
was-notification x None n is = let f : None ≡ Some (NotificationObject n) = is in absurd cc
was-notification x (Some (ThreadObject t)) n is = let f : Some (forgetting x (ThreadObject t)) ≡ Some (NotificationObject n) = is in absurd cc
was-notification x (Some (EndpointObject e)) n is = let f : Some (forgetting x (EndpointObject e)) ≡ Some (NotificationObject n) = is in absurd cc
was-notification x (Some (CNodeObject radix)) n is = let f : Some (CNodeObject radix) ≡ Some (NotificationObject n) = is in absurd cc
was-notification x (Some FrameObject) n is = let f : Some FrameObject ≡ Some (NotificationObject n) = is in absurd cc
was-notification x (Some PageTableObject) n is = let f : Some PageTableObject ≡ Some (NotificationObject n) = is in absurd cc
was-notification x (Some RootTableObject) n is = let f : Some RootTableObject ≡ Some (NotificationObject n) = is in absurd cc

abbrev forgotten_caller : ℕ → Option ℕ → Option ℕ
forgotten_caller x caller = if option_map_or (λ c. c == x) caller false then None else caller

was-thread : (x : ℕ) (o : Option Object) (t : ThreadState) → option_map (forgetting x) o ≡ Some (ThreadObject t) → (u : ThreadState)
    × (o ≡ Some (ThreadObject u)) × (t ≡ record u { caller = forgotten_caller x u.caller })
was-thread x (Some (ThreadObject u)) t is =
    let left : ThreadState = record u { caller = forgotten_caller x u.caller } in
    let same : left ≡ t = cc is in (u, refl, sym same)
was-thread x None t is = let f : None ≡ Some (ThreadObject t) = is in absurd cc
was-thread x (Some (EndpointObject e)) t is = let f : Some (forgetting x (EndpointObject e)) ≡ Some (ThreadObject t) = is in absurd cc
was-thread x (Some (NotificationObject n)) t is = let f : Some (forgetting x (NotificationObject n)) ≡ Some (ThreadObject t) = is in absurd cc
was-thread x (Some (CNodeObject radix)) t is = let f : Some (CNodeObject radix) ≡ Some (ThreadObject t) = is in absurd cc
was-thread x (Some FrameObject) t is = let f : Some FrameObject ≡ Some (ThreadObject t) = is in absurd cc
was-thread x (Some PageTableObject) t is = let f : Some PageTableObject ≡ Some (ThreadObject t) = is in absurd cc
was-thread x (Some RootTableObject) t is = let f : Some RootTableObject ≡ Some (ThreadObject t) = is in absurd cc

caller-left : (x caller : ℕ) (o : Option ℕ) → forgotten_caller x o ≡ Some caller → (o ≡ Some caller) × (caller ≢ x)
caller-left x caller None is = let f : None ≡ Some caller = is in absurd cc
caller-left x caller (Some c) is =
    elim (c == x) as (λ b. (c == x) ≡ b → (if b then None else Some c) ≡ Some caller → (Some c ≡ Some caller) × (caller ≢ x)) [
      | true ↦ λ _ e. let f : None ≡ Some caller = e in absurd cc
      | false ↦ λ test e. (e, λ same. let g : c ≡ caller = cc e in eqb-false c x test (g ∙ same))
    ] refl is

caller-forgotten : (x caller : ℕ) (o : Option Object) → (own_of (option_map (forgetting x) o)).caller ≡ Some caller
    → ((own_of o).caller ≡ Some caller) × (caller ≢ x)
caller-forgotten x caller (Some (ThreadObject t)) is = caller-left x caller t.caller is
caller-forgotten x caller None is = let f : None ≡ Some caller = is in absurd cc
caller-forgotten x caller (Some (EndpointObject e)) is = let f : None ≡ Some caller = is in absurd cc
caller-forgotten x caller (Some (NotificationObject n)) is = let f : None ≡ Some caller = is in absurd cc
caller-forgotten x caller (Some (CNodeObject radix)) is = let f : None ≡ Some caller = is in absurd cc
caller-forgotten x caller (Some FrameObject) is = let f : None ≡ Some caller = is in absurd cc
caller-forgotten x caller (Some PageTableObject) is = let f : None ≡ Some caller = is in absurd cc
caller-forgotten x caller (Some RootTableObject) is = let f : None ≡ Some caller = is in absurd cc

one-side : (x : ℕ) (before e : EndpointState) → e.senders ≡ filter (λ sender. not (sender.thread == x)) before.senders
    → e.receivers ≡ without x before.receivers
    → (before.senders ≡ []) ⊎ (before.receivers ≡ []) → (e.senders ≡ []) ⊎ (e.receivers ≡ [])
one-side x before e senders receivers sides = elim sides [
  | inl none ↦ inl (senders ∙ ap (filter (λ sender. not (sender.thread == x))) none)
  | inr none ↦ inr (receivers ∙ ap (without x) none)
]

still-idle : (x : ℕ) (before n : NotificationState) → n.word ≡ before.word → n.waiters ≡ without x before.waiters
    → (before.waiters ≡ []) ⊎ (before.word ≡ 0) → (n.waiters ≡ []) ⊎ (n.word ≡ 0)
still-idle x before n word waiters idle = elim idle [ inl none ↦ inl (waiters ∙ ap (without x) none) | inr clear ↦ inr (word ∙ clear) ]

-- the thread is nowhere, and nobody holds a right for it
pub left-moving : (kinds : ℕ → Option NewObject) (s : State) (x : ℕ) (r w : ℕ → ℕ) (awaits : Bool) → Moving kinds s x r w awaits
    → Moving kinds (leaves s x) x (λ _. 0) (λ _. 0) false
left-moving kinds s x r w awaits moving = record {
  listed = relisted kinds s x r w (λ offset. option_map (forgetting x) (s.objects offset)) (λ priority. without x (s.ready priority)) (λ _. 0) (λ _. 0)
      moving.listed (record {
        kind = λ offset. forgotten-kind x (s.objects offset);
        threads = λ thread t is.
            let was = was-thread x (s.objects thread) t is in subst ThreadIsSound (sym was.2)
            (caller-fine was.0 (forgotten_caller x was.0.caller) (moving.listed.threads thread was.0 was.1));
        lists = λ thread priority other. times-kept x (s.ready priority) thread other;
        queues = λ thread queue other. forgotten-others x thread (s.objects queue) other;
        stands = λ thread _. forgotten-stands x (s.objects thread);
        here = λ priority. times-gone x (s.ready priority);
        there = λ queue. forgotten-gone x (s.objects queue);
        one_sided = λ offset e is.
            let was = was-endpoint x (s.objects offset) e is in
            one-side x (WasEndpoint.before was) e (WasEndpoint.senders was) (WasEndpoint.receivers was)
            (moving.listed.one_sided offset (WasEndpoint.before was) (WasEndpoint.was was));
        senders = λ offset e is.
            let was = was-endpoint x (s.objects offset) e is in
            subst (All SenderIsSound) (sym (WasEndpoint.senders was))
            (All-filter (λ (sender : Sender). not (sender.thread == x)) SenderIsSound (WasEndpoint.before was).senders
            (moving.listed.senders offset (WasEndpoint.before was) (WasEndpoint.was was)));
        words = λ offset n is.
            let was = was-notification x (s.objects offset) n is in subst (λ (word : ℕ). word < 2 ^ 28) (sym was.2) (moving.listed.words offset was.0 was.1);
        idle = λ offset n is.
            let was = was-notification x (s.objects offset) n is in still-idle x was.0 n was.2 was.3 (moving.listed.idle offset was.0 was.1);
      });
  rights = record {
    callers = λ thread caller other is.
        (forgotten-stands x (s.objects caller)).awaits ∙ moving.rights.callers thread caller other (caller-forgotten x caller (s.objects thread) is).0;
    answer = λ thread is. absurd ((caller-forgotten x x (s.objects thread) is).1 refl);
    one_right = λ a b caller one other.
        moving.rights.one_right a b caller (caller-forgotten x caller (s.objects a) one).0 (caller-forgotten x caller (s.objects b) other).0;
  };
}
