-- One thread on its way from one place to another, and what is true of a state meanwhile: the thread is in the lists as often as is
-- said apart from it, and each other thread as its own state says.
use Rattle.std.proofs.Common.{ℕ, ◌≡◌, ◌≢◌, ◌∙◌, ◌==◌, ◌&&◌, ◌+◌, ◌^◌, ◌<◌, ◌++◌, ◌⊎◌, inl, inr, Bool, false, IsTrue, if◌then◌else◌, List, [], ◌∷◌, Option, Some}
use Rattle.std.proofs.Common.{None, option_map, refl, sym, ap, subst}
use Rattle.std.specs.Prelude.{All}
use Rattle.std.specs.Option.{option_map_or}
use Rattle.std.proofs.lemmas.Bool.{eq-eqb, ne_eqb}
use Rattle.std.proofs.lemmas.Bool.Decides.{eqb_tells}
use Rattle.model.specs.Kernel.Kinds.{kind_at, kind_of}
use Rattle.model.specs.Kernel.Retype.{NewObject, NewThread}
use Rattle.model.specs.Kernel.Scheduling.{at_tail, is_runnable, unready}
use Rattle.model.specs.Kernel.Soundness.{ThreadIsSound, awaits_answer, is_blocked_on, waiting_at, IsSound, SenderIsSound}
use Rattle.model.specs.Kernel.State.{State, Status, Object, ThreadObject, EndpointObject, NotificationObject, EndpointState, NotificationState, ThreadState}
use Rattle.model.specs.Kernel.State.{as_thread, new_thread, put, thread_at, with_thread}
use Rattle.model.specs.Shared.Lists.{times_in, without}
use Rattle.soundness.proofs.Queues.{times-end_other, times-end_same, times-gone, times-kept}
use Rattle.soundness.proofs.Rest.{RestIsSound, rest-kept, rest-of, sound-of, thread-kind}

-- ---- what objects say of threads

abbrev pub own_of : Option Object → ThreadState
own_of o = option_map_or (λ t. t) (as_thread o) new_thread

abbrev pub runs_of : Option Object → ℕ → ℕ
runs_of o priority = if option_map_or (λ t. is_runnable t.status && t.priority == priority) (as_thread o) false then 1 else 0

abbrev pub waits_of : Option Object → ℕ → ℕ
waits_of o queue = if option_map_or (λ t. is_blocked_on queue t.status) (as_thread o) false then 1 else 0

-- one is in the same lists as another
pub record StandsAs (o p : Option Object) : Type 0 where
  pub runs : (priority : ℕ) → runs_of o priority ≡ runs_of p priority
  pub waits : (queue : ℕ) → waits_of o queue ≡ waits_of p queue
  pub awaits : awaits_answer (own_of o).status ≡ awaits_answer (own_of p).status

pub stands-same : (o : Option Object) → StandsAs o o
stands-same o = record { runs = λ _. refl; waits = λ _. refl; awaits = refl }

pub stands-thread : (t u : ThreadState) → t.status ≡ u.status → t.priority ≡ u.priority → StandsAs (Some (ThreadObject t)) (Some (ThreadObject u))
stands-thread t u status priority = record {
  runs = λ p.
      ap (λ (b : Bool). if b && t.priority == p then 1 else 0) (ap is_runnable status)
      ∙ ap (λ (n : ℕ). if is_runnable u.status && n == p then 1 else 0) priority;
  waits = λ q. ap (λ (x : Status). if is_blocked_on q x then 1 else 0) status;
  awaits = ap awaits_answer status;
}

pub stands-none : (o p : Option Object) → as_thread o ≡ None → as_thread p ≡ None → StandsAs o p
stands-none o p one other = record {
  runs = λ n.
      let at = λ (t : Option ThreadState). if option_map_or (λ t. is_runnable t.status && t.priority == n) t false then 1 else 0 in
      ap at one ∙ sym (ap at other);
  waits = λ q. let at = λ (t : Option ThreadState). if option_map_or (λ t. is_blocked_on q t.status) t false then 1 else 0 in ap at one ∙ sym (ap at other);
  awaits = let at = λ (t : Option ThreadState). awaits_answer (option_map_or (λ t. t) t new_thread).status in ap at one ∙ sym (ap at other);
}

-- ---- maps with another value at one place

pub put-here : {A : Type 0} (map : ℕ → A) (place : ℕ) (value : A) → put map place value place ≡ value
put-here map place value = ap (λ b. if b then value else map place) (eq-eqb place place refl)

pub put-other : {A : Type 0} (map : ℕ → A) (place : ℕ) (value : A) (x : ℕ) → x ≢ place → put map place value x ≡ map x
put-other map place value x other = ap (λ b. if b then value else map x) (ne_eqb x place other)

-- what holds of the new value there and of the old ones elsewhere
pub put-either : {A : Type 0} (map : ℕ → A) (place : ℕ) (value : A) (P : ℕ → A → Type 0) → P place value → ((x : ℕ) → x ≢ place → P x (map x))
    → (x : ℕ) → P x (put map place value x)
put-either map place value P at other x = elim (eqb_tells x place) [
  | inl here ↦ subst (λ (y : ℕ). P y (put map place value y)) (sym here.1) (subst (P place) (sym (put-here map place value)) at)
  | inr apart ↦ subst (P x) (sym (put-other map place value x apart.1)) (other x apart.1)
]

-- ---- the lists

-- The objects are of these types; the thread x is in the ready list and in queues as often as these functions say.
pub record Listed (kinds : ℕ → Option NewObject) (s : State) (x : ℕ) (r w : ℕ → ℕ) : Type 0 where
  pub kind : (offset : ℕ) → kind_at s offset ≡ kinds offset
  pub rest : RestIsSound s
  pub threads : (thread : ℕ) (t : ThreadState) → s.objects thread ≡ Some (ThreadObject t) → ThreadIsSound t
  pub ready : (thread priority : ℕ) → thread ≢ x → times_in (s.ready priority) thread ≡ runs_of (s.objects thread) priority
  pub queued : (thread queue : ℕ) → thread ≢ x → times_in (waiting_at (s.objects queue)) thread ≡ waits_of (s.objects thread) queue
  pub here : (priority : ℕ) → times_in (s.ready priority) x ≡ r priority
  pub there : (queue : ℕ) → times_in (waiting_at (s.objects queue)) x ≡ w queue
  pub one_sided : (offset : ℕ) (e : EndpointState) → s.objects offset ≡ Some (EndpointObject e) → (e.senders ≡ []) ⊎ (e.receivers ≡ [])
  pub senders : (offset : ℕ) (e : EndpointState) → s.objects offset ≡ Some (EndpointObject e) → All SenderIsSound e.senders
  pub words : (offset : ℕ) (n : NotificationState) → s.objects offset ≡ Some (NotificationObject n) → n.word < 2 ^ 28
  pub idle : (offset : ℕ) (n : NotificationState) → s.objects offset ≡ Some (NotificationObject n) → (n.waiters ≡ []) ⊎ (n.word ≡ 0)

-- Objects and lists that differ from those of a state as far as one thread is concerned.
pub record Relists (s : State) (x : ℕ) (objects : ℕ → Option Object) (ready : ℕ → List ℕ) (r w : ℕ → ℕ) : Type 0 where
  pub kind : (offset : ℕ) → option_map kind_of (objects offset) ≡ kind_at s offset
  pub threads : (thread : ℕ) (t : ThreadState) → objects thread ≡ Some (ThreadObject t) → ThreadIsSound t
  pub lists : (thread priority : ℕ) → thread ≢ x → times_in (ready priority) thread ≡ times_in (s.ready priority) thread
  pub queues : (thread queue : ℕ) → thread ≢ x → times_in (waiting_at (objects queue)) thread ≡ times_in (waiting_at (s.objects queue)) thread
  pub stands : (thread : ℕ) → thread ≢ x → StandsAs (objects thread) (s.objects thread)
  pub here : (priority : ℕ) → times_in (ready priority) x ≡ r priority
  pub there : (queue : ℕ) → times_in (waiting_at (objects queue)) x ≡ w queue
  pub one_sided : (offset : ℕ) (e : EndpointState) → objects offset ≡ Some (EndpointObject e) → (e.senders ≡ []) ⊎ (e.receivers ≡ [])
  pub senders : (offset : ℕ) (e : EndpointState) → objects offset ≡ Some (EndpointObject e) → All SenderIsSound e.senders
  pub words : (offset : ℕ) (n : NotificationState) → objects offset ≡ Some (NotificationObject n) → n.word < 2 ^ 28
  pub idle : (offset : ℕ) (n : NotificationState) → objects offset ≡ Some (NotificationObject n) → (n.waiters ≡ []) ⊎ (n.word ≡ 0)

pub relisted : (kinds : ℕ → Option NewObject) (s : State) (x : ℕ) (r w : ℕ → ℕ) (objects : ℕ → Option Object) (ready : ℕ → List ℕ) (after there : ℕ → ℕ)
    → Listed kinds s x r w → Relists s x objects ready after there → Listed kinds (record s { objects = objects; ready = ready }) x after there
relisted kinds s x r w objects ready after there listed change = record {
  kind = λ offset. change.kind offset ∙ listed.kind offset;
  rest = rest-kept s objects ready s.masked s.pending change.kind listed.rest;
  threads = change.threads;
  ready = λ thread priority other. change.lists thread priority other ∙ listed.ready thread priority other ∙ sym ((change.stands thread other).runs priority);
  queued = λ thread queue other. change.queues thread queue other ∙ listed.queued thread queue other ∙ sym ((change.stands thread other).waits queue);
  here = change.here;
  there = change.there;
  one_sided = change.one_sided;
  senders = change.senders;
  words = change.words;
  idle = change.idle;
}

-- ---- rights to reply

-- Rights are held for threads that await an answer, each by one thread; what is known of x is said apart.
pub record Rights (s : State) (x : ℕ) (awaits : Bool) : Type 0 where
  pub callers : (thread caller : ℕ) → caller ≢ x → (thread_at s thread).caller ≡ Some caller → IsTrue (awaits_answer (thread_at s caller).status)
  pub answer : (thread : ℕ) → (thread_at s thread).caller ≡ Some x → IsTrue awaits
  pub one_right : (a b caller : ℕ) → (thread_at s a).caller ≡ Some caller → (thread_at s b).caller ≡ Some caller → a ≡ b

-- rights may go, and other threads await an answer as before
pub rights-kept : (s t : State) (x : ℕ) (awaits : Bool) → Rights s x awaits
    → ((thread caller : ℕ) → (thread_at t thread).caller ≡ Some caller → (thread_at s thread).caller ≡ Some caller)
    → ((caller : ℕ) → caller ≢ x → awaits_answer (thread_at t caller).status ≡ awaits_answer (thread_at s caller).status) → Rights t x awaits
rights-kept s t x awaits rights had same = record {
  callers = λ thread caller other is. same caller other ∙ rights.callers thread caller other (had thread caller is);
  answer = λ thread is. rights.answer thread (had thread x is);
  one_right = λ a b caller one other. rights.one_right a b caller (had a caller one) (had b caller other);
}

-- nobody holds a right for x
pub rights-none : (s : State) (x : ℕ) (awaits : Bool) → Rights s x awaits → ((thread : ℕ) → (thread_at s thread).caller ≢ Some x) → Rights s x false
rights-none s x awaits rights none = record { callers = rights.callers; answer = λ thread is. absurd (none thread is); one_right = rights.one_right }

-- ---- both

pub record Moving (kinds : ℕ → Option NewObject) (s : State) (x : ℕ) (r w : ℕ → ℕ) (awaits : Bool) : Type 0 where
  pub listed : Listed kinds s x r w
  pub rights : Rights s x awaits

pub begins : (s : State) (x : ℕ) → IsSound s
    → Moving (kind_at s) s x (runs_of (s.objects x)) (waits_of (s.objects x)) (awaits_answer (thread_at s x).status)
begins s x whole = record {
  listed = record {
    kind = λ _. refl;
    rest = rest-of s whole;
    threads = whole.threads.threads;
    ready = λ thread priority _. whole.threads.ready thread priority;
    queued = λ thread queue _. whole.threads.queued thread queue;
    here = λ priority. whole.threads.ready x priority;
    there = λ queue. whole.threads.queued x queue;
    one_sided = whole.threads.one_sided;
    senders = whole.threads.senders;
    words = whole.threads.words;
    idle = whole.threads.idle;
  };
  rights = record {
    callers = λ thread caller _. whole.threads.callers thread caller;
    answer = λ thread. whole.threads.callers thread x;
    one_right = whole.threads.one_right;
  };
}

pub ends : (kinds : ℕ → Option NewObject) (s : State) (x : ℕ) (r w : ℕ → ℕ) (awaits : Bool) → Moving kinds s x r w awaits
    → ((priority : ℕ) → r priority ≡ runs_of (s.objects x) priority) → ((queue : ℕ) → w queue ≡ waits_of (s.objects x) queue)
    → (IsTrue awaits → IsTrue (awaits_answer (thread_at s x).status)) → IsSound s
ends kinds s x r w awaits moving runs waits answers =
    sound-of s moving.listed.rest (record {
      threads = moving.listed.threads;
      ready = λ thread priority. elim (eqb_tells thread x) [
        | inl here ↦
            ap (times_in (s.ready priority)) here.1 ∙ moving.listed.here priority ∙ runs priority ∙ ap (λ (y : ℕ). runs_of (s.objects y) priority) (sym here.1)
        | inr other ↦ moving.listed.ready thread priority other.1
      ];
      queued = λ thread queue. elim (eqb_tells thread x) [
        | inl here ↦
            ap (times_in (waiting_at (s.objects queue))) here.1 ∙ moving.listed.there queue ∙ waits queue
            ∙ ap (λ (y : ℕ). waits_of (s.objects y) queue) (sym here.1)
        | inr other ↦ moving.listed.queued thread queue other.1
      ];
      one_sided = moving.listed.one_sided;
      senders = moving.listed.senders;
      words = moving.listed.words;
      idle = moving.listed.idle;
      callers = λ thread caller is. elim (eqb_tells caller x) [
        | inl here ↦
            ap (λ (y : ℕ). awaits_answer (thread_at s y).status) here.1
            ∙ answers (moving.rights.answer thread (is ∙ ap (λ (y : ℕ). Some y) here.1))
        | inr other ↦ moving.rights.callers thread caller other.1 is
      ];
      one_right = moving.rights.one_right;
    })

-- ---- a thread's own state

module _ (kinds : ℕ → Option NewObject) (s : State) (x : ℕ) (r w : ℕ → ℕ) (listed : Listed kinds s x r w) (y : ℕ) (t : ThreadState)
    (is_thread : kinds y ≡ Some NewThread) where
  own : (u : ThreadState) × (s.objects y ≡ Some (ThreadObject u))
  own = thread-kind (s.objects y) (listed.kind y ∙ is_thread)

  own-is : thread_at s y ≡ own.0
  own-is = ap own_of own.1

  value : Option Object
  value = Some (ThreadObject t)

  pub stands-new : t.status ≡ (thread_at s y).status → t.priority ≡ (thread_at s y).priority → StandsAs (Some (ThreadObject t)) (s.objects y)
  stands-new status priority =
      subst (StandsAs (Some (ThreadObject t))) (sym own.1)
      (stands-thread t own.0 (status ∙ ap (λ (u : ThreadState). u.status) own-is) (priority ∙ ap (λ (u : ThreadState). u.priority) own-is))

  stands-rewritten : (y ≢ x → (t.status ≡ (thread_at s y).status) × (t.priority ≡ (thread_at s y).priority)) → (thread : ℕ) → thread ≢ x
      → StandsAs (put s.objects y (Some (ThreadObject t)) thread) (s.objects thread)
  stands-rewritten same =
      put-either s.objects y (Some (ThreadObject t)) (λ thread o. thread ≢ x → StandsAs o (s.objects thread))
      (λ other. stands-new (same other).0 (same other).1) (λ thread _ _. stands-same (s.objects thread))

  pub rewritten-listed : ThreadIsSound t → (y ≢ x → (t.status ≡ (thread_at s y).status) × (t.priority ≡ (thread_at s y).priority))
      → Listed kinds (with_thread s y t) x r w
  rewritten-listed fine same =
      let waiting : (thread queue : ℕ) → times_in (waiting_at (put s.objects y (Some (ThreadObject t)) queue)) thread ≡ times_in (waiting_at (s.objects queue))
      thread = λ thread.
      put-either s.objects y (Some (ThreadObject t)) (λ queue o. times_in (waiting_at o) thread ≡ times_in (waiting_at (s.objects queue)) thread)
      (ap (λ (o : Option Object). times_in (waiting_at o) thread) (sym own.1)) (λ queue _. refl) in
      relisted kinds s x r w (put s.objects y (Some (ThreadObject t))) s.ready r w listed (record {
        kind = put-either s.objects y (Some (ThreadObject t)) (λ offset o. option_map kind_of o ≡ kind_at s offset) (sym (listed.kind y ∙ is_thread))
            (λ _ _. refl);
        threads = put-either s.objects y (Some (ThreadObject t)) (λ thread o. (u : ThreadState) → o ≡ Some (ThreadObject u) → ThreadIsSound u)
            (λ u e. let f : t ≡ u = cc e in subst ThreadIsSound f fine) (λ thread _. listed.threads thread);
        lists = λ _ _ _. refl;
        queues = λ thread queue _. waiting thread queue;
        stands = stands-rewritten same;
        here = listed.here;
        there = λ queue. waiting x queue ∙ listed.there queue;
        one_sided = put-either s.objects y (Some (ThreadObject t))
            (λ offset o. (e : EndpointState) → o ≡ Some (EndpointObject e) → (e.senders ≡ []) ⊎ (e.receivers ≡ []))
            (λ e is. let f : Some (ThreadObject t) ≡ Some (EndpointObject e) = is in absurd cc) (λ offset _. listed.one_sided offset);
        senders = put-either s.objects y (Some (ThreadObject t)) (λ offset o. (e : EndpointState) → o ≡ Some (EndpointObject e) → All SenderIsSound e.senders)
            (λ e is. let f : Some (ThreadObject t) ≡ Some (EndpointObject e) = is in absurd cc) (λ offset _. listed.senders offset);
        words = put-either s.objects y (Some (ThreadObject t)) (λ offset o. (n : NotificationState) → o ≡ Some (NotificationObject n) → n.word < 2 ^ 28)
            (λ n is. let f : Some (ThreadObject t) ≡ Some (NotificationObject n) = is in absurd cc) (λ offset _. listed.words offset);
        idle = put-either s.objects y (Some (ThreadObject t))
            (λ offset o. (n : NotificationState) → o ≡ Some (NotificationObject n) → (n.waiters ≡ []) ⊎ (n.word ≡ 0))
            (λ n is. let f : Some (ThreadObject t) ≡ Some (NotificationObject n) = is in absurd cc) (λ offset _. listed.idle offset);
      })

  rewritten-rights : (awaits : Bool) → Rights s x awaits → ((caller : ℕ) → t.caller ≡ Some caller → (thread_at s y).caller ≡ Some caller)
      → (y ≢ x → (t.status ≡ (thread_at s y).status) × (t.priority ≡ (thread_at s y).priority)) → Rights (with_thread s y t) x awaits
  rewritten-rights awaits rights had same =
      rights-kept s (with_thread s y t) x awaits rights
      (put-either s.objects y (Some (ThreadObject t)) (λ thread o. (caller : ℕ) → (own_of o).caller ≡ Some caller → (thread_at s thread).caller ≡ Some caller)
      had (λ _ _ _ is. is))
      (λ caller other. (stands-rewritten same caller other).awaits)

-- The thread has another state: x may be in other lists then, and another is in those of before. A right to reply may go.
pub rewritten : (kinds : ℕ → Option NewObject) (s : State) (x : ℕ) (r w : ℕ → ℕ) (awaits : Bool) (y : ℕ) (t : ThreadState)
    → Moving kinds s x r w awaits
    → kinds y ≡ Some NewThread → ThreadIsSound t → ((caller : ℕ) → t.caller ≡ Some caller → (thread_at s y).caller ≡ Some caller)
    → (y ≢ x → (t.status ≡ (thread_at s y).status) × (t.priority ≡ (thread_at s y).priority)) → Moving kinds (with_thread s y t) x r w awaits
rewritten kinds s x r w awaits y t moving is_thread fine had same = record {
  listed = rewritten-listed kinds s x r w moving.listed y t is_thread fine same;
  rights = rewritten-rights kinds s x r w moving.listed y t is_thread awaits moving.rights had same;
}

-- ---- the ready list

pub unreadied : (kinds : ℕ → Option NewObject) (s : State) (x : ℕ) (r w : ℕ → ℕ) (awaits : Bool) → Moving kinds s x r w awaits
    → Moving kinds (unready s x) x (λ _. 0) w awaits
unreadied kinds s x r w awaits moving = record {
  listed = relisted kinds s x r w s.objects (λ priority. without x (s.ready priority)) (λ _. 0) w moving.listed (record {
    kind = λ _. refl;
    threads = moving.listed.threads;
    lists = λ thread priority other. times-kept x (s.ready priority) thread other;
    queues = λ _ _ _. refl;
    stands = λ thread _. stands-same (s.objects thread);
    here = λ priority. times-gone x (s.ready priority);
    there = moving.listed.there;
    one_sided = moving.listed.one_sided;
    senders = moving.listed.senders;
    words = moving.listed.words;
    idle = moving.listed.idle;
  });
  rights = rights-kept s (unready s x) x awaits moving.rights (λ _ _ is. is) (λ _ _. refl);
}

pub tailed : (kinds : ℕ → Option NewObject) (s : State) (x : ℕ) (w : ℕ → ℕ) (awaits : Bool) → Moving kinds s x (λ _. 0) w awaits
    → Moving kinds (at_tail s x) x (λ priority. if (thread_at s x).priority == priority then 1 else 0) w awaits
tailed kinds s x w awaits moving =
    let tail : ℕ = (thread_at s x).priority in
    record {
      listed = relisted kinds s x (λ _. 0) w s.objects (put s.ready tail (s.ready tail ++ x ∷ [])) (λ priority. if tail == priority then 1 else 0) w
          moving.listed (record {
            kind = λ _. refl;
            threads = moving.listed.threads;
            lists = λ thread priority other.
                put-either s.ready tail (s.ready tail ++ x ∷ []) (λ p l. times_in l thread ≡ times_in (s.ready p) thread)
                (times-end_other (s.ready tail) x thread other) (λ _ _. refl) priority;
            queues = λ _ _ _. refl;
            stands = λ thread _. stands-same (s.objects thread);
            here = put-either s.ready tail (s.ready tail ++ x ∷ []) (λ p l. times_in l x ≡ (if tail == p then 1 else 0))
                (times-end_same (s.ready tail) x ∙ ap (λ (n : ℕ). n + 1) (moving.listed.here tail)
                ∙ sym (ap (λ (b : Bool). if b then 1 else 0) (eq-eqb tail tail refl)))
                (λ p other. moving.listed.here p ∙ sym (ap (λ (b : Bool). if b then 1 else 0) (ne_eqb tail p (λ e. other (sym e)))));
            there = moving.listed.there;
            one_sided = moving.listed.one_sided;
            senders = moving.listed.senders;
            words = moving.listed.words;
            idle = moving.listed.idle;
          });
      rights = rights-kept s (at_tail s x) x awaits moving.rights (λ _ _ is. is) (λ _ _. refl);
    }
