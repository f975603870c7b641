-- What a queue gains or loses while its thread is on its way.
use Rattle.std.proofs.Common.{ℕ, ◌≡◌, ◌≢◌, ◌∙◌, ◌==◌, ◌+◌, ◌^◌, ◌<◌, ◌≤◌, ◌++◌, ◌⊎◌, inl, inr, Bool, true, false, if◌then◌else◌, map, List, [], ◌∷◌, Option}
use Rattle.std.proofs.Common.{Some, None, option_map, refl, sym, ap, subst, arith}
use Rattle.std.specs.Prelude.{All}
use Rattle.std.specs.Option.{option_map_or}
use Rattle.std.proofs.lemmas.Bool.{eq-eqb, eqb-true, ne_eqb}
use Rattle.std.proofs.lemmas.List.{map-append}
use Rattle.std.proofs.lemmas.List.Elements.{All-push, All-tail}
use Rattle.model.specs.Kernel.Kinds.{kind_at, kind_of}
use Rattle.model.specs.Kernel.Retype.{NewObject, NewThread}
use Rattle.model.specs.Kernel.Scheduling.{is_runnable}
use Rattle.model.specs.Kernel.Soundness.{ThreadIsSound, awaits_answer, is_blocked_on, waiting_at, IsSound, SenderIsSound}
use Rattle.model.specs.Kernel.State.{State, Status, Inactive, Runnable, Blocked, AwaitsReply, AwaitsHandler, Object, ThreadObject, EndpointObject}
use Rattle.model.specs.Kernel.State.{NotificationObject, CNodeObject, FrameObject, PageTableObject, RootTableObject, EndpointState, NotificationState, Sender}
use Rattle.model.specs.Kernel.State.{ThreadState, as_thread, new_thread, put, thread_at, with_endpoint, with_notification, with_object}
use Rattle.model.specs.Shared.Lists.{times_in}
use Rattle.soundness.specs.Running.{IsRunning}
use Rattle.soundness.proofs.Moving.{Moving, Rights, StandsAs, begins, ends, own_of, put-either, put-here, relisted, rights-kept, runs_of, stands-none}
use Rattle.soundness.proofs.Moving.{stands-same, waits_of}
use Rattle.soundness.proofs.Queues.{times-append, times-end_other, times-end_same, times-first_other, times-first_same}

-- the same, known otherwise
pub listed-as : (kinds : ℕ → Option NewObject) (s : State) (x : ℕ) (r w v : ℕ → ℕ) (a b : Bool) → Moving kinds s x r w a → ((queue : ℕ) → w queue ≡ v queue)
    → a ≡ b → Moving kinds s x r v b
listed-as kinds s x r w v a b moving same answer = record {
  listed = record {
    kind = moving.listed.kind;
    rest = moving.listed.rest;
    threads = moving.listed.threads;
    ready = moving.listed.ready;
    queued = moving.listed.queued;
    here = moving.listed.here;
    there = λ queue. moving.listed.there queue ∙ same queue;
    one_sided = moving.listed.one_sided;
    senders = moving.listed.senders;
    words = moving.listed.words;
    idle = moving.listed.idle;
  };
  rights = subst (Rights s x) answer moving.rights;
}

-- ---- an object that is no thread

no-caller : (o : Option Object) (caller : ℕ) → as_thread o ≡ None → (own_of o).caller ≡ Some caller → ⊥
no-caller o caller none is =
    let e : None ≡ Some caller = sym (ap (λ (t : Option ThreadState). (option_map_or (λ t. t) t new_thread).caller) none) ∙ is in cc

-- What is asked of an object in another's place.
pub record Replaces (s : State) (x q : ℕ) (w v : ℕ → ℕ) (o : Object) : Type 0 where
  pub none : as_thread (Some o) ≡ None
  pub before : as_thread (s.objects q) ≡ None
  pub kind : option_map kind_of (Some o) ≡ kind_at s q
  pub others : (thread : ℕ) → thread ≢ x → times_in (waiting_at (Some o)) thread ≡ times_in (waiting_at (s.objects q)) thread
  pub here : times_in (waiting_at (Some o)) x ≡ v q
  pub elsewhere : (queue : ℕ) → queue ≢ q → w queue ≡ v queue
  pub one_sided : (e : EndpointState) → Some o ≡ Some (EndpointObject e) → (e.senders ≡ []) ⊎ (e.receivers ≡ [])
  pub senders : (e : EndpointState) → Some o ≡ Some (EndpointObject e) → All SenderIsSound e.senders
  pub words : (n : NotificationState) → Some o ≡ Some (NotificationObject n) → n.word < 2 ^ 28
  pub idle : (n : NotificationState) → Some o ≡ Some (NotificationObject n) → (n.waiters ≡ []) ⊎ (n.word ≡ 0)

pub replaced : (kinds : ℕ → Option NewObject) (s : State) (x q : ℕ) (r w v : ℕ → ℕ) (awaits : Bool) (o : Object)
    → Moving kinds s x r w awaits → Replaces s x q w v o
    → Moving kinds (with_object s q o) x r v awaits
replaced kinds s x q r w v awaits o moving replaces =
    let stands = put-either s.objects q (Some o) (λ thread p. StandsAs p (s.objects thread)) (stands-none (Some o) (s.objects q) replaces.none replaces.before)
    (λ thread _. stands-same (s.objects thread)) in
    record {
      listed = relisted kinds s x r w (put s.objects q (Some o)) s.ready r v moving.listed (record {
        kind = put-either s.objects q (Some o) (λ offset p. option_map kind_of p ≡ kind_at s offset) replaces.kind (λ _ _. refl);
        threads = put-either s.objects q (Some o) (λ thread p. (t : ThreadState) → p ≡ Some (ThreadObject t) → ThreadIsSound t)
            (λ t is. let e : None ≡ Some t = sym replaces.none ∙ ap as_thread is in absurd cc) (λ thread _. moving.listed.threads thread);
        lists = λ _ _ _. refl;
        queues = λ thread queue other.
            put-either s.objects q (Some o) (λ queue p. times_in (waiting_at p) thread ≡ times_in (waiting_at (s.objects queue)) thread)
            (replaces.others thread other) (λ _ _. refl) queue;
        stands = λ thread _. stands thread;
        here = moving.listed.here;
        there = put-either s.objects q (Some o) (λ queue p. times_in (waiting_at p) x ≡ v queue) replaces.here
            (λ queue other. moving.listed.there queue ∙ replaces.elsewhere queue other);
        one_sided = put-either s.objects q (Some o) (λ offset p. (e : EndpointState) → p ≡ Some (EndpointObject e) → (e.senders ≡ []) ⊎ (e.receivers ≡ []))
            replaces.one_sided (λ offset _. moving.listed.one_sided offset);
        senders = put-either s.objects q (Some o) (λ offset p. (e : EndpointState) → p ≡ Some (EndpointObject e) → All SenderIsSound e.senders)
            replaces.senders (λ offset _. moving.listed.senders offset);
        words = put-either s.objects q (Some o) (λ offset p. (n : NotificationState) → p ≡ Some (NotificationObject n) → n.word < 2 ^ 28)
            replaces.words (λ offset _. moving.listed.words offset);
        idle = put-either s.objects q (Some o) (λ offset p. (n : NotificationState) → p ≡ Some (NotificationObject n) → (n.waiters ≡ []) ⊎ (n.word ≡ 0))
            replaces.idle (λ offset _. moving.listed.idle offset);
      });
      rights = rights-kept s (with_object s q o) x awaits moving.rights
          (put-either s.objects q (Some o) (λ thread p. (caller : ℕ) → (own_of p).caller ≡ Some caller → (thread_at s thread).caller ≡ Some caller)
          (λ caller is. absurd (no-caller (Some o) caller replaces.none is)) (λ _ _ _ is. is))
          (λ caller _. (stands caller).awaits);
    }

-- ---- endpoints and notifications

pub endpointed : (kinds : ℕ → Option NewObject) (s : State) (x q : ℕ) (r w v : ℕ → ℕ) (awaits : Bool) (e f : EndpointState)
    → Moving kinds s x r w awaits
    → s.objects q ≡ Some (EndpointObject e)
    → ((thread : ℕ) → thread ≢ x → times_in (waiting_at (Some (EndpointObject f))) thread ≡ times_in (waiting_at (Some (EndpointObject e))) thread)
    → times_in (waiting_at (Some (EndpointObject f))) x ≡ v q → ((queue : ℕ) → queue ≢ q → w queue ≡ v queue)
    → (f.senders ≡ []) ⊎ (f.receivers ≡ []) → All SenderIsSound f.senders → Moving kinds (with_endpoint s q f) x r v awaits
endpointed kinds s x q r w v awaits e f moving is others here elsewhere sides sound =
    replaced kinds s x q r w v awaits (EndpointObject f) moving (record {
      none = refl;
      before = ap as_thread is;
      kind = sym (ap (option_map kind_of) is);
      others = λ thread other. others thread other ∙ sym (ap (λ (o : Option Object). times_in (waiting_at o) thread) is);
      here = here;
      elsewhere = elsewhere;
      one_sided = λ g same. let h : f ≡ g = cc same in subst (λ (e : EndpointState). (e.senders ≡ []) ⊎ (e.receivers ≡ [])) h sides;
      senders = λ g same. let h : f ≡ g = cc same in subst (λ (e : EndpointState). All SenderIsSound e.senders) h sound;
      words = λ n same. let h : Some (EndpointObject f) ≡ Some (NotificationObject n) = same in absurd cc;
      idle = λ n same. let h : Some (EndpointObject f) ≡ Some (NotificationObject n) = same in absurd cc;
    })

pub notified : (kinds : ℕ → Option NewObject) (s : State) (x q : ℕ) (r w v : ℕ → ℕ) (awaits : Bool) (n m : NotificationState)
    → Moving kinds s x r w awaits
    → s.objects q ≡ Some (NotificationObject n) → ((thread : ℕ) → thread ≢ x → times_in m.waiters thread ≡ times_in n.waiters thread)
    → times_in m.waiters x ≡ v q → ((queue : ℕ) → queue ≢ q → w queue ≡ v queue) → m.word < 2 ^ 28 → (m.waiters ≡ []) ⊎ (m.word ≡ 0)
    → Moving kinds (with_notification s q m) x r v awaits
notified kinds s x q r w v awaits n m moving is others here elsewhere less idle =
    replaced kinds s x q r w v awaits (NotificationObject m) moving (record {
      none = refl;
      before = ap as_thread is;
      kind = sym (ap (option_map kind_of) is);
      others = λ thread other. others thread other ∙ sym (ap (λ (o : Option Object). times_in (waiting_at o) thread) is);
      here = here;
      elsewhere = elsewhere;
      one_sided = λ e same. let h : Some (NotificationObject m) ≡ Some (EndpointObject e) = same in absurd cc;
      senders = λ e same. let h : Some (NotificationObject m) ≡ Some (EndpointObject e) = same in absurd cc;
      words = λ k same. let h : m ≡ k = cc same in subst (λ (n : NotificationState). n.word < 2 ^ 28) h less;
      idle = λ k same. let h : m ≡ k = cc same in subst (λ (n : NotificationState). (n.waiters ≡ []) ⊎ (n.word ≡ 0)) h idle;
    })

-- ---- threads in queues, and those that run

own-waits : (o : Option Object) (q : ℕ) → ◌≡◌ {A = ℕ} (waits_of o q) (if is_blocked_on q (own_of o).status then 1 else 0)
own-waits None q = refl
own-waits (Some (ThreadObject t)) q = refl
own-waits (Some (EndpointObject e)) q = refl
own-waits (Some (NotificationObject n)) q = refl
own-waits (Some (CNodeObject radix)) q = refl
own-waits (Some FrameObject) q = refl
own-waits (Some PageTableObject) q = refl
own-waits (Some RootTableObject) q = refl

not-one : 1 ≤ 0 → ⊥
not-one less = omega (arith, less)

blocked-on : (status : Status) (q : ℕ) → 1 ≤ (if is_blocked_on q status then 1 else 0) → status ≡ Blocked q
blocked-on (Blocked other) q less =
    elim (other == q) as (λ b. (other == q) ≡ b → 1 ≤ (if b then 1 else 0) → Blocked other ≡ Blocked q) [
      | true ↦ λ test _. ap Blocked (eqb-true other q test)
      | false ↦ λ _ none. absurd (not-one none)
    ] refl less
blocked-on Inactive q less = absurd (not-one less)
blocked-on Runnable q less = absurd (not-one less)
blocked-on AwaitsReply q less = absurd (not-one less)
blocked-on AwaitsHandler q less = absurd (not-one less)

waiting-thread : (o : Option Object) (q : ℕ) → 1 ≤ waits_of o q → option_map kind_of o ≡ Some NewThread
waiting-thread (Some (ThreadObject t)) q less = refl
waiting-thread None q less = absurd (not-one less)
waiting-thread (Some (EndpointObject e)) q less = absurd (not-one less)
waiting-thread (Some (NotificationObject n)) q less = absurd (not-one less)
waiting-thread (Some (CNodeObject radix)) q less = absurd (not-one less)
waiting-thread (Some FrameObject) q less = absurd (not-one less)
waiting-thread (Some PageTableObject) q less = absurd (not-one less)
waiting-thread (Some RootTableObject) q less = absurd (not-one less)

-- a thread that is in a queue
pub record WaitsAt (s : State) (q x : ℕ) : Type 0 where
  pub kind : kind_at s x ≡ Some NewThread
  pub status : (thread_at s x).status ≡ Blocked q

pub waits-at : (s : State) → IsSound s → (q x : ℕ) → 1 ≤ times_in (waiting_at (s.objects q)) x → WaitsAt s q x
waits-at s whole q x stands =
    let law = whole.threads.queued x q in
    let less : 1 ≤ waits_of (s.objects x) q = omega (arith, stands, law) in
    record {
      kind = waiting-thread (s.objects x) q less;
      status = blocked-on (thread_at s x).status q (subst (λ (n : ℕ). 1 ≤ n) (own-waits (s.objects x) q) less);
    }

-- how often a thread with this status is in queues
abbrev pub in_queue : Status → ℕ → ℕ
in_queue status queue = if is_blocked_on queue status then 1 else 0

pub standing : (s : State) (x : ℕ) (status : Status) → IsSound s → (thread_at s x).status ≡ status
    → Moving (kind_at s) s x (runs_of (s.objects x)) (in_queue status) (awaits_answer status)
standing s x status whole is =
    listed-as (kind_at s) s x (runs_of (s.objects x)) (waits_of (s.objects x)) (in_queue status) (awaits_answer (thread_at s x).status) (awaits_answer status)
    (begins s x whole)
    (λ q. own-waits (s.objects x) q ∙ ap (λ (status : Status). in_queue status q) is) (ap awaits_answer is)

runnable-is : (status : Status) → is_runnable status ≡ true → status ≡ Runnable
runnable-is Runnable is = refl
runnable-is Inactive is = let e : false ≡ true = is in absurd cc
runnable-is (Blocked q) is = let e : false ≡ true = is in absurd cc
runnable-is AwaitsReply is = let e : false ≡ true = is in absurd cc
runnable-is AwaitsHandler is = let e : false ≡ true = is in absurd cc

pub running : (s : State) (x : ℕ) → IsSound s → IsRunning s x → Moving (kind_at s) s x (runs_of (s.objects x)) (λ _. 0) false
running s x whole runs = standing s x Runnable whole (runnable-is (thread_at s x).status runs.runs)

here-only : (q queue : ℕ) → queue ≢ q → ◌≡◌ {A = ℕ} (in_queue (Blocked q) queue) 0
here-only q queue other = ap (λ (b : Bool). if b then 1 else 0) (ne_eqb q queue (λ e. other (sym e)))

here-once : (q : ℕ) → ◌≡◌ {A = ℕ} (in_queue (Blocked q) q) 1
here-once q = ap (λ (b : Bool). if b then 1 else 0) (eq-eqb q q refl)

-- ---- leaving a queue

sides-first : (e : EndpointState) (x : ℕ) (others : List ℕ) → e.receivers ≡ x ∷ others → (e.senders ≡ []) ⊎ (e.receivers ≡ []) → e.senders ≡ []
sides-first e x others is sides = elim sides [ inl none ↦ none | inr none ↦ let clash : [] ≡ x ∷ others = sym none ∙ is in absurd cc ]

sides-sender : (e : EndpointState) (x : Sender) (others : List Sender) → e.senders ≡ x ∷ others → (e.senders ≡ []) ⊎ (e.receivers ≡ [])
    → e.receivers ≡ []
sides-sender e x others is sides = elim sides [ inl none ↦ let clash : ◌≡◌ {A = List Sender} [] (x ∷ others) = sym none ∙ is in absurd cc | inr none ↦ none ]

word-first : (n : NotificationState) (x : ℕ) (others : List ℕ) → n.waiters ≡ x ∷ others → (n.waiters ≡ []) ⊎ (n.word ≡ 0) → n.word ≡ 0
word-first n x others is idle = elim idle [ inl none ↦ let clash : [] ≡ x ∷ others = sym none ∙ is in absurd cc | inr clear ↦ clear ]

module _ (s : State) (whole : IsSound s) (q : ℕ) where
  -- the first that waits, of all that wait
  first-waits : (x : ℕ) (before others : List ℕ) → waiting_at (s.objects q) ≡ before ++ x ∷ others → WaitsAt s q x
  first-waits x before others is =
      let split = times-append before (x ∷ others) x in
      let one = times-first_same x others in
      waits-at s whole q x (omega (arith, ap (λ (l : List ℕ). times_in l x) is, split, one))

  -- without it none of them is it
  then-gone : (x : ℕ) (before others : List ℕ) → waiting_at (s.objects q) ≡ before ++ x ∷ others → (thread_at s x).status ≡ Blocked q
      → times_in (before ++ others) x ≡ 0
  then-gone x before others is status =
      let split = times-append before (x ∷ others) x in
      let joined = times-append before others x in
      let one = times-first_same x others in
      let law = whole.threads.queued x q ∙ own-waits (s.objects x) q ∙ ap (λ (status : Status). in_queue status q) status ∙ here-once q in
      omega (arith, ap (λ (l : List ℕ). times_in l x) is, split, joined, one, law)

  then-others : (x : ℕ) (before others : List ℕ) (thread : ℕ) → thread ≢ x
      → times_in (before ++ others) thread ≡ times_in (before ++ x ∷ others) thread
  then-others x before others thread other =
      let split = times-append before (x ∷ others) thread in
      let joined = times-append before others thread in
      let none = times-first_other x others thread other in
      omega (arith, split, joined, none)

  pub first-receiver : (e : EndpointState) (x : ℕ) (others : List ℕ) → s.objects q ≡ Some (EndpointObject e) → e.receivers ≡ x ∷ others
      → WaitsAt s q x
  first-receiver e x others is first = first-waits x (map (λ sender. sender.thread) e.senders) others
      (ap waiting_at is ∙ ap (λ (l : List ℕ). map (λ sender. sender.thread) e.senders ++ l) first)

  pub without-receiver : (e : EndpointState) (x : ℕ) (others : List ℕ) → s.objects q ≡ Some (EndpointObject e) → e.receivers ≡ x ∷ others
      → Moving (kind_at s) (with_endpoint s q (record e { receivers = others })) x (runs_of (s.objects x)) (λ _. 0) false
  without-receiver e x others is first =
      let before = map (λ (sender : Sender). sender.thread) e.senders in
      let waits = first-receiver e x others is first in
      endpointed (kind_at s) s x q (runs_of (s.objects x)) (in_queue (Blocked q)) (λ _. 0) false e (record e { receivers = others })
      (standing s x (Blocked q) whole waits.status) is
      (λ thread other. then-others x before others thread other ∙ sym (ap (λ (l : List ℕ). times_in (before ++ l) thread) first))
      (then-gone x before others (ap waiting_at is ∙ ap (λ (l : List ℕ). before ++ l) first) waits.status)
      (here-only q) (inl (sides-first e x others first (whole.threads.one_sided q e is))) (whole.threads.senders q e is)

  pub first-sender : (e : EndpointState) (x : Sender) (others : List Sender) → s.objects q ≡ Some (EndpointObject e)
      → e.senders ≡ x ∷ others → WaitsAt s q x.thread
  first-sender e x others is first =
      first-waits x.thread [] (map (λ sender. sender.thread) others ++ e.receivers)
      (ap waiting_at is ∙ ap (λ (l : List Sender). map (λ sender. sender.thread) l ++ e.receivers) first)

  pub without-sender : (e : EndpointState) (x : Sender) (others : List Sender) → s.objects q ≡ Some (EndpointObject e) → e.senders ≡ x ∷ others
      → Moving (kind_at s) (with_endpoint s q (record e { senders = others })) x.thread (runs_of (s.objects x.thread)) (λ _. 0) false
  without-sender e x others is first =
      let left = map (λ (sender : Sender). sender.thread) others ++ e.receivers in
      let waits = first-sender e x others is first in
      endpointed (kind_at s) s x.thread q (runs_of (s.objects x.thread)) (in_queue (Blocked q)) (λ _. 0) false e (record e { senders = others })
      (standing s x.thread (Blocked q) whole waits.status) is
      (λ thread other. then-others x.thread [] left thread other
      ∙ sym (ap (λ (l : List Sender). times_in (map (λ sender. sender.thread) l ++ e.receivers) thread) first))
      (then-gone x.thread [] left (ap waiting_at is ∙ ap (λ (l : List Sender). map (λ sender. sender.thread) l ++ e.receivers) first) waits.status)
      (here-only q) (inr (sides-sender e x others first (whole.threads.one_sided q e is)))
      (All-tail SenderIsSound x others (subst (All SenderIsSound) first (whole.threads.senders q e is)))

  pub first-waiter : (n : NotificationState) (x : ℕ) (others : List ℕ) → s.objects q ≡ Some (NotificationObject n) → n.waiters ≡ x ∷ others
      → WaitsAt s q x
  first-waiter n x others is first = first-waits x [] others (ap waiting_at is ∙ first)

  pub without-waiter : (n : NotificationState) (x : ℕ) (others : List ℕ) → s.objects q ≡ Some (NotificationObject n) → n.waiters ≡ x ∷ others
      → Moving (kind_at s) (with_notification s q (record n { waiters = others })) x (runs_of (s.objects x)) (λ _. 0) false
  without-waiter n x others is first =
      let waits = first-waiter n x others is first in
      notified (kind_at s) s x q (runs_of (s.objects x)) (in_queue (Blocked q)) (λ _. 0) false n (record n { waiters = others })
      (standing s x (Blocked q) whole waits.status) is
      (λ thread other. then-others x [] others thread other ∙ sym (ap (λ (l : List ℕ). times_in l thread) first))
      (then-gone x [] others (ap waiting_at is ∙ first) waits.status)
      (here-only q) (whole.threads.words q n is) (inr (word-first n x others first (whole.threads.idle q n is)))

  -- ---- joining one

  none-yet : (x : ℕ) → IsRunning s x → times_in (waiting_at (s.objects q)) x ≡ 0
  none-yet x runs = (running s x whole runs).listed.there q

  pub with-sender : (e : EndpointState) (x : Sender) → s.objects q ≡ Some (EndpointObject e) → e.receivers ≡ [] → IsRunning s x.thread
      → SenderIsSound x
      → Moving (kind_at s) (with_endpoint s q (record e { senders = e.senders ++ x ∷ [] })) x.thread (runs_of (s.objects x.thread)) (in_queue (Blocked q)) false
  with-sender e x is none runs sound =
      let senders = map (λ (sender : Sender). sender.thread) e.senders in
      let more : map (λ (sender : Sender). sender.thread) (e.senders ++ x ∷ []) ≡ senders ++ x.thread ∷ [] =
      map-append (λ (sender : Sender). sender.thread) e.senders (x ∷ []) in
      let now : (thread : ℕ) → times_in (map (λ (sender : Sender). sender.thread) (e.senders ++ x ∷ []) ++ e.receivers) thread ≡ times_in
      (senders ++ x.thread ∷ []) thread + times_in e.receivers thread
      = λ thread. ap (λ (l : List ℕ). times_in (l ++ e.receivers) thread) more ∙ times-append (senders ++ x.thread ∷ []) e.receivers thread in
      endpointed (kind_at s) s x.thread q (runs_of (s.objects x.thread)) (λ _. 0) (in_queue (Blocked q)) false e (record e { senders = e.senders ++ x ∷ [] })
      (running s x.thread whole runs) is
      (λ thread other.
      now thread ∙ ap (λ (n : ℕ). n + times_in e.receivers thread) (times-end_other senders x.thread thread other)
      ∙ sym (times-append senders e.receivers thread))
      (let a = now x.thread in let b = times-end_same senders x.thread in let c = times-append senders e.receivers x.thread in let d = here-once q in
      let f = none-yet x.thread runs in let g = ap (λ (o : Option Object). times_in (waiting_at o) x.thread) is in omega (arith, a, b, c, d, f, g))
      (λ queue other. sym (here-only q queue other)) (inr none)
      (All-push SenderIsSound e.senders x (whole.threads.senders q e is) sound)

  pub with-receiver : (e : EndpointState) (x : ℕ) → s.objects q ≡ Some (EndpointObject e) → e.senders ≡ [] → IsRunning s x
      → Moving (kind_at s) (with_endpoint s q (record e { receivers = e.receivers ++ x ∷ [] })) x (runs_of (s.objects x)) (in_queue (Blocked q)) false
  with-receiver e x is none runs =
      let senders = map (λ (sender : Sender). sender.thread) e.senders in
      endpointed (kind_at s) s x q (runs_of (s.objects x)) (λ _. 0) (in_queue (Blocked q)) false e (record e { receivers = e.receivers ++ x ∷ [] })
      (running s x whole runs) is
      (λ thread other.
      times-append senders (e.receivers ++ x ∷ []) thread ∙ ap (λ (n : ℕ). times_in senders thread + n) (times-end_other e.receivers x thread other)
      ∙ sym (times-append senders e.receivers thread))
      (let a = times-append senders (e.receivers ++ x ∷ []) x in let b = times-end_same e.receivers x in
      let c = times-append senders e.receivers x in let d = here-once q in
      let f = none-yet x runs in let g = ap (λ (o : Option Object). times_in (waiting_at o) x) is in omega (arith, a, b, c, d, f, g))
      (λ queue other. sym (here-only q queue other)) (inl none) (whole.threads.senders q e is)

  pub with-waiter : (n : NotificationState) (x : ℕ) → s.objects q ≡ Some (NotificationObject n) → n.word ≡ 0 → IsRunning s x
      → Moving (kind_at s) (with_notification s q (record n { waiters = n.waiters ++ x ∷ [] })) x (runs_of (s.objects x)) (in_queue (Blocked q)) false
  with-waiter n x is clear runs =
      notified (kind_at s) s x q (runs_of (s.objects x)) (λ _. 0) (in_queue (Blocked q)) false n (record n { waiters = n.waiters ++ x ∷ [] })
      (running s x whole runs) is
      (λ thread other. times-end_other n.waiters x thread other)
      (let b = times-end_same n.waiters x in let d = here-once q in
      let f = none-yet x runs in let g = ap (λ (o : Option Object). times_in (waiting_at o) x) is in omega (arith, b, d, f, g))
      (λ queue other. sym (here-only q queue other)) (whole.threads.words q n is) (inr clear)

  -- another word
  pub with-word : (n : NotificationState) (word : ℕ) → s.objects q ≡ Some (NotificationObject n) → word < 2 ^ 28 → (n.waiters ≡ []) ⊎ (word ≡ 0)
      → IsSound (with_notification s q (record n { word = word }))
  with-word n word is less idle =
      let o : Option Object = Some (NotificationObject (record n { word = word })) in
      let waits = waits_of (s.objects q) in
      let moving = notified (kind_at s) s q q (runs_of (s.objects q)) waits waits (awaits_answer (thread_at s q).status) n (record n { word = word })
      (begins s q whole) is (λ _ _. refl)
      (ap (λ (o : Option Object). times_in (waiting_at o) q) (sym is) ∙ whole.threads.queued q q) (λ _ _. refl) less idle in
      let stands : StandsAs (put s.objects q o q) (s.objects q) =
      subst (λ (p : Option Object). StandsAs p (s.objects q)) (sym (put-here s.objects q o)) (stands-none o (s.objects q) refl (ap as_thread is)) in
      ends (kind_at s) (with_notification s q (record n { word = word })) q (runs_of (s.objects q)) waits (awaits_answer (thread_at s q).status) moving
      (λ p. sym (stands.runs p)) (λ queue. sym (stands.waits queue)) (λ a. stands.awaits ∙ a)
