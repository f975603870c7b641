-- What a removal leaves of threads and queues, were those that waited at what ended inactive.
use Rattle.std.proofs.Common.{ℕ, ◌≡◌, ◌∙◌, ◌==◌, ◌+◌, ◌^◌, ◌<◌, ◌++◌, ◌&&◌, inl, inr, Bool, true, false, not, if◌then◌else◌, filter, map, List, [], ◌∷◌, Option}
use Rattle.std.proofs.Common.{Some, None, option_map, refl, sym, ap, subst}
use Rattle.std.specs.Prelude.{All}
use Rattle.std.specs.Option.{option_map_or}
use Rattle.std.proofs.lemmas.Bool.Decides.{eqb_tells}
use Rattle.std.proofs.lemmas.List.Elements.{All-filter}
use Rattle.model.proofs.Orders.{times-filter}
use Rattle.model.specs.Kernel.Kinds.{kind_at, kind_of}
use Rattle.model.specs.Kernel.Removal.{SlotSet, ends, is_ending_thread, is_set_back, waits_on_ended}
use Rattle.model.specs.Kernel.Scheduling.{is_runnable, without_threads}
use Rattle.model.specs.Kernel.Soundness.{HasShape, IsSound, SenderIsSound, ThreadIsSound, ThreadsAreSound, awaits_answer, is_blocked_on, waiting_at}
use Rattle.model.specs.Kernel.State.{State, Status, Inactive, Runnable, Blocked, AwaitsReply, AwaitsHandler, Object, ThreadObject, EndpointObject}
use Rattle.model.specs.Kernel.State.{NotificationObject, CNodeObject, FrameObject, PageTableObject, RootTableObject, EndpointState, NotificationState, Sender}
use Rattle.model.specs.Kernel.State.{ThreadState, as_thread}
use Rattle.model.specs.Shared.Lists.{times_in}
use Rattle.soundness.proofs.LeftMemory.{mappings-left, memory-left}
use Rattle.soundness.proofs.LeftSlots.{Removes, left, slots-left}
use Rattle.soundness.proofs.Moving.{own_of, runs_of, waits_of}
use Rattle.soundness.proofs.Queues.{times-append}
use Rattle.soundness.proofs.Rest.{RestIsSound, rest-kept, sound-of}

-- ---- objects

-- a thread that waits for nothing and does not run
abbrev pub stilled : Option Object → Option Object
stilled None = None
stilled (Some (ThreadObject t)) = Some (ThreadObject (record t { status = Inactive }))
stilled (Some (EndpointObject e)) = Some (EndpointObject e)
stilled (Some (NotificationObject n)) = Some (NotificationObject n)
stilled (Some (CNodeObject radix)) = Some (CNodeObject radix)
stilled (Some FrameObject) = Some FrameObject
stilled (Some PageTableObject) = Some PageTableObject
stilled (Some RootTableObject) = Some RootTableObject

pub stilled-kind : (o : Option Object) → option_map kind_of (stilled o) ≡ option_map kind_of o
stilled-kind None = refl
stilled-kind (Some (ThreadObject t)) = refl
stilled-kind (Some (EndpointObject e)) = refl
stilled-kind (Some (NotificationObject n)) = refl
stilled-kind (Some (CNodeObject radix)) = refl
stilled-kind (Some FrameObject) = refl
stilled-kind (Some PageTableObject) = refl
stilled-kind (Some RootTableObject) = refl

stilled-waiting : (o : Option Object) → waiting_at (stilled o) ≡ waiting_at o
stilled-waiting None = refl
stilled-waiting (Some (ThreadObject t)) = refl
stilled-waiting (Some (EndpointObject e)) = refl
stilled-waiting (Some (NotificationObject n)) = refl
stilled-waiting (Some (CNodeObject radix)) = refl
stilled-waiting (Some FrameObject) = refl
stilled-waiting (Some PageTableObject) = refl
stilled-waiting (Some RootTableObject) = refl

-- Some threads are gone, some statuses lost, and an object ends or not: what is left of it, and of a thread.
module _ (gone : ℕ → Bool) (lost : Status → Bool) where
  abbrev remains : Bool → Option Object → Option Object
  remains ending o = if ending then None else option_map (without_threads gone) o

  abbrev pub calmed : Bool → Option Object → Option Object
  calmed ending o = if option_map_or (λ t. lost t.status && not ending) (as_thread o) false then stilled (remains ending o) else remains ending o

  abbrev calm_status : Status → Status
  calm_status status = if lost status then Inactive else status

  abbrev calm_thread : ThreadState → ThreadState
  calm_thread t = record t { caller = if option_map_or gone t.caller false then None else t.caller; status = calm_status t.status }

  calmed-gone : (o : Option Object) → calmed true o ≡ None
  calmed-gone o = elim (option_map_or (λ t. lost t.status && not true) (as_thread o) false) as (λ b. (if b then stilled None else None) ≡ None)
      [ true ↦ refl | false ↦ refl ]

  calmed-thread : (t : ThreadState) → calmed false (Some (ThreadObject t)) ≡ Some (ThreadObject (calm_thread t))
  calmed-thread t =
      let c : Option ℕ = if option_map_or gone t.caller false then None else t.caller in
      elim (lost t.status) as (λ b. (if b && not false then Some (ThreadObject (record t { caller = c; status = Inactive })) else
      Some (ThreadObject (record t { caller = c })))
      ≡ Some (ThreadObject (record t { caller = c; status = if b then Inactive else t.status }))) [ true ↦ refl | false ↦ refl ]

  -- ---- the ready list

  module _ (stops : (status : Status) → lost status ≡ true → is_runnable status ≡ false) where
    still-runs : (status : Status) → is_runnable (calm_status status) ≡ is_runnable status
    still-runs status = elim (lost status) as (λ b. lost status ≡ b → is_runnable (if b then Inactive else status) ≡ is_runnable status) [
      | true ↦ λ is. sym (stops status is)
      | false ↦ λ _. refl
    ] refl

    pub runs-calm : (ending : Bool) (o : Option Object) (p : ℕ) →
        ◌≡◌ {A = ℕ} (if not (option_map_or (λ _. ending) (as_thread o) false) then runs_of o p else 0) (runs_of
        (calmed ending o) p)
    runs-calm true o p =
        elim (as_thread o) as (λ t. ◌≡◌ {A = ℕ} (if not (option_map_or (λ _. true) t false) then (if option_map_or
        (λ t. is_runnable t.status && t.priority == p) t false then 1 else 0) else 0) 0) [ None ↦ refl | Some t ↦ refl ]
        ∙ sym (ap (λ (k : Option Object). runs_of k p) (calmed-gone o))
    runs-calm false (Some (ThreadObject t)) p =
        sym (ap (λ (b : Bool). if b && t.priority == p then 1 else 0) (still-runs t.status))
        ∙ sym (ap (λ (k : Option Object). runs_of k p) (calmed-thread t))
    runs-calm false None p = refl
    runs-calm false (Some (EndpointObject e)) p = refl
    runs-calm false (Some (NotificationObject n)) p = refl
    runs-calm false (Some (CNodeObject radix)) p = refl
    runs-calm false (Some FrameObject) p = refl
    runs-calm false (Some PageTableObject) p = refl
    runs-calm false (Some RootTableObject) p = refl

    calm-fine : (t : ThreadState) → ThreadIsSound t → ThreadIsSound (calm_thread t)
    calm-fine t fine = record {
      registers = fine.registers;
      words = fine.words;
      pc = fine.pc;
      priority = fine.priority;
      fault_address = fine.fault_address;
      slice = λ runs. fine.slice (sym (still-runs t.status) ∙ runs);
    }

  -- ---- queues

  -- the threads of senders that are left
  senders-left : (senders : List Sender)
      → map (λ sender. sender.thread) (filter (λ sender. not (gone sender.thread)) senders) ≡ filter (λ thread. not (gone thread))
      (map (λ sender. sender.thread) senders)
  senders-left [] = refl
  senders-left (sender ∷ senders) =
      let kept = filter (λ sender. not (gone sender.thread)) senders in
      let others = filter (λ thread. not (gone thread)) (map (λ sender. sender.thread) senders) in
      elim (not (gone sender.thread)) as (λ b. map (λ sender. sender.thread) (if b then sender ∷ kept else kept)
      ≡ (if b then sender.thread ∷ others else others)) [
        | true ↦ ap (λ (l : List ℕ). sender.thread ∷ l) (senders-left senders)
        | false ↦ senders-left senders
      ]

  nothing-either : (b : Bool) → ◌≡◌ {A = ℕ} 0 (if b then 0 else 0)
  nothing-either true = refl
  nothing-either false = refl

  sum-either : (b : Bool) (m n : ℕ) → (if b then m else 0) + (if b then n else 0) ≡ (if b then m + n else 0)
  sum-either true m n = refl
  sum-either false m n = refl

  waiting-left : (o : Option Object) (x : ℕ) → times_in (waiting_at (option_map (without_threads gone) o)) x
      ≡ (if not (gone x) then times_in (waiting_at o) x else 0)
  waiting-left (Some (EndpointObject e)) x =
      let test = λ (thread : ℕ). not (gone thread) in
      let senders = map (λ (sender : Sender). sender.thread) e.senders in
      ap (λ (l : List ℕ). times_in (l ++ filter test e.receivers) x) (senders-left e.senders)
      ∙ times-append (filter test senders) (filter test e.receivers) x
      ∙ ap (λ (n : ℕ). n + times_in (filter test e.receivers) x) (times-filter test senders x)
      ∙ ap (λ (n : ℕ). (if not (gone x) then times_in senders x else 0) + n) (times-filter test e.receivers x)
      ∙ sum-either (not (gone x)) (times_in senders x) (times_in e.receivers x)
      ∙ ap (λ (n : ℕ). if not (gone x) then n else 0) (sym (times-append senders e.receivers x))
  waiting-left (Some (NotificationObject n)) x = times-filter (λ thread. not (gone thread)) n.waiters x
  waiting-left None x = nothing-either (not (gone x))
  waiting-left (Some (ThreadObject t)) x = nothing-either (not (gone x))
  waiting-left (Some (CNodeObject radix)) x = nothing-either (not (gone x))
  waiting-left (Some FrameObject) x = nothing-either (not (gone x))
  waiting-left (Some PageTableObject) x = nothing-either (not (gone x))
  waiting-left (Some RootTableObject) x = nothing-either (not (gone x))

  waiting-calm : (ending : Bool) (o : Option Object) → waiting_at (calmed ending o) ≡ waiting_at (remains ending o)
  waiting-calm ending o = elim (option_map_or (λ t. lost t.status && not ending) (as_thread o) false) as (λ b. waiting_at (if b then stilled
      (remains ending o) else remains ending o) ≡ waiting_at (remains ending o)) [
        | true ↦ stilled-waiting (remains ending o)
        | false ↦ refl
      ]

  pub times-calm : (ending : Bool) (o : Option Object) (x : ℕ) → ◌≡◌ {A = ℕ} (times_in (waiting_at (calmed ending o)) x) (if ending then 0 else if not
      (gone x) then times_in (waiting_at o) x else 0)
  times-calm ending o x =
      ap (λ (l : List ℕ). times_in l x) (waiting-calm ending o)
      ∙ elim ending as (λ e. ◌≡◌ {A = ℕ} (times_in (waiting_at (remains e o)) x) (if e then 0 else if not (gone x) then times_in
      (waiting_at o) x else 0)) [ true ↦ refl | false ↦ waiting-left o x ]

  -- ---- what was there before

  pub record EndpointWas (o : Option Object) (e : EndpointState) : Type 0 where
    pub before : EndpointState
    pub was : o ≡ Some (EndpointObject before)
    pub senders : e.senders ≡ filter (λ sender. not (gone sender.thread)) before.senders
    pub receivers : e.receivers ≡ filter (λ thread. not (gone thread)) before.receivers

  pub endpoint-was : (ending : Bool) (o : Option Object) (e : EndpointState) → calmed ending o ≡ Some (EndpointObject e) → EndpointWas o e
  endpoint-was true o e is = let clash : None ≡ Some (EndpointObject e) = sym (calmed-gone o) ∙ is in absurd cc
  endpoint-was false (Some (EndpointObject before)) e is =
      let now : EndpointState = record {
        senders = filter (λ sender. not (gone sender.thread)) before.senders;
        receivers =
            filter (λ thread. not (gone thread)) before.receivers;
      } in
      let same : now ≡ e = cc is in
      record {
        before = before;
        was = refl;
        senders = sym (ap (λ (e : EndpointState). e.senders) same);
        receivers =
            sym (ap (λ (e : EndpointState). e.receivers) same);
      }
  endpoint-was false (Some (ThreadObject t)) e is = let clash : Some (ThreadObject (calm_thread t)) ≡ Some (EndpointObject e) = sym (calmed-thread t) ∙ is in
      absurd cc
  endpoint-was false None e is = let clash : None ≡ Some (EndpointObject e) = is in absurd cc
  endpoint-was false (Some (NotificationObject n)) e is = let clash : Some (without_threads gone (NotificationObject n)) ≡ Some (EndpointObject e) = is in
      absurd cc
  endpoint-was false (Some (CNodeObject radix)) e is = let clash : Some (CNodeObject radix) ≡ Some (EndpointObject e) = is in absurd cc
  endpoint-was false (Some FrameObject) e is = let clash : Some FrameObject ≡ Some (EndpointObject e) = is in absurd cc
  endpoint-was false (Some PageTableObject) e is = let clash : Some PageTableObject ≡ Some (EndpointObject e) = is in absurd cc
  endpoint-was false (Some RootTableObject) e is = let clash : Some RootTableObject ≡ Some (EndpointObject e) = is in absurd cc

  pub record NotificationWas (o : Option Object) (n : NotificationState) : Type 0 where
    pub before : NotificationState
    pub was : o ≡ Some (NotificationObject before)
    pub word : n.word ≡ before.word
    pub waiters : n.waiters ≡ filter (λ thread. not (gone thread)) before.waiters

  pub notification-was : (ending : Bool) (o : Option Object) (n : NotificationState) → calmed ending o ≡ Some (NotificationObject n) → NotificationWas o n
  notification-was true o n is = let clash : None ≡ Some (NotificationObject n) = sym (calmed-gone o) ∙ is in absurd cc
  notification-was false (Some (NotificationObject before)) n is =
      let now : NotificationState = record before { waiters = filter (λ thread. not (gone thread)) before.waiters } in
      let same : now ≡ n = cc is in
      record {
        before = before;
        was = refl;
        word = sym (ap (λ (n : NotificationState). n.word) same);
        waiters = sym (ap (λ (n : NotificationState). n.waiters) same);
      }
  notification-was false (Some (ThreadObject t)) n is = let clash : Some (ThreadObject (calm_thread t)) ≡ Some (NotificationObject n) = sym (calmed-thread t)
      ∙ is in absurd cc
  notification-was false None n is = let clash : None ≡ Some (NotificationObject n) = is in absurd cc
  notification-was false (Some (EndpointObject e)) n is = let clash : Some (without_threads gone (EndpointObject e)) ≡ Some (NotificationObject n) = is in
      absurd cc
  notification-was false (Some (CNodeObject radix)) n is = let clash : Some (CNodeObject radix) ≡ Some (NotificationObject n) = is in absurd cc
  notification-was false (Some FrameObject) n is = let clash : Some FrameObject ≡ Some (NotificationObject n) = is in absurd cc
  notification-was false (Some PageTableObject) n is = let clash : Some PageTableObject ≡ Some (NotificationObject n) = is in absurd cc
  notification-was false (Some RootTableObject) n is = let clash : Some RootTableObject ≡ Some (NotificationObject n) = is in absurd cc

  pub record ThreadWas (o : Option Object) (t : ThreadState) : Type 0 where
    pub before : ThreadState
    pub was : o ≡ Some (ThreadObject before)
    pub now : calm_thread before ≡ t

  pub thread-was : (ending : Bool) (o : Option Object) (t : ThreadState) → calmed ending o ≡ Some (ThreadObject t) → ThreadWas o t
  thread-was true o t is = let clash : None ≡ Some (ThreadObject t) = sym (calmed-gone o) ∙ is in absurd cc
  thread-was false (Some (ThreadObject before)) t is =
      let same : Some (ThreadObject (calm_thread before)) ≡ Some (ThreadObject t) = sym (calmed-thread before) ∙ is in
      record { before = before; was = refl; now = cc }
  thread-was false None t is = let clash : None ≡ Some (ThreadObject t) = is in absurd cc
  thread-was false (Some (EndpointObject e)) t is = let clash : Some (without_threads gone (EndpointObject e)) ≡ Some (ThreadObject t) = is in absurd cc
  thread-was false (Some (NotificationObject n)) t is = let clash : Some (without_threads gone (NotificationObject n)) ≡ Some (ThreadObject t) = is in absurd cc
  thread-was false (Some (CNodeObject radix)) t is = let clash : Some (CNodeObject radix) ≡ Some (ThreadObject t) = is in absurd cc
  thread-was false (Some FrameObject) t is = let clash : Some FrameObject ≡ Some (ThreadObject t) = is in absurd cc
  thread-was false (Some PageTableObject) t is = let clash : Some PageTableObject ≡ Some (ThreadObject t) = is in absurd cc
  thread-was false (Some RootTableObject) t is = let clash : Some RootTableObject ≡ Some (ThreadObject t) = is in absurd cc

  -- ---- rights to reply

  caller-kept : (held : Option ℕ) (caller : ℕ) → (if option_map_or gone held false then None else held) ≡ Some caller → (held ≡ Some caller)
      × (gone caller ≡ false)
  caller-kept None caller is = let clash : None ≡ Some caller = is in absurd cc
  caller-kept (Some c) caller is = elim (gone c) as (λ b. gone c ≡ b → (if b then None else Some c) ≡ Some caller → (Some c ≡ Some caller)
      × (gone caller ≡ false)) [
        | true ↦ λ _ so. let clash : None ≡ Some caller = so in absurd cc
        | false ↦ λ stays so. (so, let e : c ≡ caller = cc so in ap gone (sym e) ∙ stays)
      ] refl is

  pub caller-calm : (ending : Bool) (o : Option Object) (caller : ℕ) → (own_of (calmed ending o)).caller ≡ Some caller → ((own_of o).caller ≡ Some caller)
      × (gone caller ≡ false)
  caller-calm true o caller is = let clash : None ≡ Some caller = sym (ap (λ (k : Option Object). (own_of k).caller) (calmed-gone o)) ∙ is in absurd cc
  caller-calm false (Some (ThreadObject t)) caller is = caller-kept t.caller caller (sym (ap (λ (k : Option Object). (own_of k).caller) (calmed-thread t)) ∙ is)
  caller-calm false None caller is = let clash : None ≡ Some caller = is in absurd cc
  caller-calm false (Some (EndpointObject e)) caller is = let clash : None ≡ Some caller = is in absurd cc
  caller-calm false (Some (NotificationObject n)) caller is = let clash : None ≡ Some caller = is in absurd cc
  caller-calm false (Some (CNodeObject radix)) caller is = let clash : None ≡ Some caller = is in absurd cc
  caller-calm false (Some FrameObject) caller is = let clash : None ≡ Some caller = is in absurd cc
  caller-calm false (Some PageTableObject) caller is = let clash : None ≡ Some caller = is in absurd cc
  caller-calm false (Some RootTableObject) caller is = let clash : None ≡ Some caller = is in absurd cc

  module _ (waits : (status : Status) → awaits_answer status ≡ true → lost status ≡ false) where
    pub awaits-calm : (ending : Bool) (o : Option Object) → option_map_or (λ _. ending) (as_thread o) false ≡ false → awaits_answer (own_of o).status ≡ true
        → awaits_answer (own_of (calmed ending o)).status ≡ true
    awaits-calm true (Some (ThreadObject t)) stays is = let clash : true ≡ false = stays in absurd cc
    awaits-calm false (Some (ThreadObject t)) stays is =
        ap (λ (k : Option Object). awaits_answer (own_of k).status) (calmed-thread t)
        ∙ ap (λ b. awaits_answer (if b then Inactive else t.status)) (waits t.status is)
        ∙ is
    awaits-calm ending None stays is = let clash : false ≡ true = is in absurd cc
    awaits-calm ending (Some (EndpointObject e)) stays is = let clash : false ≡ true = is in absurd cc
    awaits-calm ending (Some (NotificationObject n)) stays is = let clash : false ≡ true = is in absurd cc
    awaits-calm ending (Some (CNodeObject radix)) stays is = let clash : false ≡ true = is in absurd cc
    awaits-calm ending (Some FrameObject) stays is = let clash : false ≡ true = is in absurd cc
    awaits-calm ending (Some PageTableObject) stays is = let clash : false ≡ true = is in absurd cc
    awaits-calm ending (Some RootTableObject) stays is = let clash : false ≡ true = is in absurd cc

-- ---- the state

abbrev pub calm : State → SlotSet → State
calm s set = record (left s set) { objects = λ o. if is_set_back s set o then stilled ((left s set).objects o) else (left s set).objects o }

module _ (s : State) (set : SlotSet) (r : Removes s set) where
  abbrev gone : ℕ → Bool
  gone = is_ending_thread s set

  abbrev lost : Status → Bool
  lost = waits_on_ended s set

  lost-stops : (status : Status) → lost status ≡ true → is_runnable status ≡ false
  lost-stops (Blocked q) is = refl
  lost-stops Inactive is = refl
  lost-stops Runnable is = let clash : false ≡ true = is in absurd cc
  lost-stops AwaitsReply is = refl
  lost-stops AwaitsHandler is = refl

  lost-awaits : (status : Status) → awaits_answer status ≡ true → lost status ≡ false
  lost-awaits (Blocked q) is = let clash : false ≡ true = is in absurd cc
  lost-awaits Inactive is = refl
  lost-awaits Runnable is = refl
  lost-awaits AwaitsReply is = refl
  lost-awaits AwaitsHandler is = refl

  -- nobody waits where nobody did
  nowhere : (q : ℕ) → ◌≡◌ {A = ℕ} (if ends s set q then 0 else 0) 0
  nowhere q = elim (ends s set q) as (λ b. ◌≡◌ {A = ℕ} (if b then 0 else 0) 0) [ true ↦ refl | false ↦ refl ]

  -- who waits at what ends waits nowhere, and others wait where they did
  waits-status : (status : Status) (q : ℕ) → ◌≡◌ {A = ℕ} (if ends s set q then 0 else if is_blocked_on q status then 1 else 0)
      (if is_blocked_on q (if lost status then Inactive else status) then 1 else 0)
  waits-status (Blocked queue) q = elim (eqb_tells queue q) [
    | inl here ↦ elim (ends s set q) as (λ b. ends s set q ≡ b → ◌≡◌ {A = ℕ} (if b then 0 else if queue == q then 1 else 0)
        (if is_blocked_on q (if ends s set queue then Inactive else Blocked queue) then 1 else 0)) [
          | true ↦ λ is. sym (ap (λ b. if is_blocked_on q (if b then Inactive else Blocked queue) then 1 else 0) (ap (ends s set) here.1 ∙ is))
          | false ↦ λ is. sym (ap (λ b. if is_blocked_on q (if b then Inactive else Blocked queue) then 1 else 0) (ap (ends s set) here.1 ∙ is))
        ] refl
    | inr other ↦
        ap (λ b. if ends s set q then 0 else if b then 1 else 0) other.0
        ∙ nowhere q
        ∙ elim (ends s set queue) as (λ b. ◌≡◌ {A = ℕ} 0 (if is_blocked_on q (if b then Inactive else Blocked queue) then 1 else 0)) [
          | true ↦ refl
          | false ↦ sym (ap (λ (b : Bool). if b then 1 else 0) other.0)
        ]
  ]
  waits-status Inactive q = nowhere q
  waits-status Runnable q = nowhere q
  waits-status AwaitsReply q = nowhere q
  waits-status AwaitsHandler q = nowhere q

  waits-calm : (ending : Bool) (o : Option Object) (q : ℕ)
      → ◌≡◌ {A = ℕ} (if ends s set q then 0 else if not (option_map_or (λ _. ending) (as_thread o) false) then waits_of o q else 0)
      (waits_of (calmed gone lost ending o) q)
  waits-calm true o q =
      elim (as_thread o) as (λ t. ◌≡◌ {A = ℕ} (if ends s set q then 0 else if not (option_map_or (λ _. true) t false) then (if option_map_or
      (λ t. is_blocked_on q t.status) t false then 1 else 0) else 0) 0) [
        | None ↦ nowhere q
        | Some t ↦ nowhere q
      ]
      ∙ sym (ap (λ (k : Option Object). waits_of k q) (calmed-gone gone lost o))
  waits-calm false (Some (ThreadObject t)) q = waits-status t.status q ∙ sym (ap (λ (k : Option Object). waits_of k q) (calmed-thread gone lost t))
  waits-calm false None q = nowhere q
  waits-calm false (Some (EndpointObject e)) q = nowhere q
  waits-calm false (Some (NotificationObject n)) q = nowhere q
  waits-calm false (Some (CNodeObject radix)) q = nowhere q
  waits-calm false (Some FrameObject) q = nowhere q
  waits-calm false (Some PageTableObject) q = nowhere q
  waits-calm false (Some RootTableObject) q = nowhere q

  threads-calm : ThreadsAreSound (calm s set)
  threads-calm =
      let before = r.sound.threads in
      record {
        threads = λ thread t is.
            let was = thread-was gone lost (ends s set thread) (s.objects thread) t is in
            subst ThreadIsSound (ThreadWas.now was)
            (calm-fine gone lost lost-stops (ThreadWas.before was) (before.threads thread (ThreadWas.before was) (ThreadWas.was was)));
        ready = λ thread priority.
            times-filter (λ other. not (gone other)) (s.ready priority) thread
            ∙ ap (λ (n : ℕ). if not (gone thread) then n else 0) (before.ready thread priority)
            ∙ runs-calm gone lost lost-stops (ends s set thread) (s.objects thread) priority;
        queued = λ thread queue.
            times-calm gone lost (ends s set queue) (s.objects queue) thread
            ∙ ap (λ (n : ℕ). if ends s set queue then 0 else if not (gone thread) then n else 0) (before.queued thread queue)
            ∙ waits-calm (ends s set thread) (s.objects thread) queue;
        one_sided = λ offset e is.
            let was = endpoint-was gone lost (ends s set offset) (s.objects offset) e is in
            elim (before.one_sided offset (EndpointWas.before was) (EndpointWas.was was)) [
              | inl none ↦ inl (EndpointWas.senders was ∙ ap (filter (λ (sender : Sender). not (gone sender.thread))) none)
              | inr none ↦ inr (EndpointWas.receivers was ∙ ap (filter (λ (thread : ℕ). not (gone thread))) none)
            ];
        senders = λ offset e is.
            let was = endpoint-was gone lost (ends s set offset) (s.objects offset) e is in
            subst (All SenderIsSound) (sym (EndpointWas.senders was))
            (All-filter (λ (sender : Sender). not (gone sender.thread)) SenderIsSound (EndpointWas.before was).senders
            (before.senders offset (EndpointWas.before was)
            (EndpointWas.was was)));
        words = λ offset n is.
            let was = notification-was gone lost (ends s set offset) (s.objects offset) n is in
            subst (λ (word : ℕ). word < 2 ^ 28) (sym (NotificationWas.word was)) (before.words offset (NotificationWas.before was) (NotificationWas.was was));
        idle = λ offset n is.
            let was = notification-was gone lost (ends s set offset) (s.objects offset) n is in
            elim (before.idle offset (NotificationWas.before was) (NotificationWas.was was)) [
              | inl none ↦ inl (NotificationWas.waiters was ∙ ap (filter (λ (thread : ℕ). not (gone thread))) none)
              | inr clear ↦ inr (NotificationWas.word was ∙ clear)
            ];
        callers = λ thread caller is.
            let was = caller-calm gone lost (ends s set thread) (s.objects thread) caller is in
            awaits-calm gone lost lost-awaits (ends s set caller) (s.objects caller) was.1 (before.callers thread caller was.0);
        one_right = λ a b caller one two.
            before.one_right a b caller (caller-calm gone lost (ends s set a) (s.objects a) caller one).0
            (caller-calm gone lost (ends s set b) (s.objects b) caller two).0;
      }

  calm-kind : (o : ℕ) → option_map kind_of (if is_set_back s set o then stilled ((left s set).objects o) else (left s set).objects o) ≡ kind_at (left s set) o
  calm-kind o = elim (is_set_back s set o) as (λ b. option_map kind_of (if b then stilled ((left s set).objects o) else (left s set).objects o) ≡ kind_at
      (left s set) o) [
        | true ↦ stilled-kind ((left s set).objects o)
        | false ↦ refl
      ]

  shape-left : HasShape (left s set)
  shape-left = record {
    least_bits = r.sound.shape.least_bits;
    most_bits = r.sound.shape.most_bits;
    least_radix = r.sound.shape.least_radix;
    most_radix = r.sound.shape.most_radix;
    room = r.sound.shape.room;
  }

  rest-left : RestIsSound (left s set)
  rest-left = record { shape = shape-left; slots = slots-left s set r; memory = memory-left s set r; mappings = mappings-left s set r }

  pub calm-sound : IsSound (calm s set)
  calm-sound = sound-of (calm s set) (rest-kept (left s set) (calm s set).objects (left s set).ready s.masked s.pending calm-kind rest-left) threads-calm
