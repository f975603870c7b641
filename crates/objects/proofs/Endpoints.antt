-- Endpoints and notifications that are there, with those that wait.
use Rattle.std.proofs.Common.{ℕ, ◌≡◌, ◌∙◌, ◌&&◌, ◌↔◌, inl, inr, Bool, true, false, if◌then◌else◌, Option, Some, None, is_some, option_map, List, [], ◌∷◌, ◌++◌}
use Rattle.std.proofs.Common.{drop, length, length-append, map, refl, sym, ap, arith}
use Rattle.std.specs.Prelude.{slice_index}
use Rattle.std.specs.Option.{option_map_or}
use Rattle.std.proofs.lemmas.Bool.Decides.{eqb_tells}
use Rattle.model.specs.Capabilities.Slots.{Slots}
use Rattle.model.specs.Kernel.Kinds.{frame_around, kind_at, kind_of}
use Rattle.model.specs.Kernel.Retype.{NewEndpoint, NewNotification}
use Rattle.model.specs.Kernel.Scheduling.{head_of}
use Rattle.model.specs.Kernel.Soundness.{waiting_at}
use Rattle.model.specs.Kernel.State.{CNodeObject, EndpointObject, EndpointState, FrameObject, NotificationObject, NotificationState, Object, PageTableObject}
use Rattle.model.specs.Kernel.State.{RootTableObject, State, ThreadObject, Sender, as_endpoint, as_notification, endpoint_at, new_endpoint, new_notification}
use Rattle.model.specs.Kernel.State.{notification_at, put, with_object}
use Rattle.objects.proofs.Kept.{put-here, put-there}
use Rattle.objects.proofs.Serving.{first-receives, first-sends}
use Rattle.objects.specs.Contents.{Contents, is_frame, kind_in, object_from, object_in, object_of, receivers_in, senders_in, sending_in, contents_state}
use Rattle.objects.specs.Contents.{told_by, waiting_of}
use Rattle.objects.specs.thread_records.Threads.{sender_of}
use Rattle.objects.specs.Waiting.{IsOneSided, changed_at, has_waiting, with_word}
use Rattle.objects.specs.Contents.{Record}
use Rattle.objects.specs.Contents.{Endpoint, Notification, CNode, Frame, PageTable, RootTable}
use Rattle.objects.specs.declared.thread_records.records.Sending.{Sending}
use Rattle.objects.specs.declared.thread_records.records.Thread.{Thread}
use Rattle.objects.proofs.Lists.{head-rest}
use Rattle.objects.proofs.Told.{kind-from, state_with}
pub use Rattle.objects.proofs.Told.{kind-state}

-- ---- in any state

pub endpoint-there : (o : Option Object) → option_map kind_of o ≡ Some NewEndpoint →
    o ≡ Some (EndpointObject (option_map_or (λ e. e) (as_endpoint o) new_endpoint))
endpoint-there (Some (EndpointObject e)) is = refl
endpoint-there None is = absurd cc
endpoint-there (Some (ThreadObject t)) is = absurd cc
endpoint-there (Some (NotificationObject n)) is = absurd cc
endpoint-there (Some (CNodeObject radix)) is = absurd cc
endpoint-there (Some FrameObject) is = absurd cc
endpoint-there (Some PageTableObject) is = absurd cc
endpoint-there (Some RootTableObject) is = absurd cc

pub notification-there : (o : Option Object) → option_map kind_of o ≡ Some NewNotification →
    o ≡ Some (NotificationObject (option_map_or (λ n. n) (as_notification o) new_notification))
notification-there (Some (NotificationObject n)) is = refl
notification-there None is = absurd cc
notification-there (Some (ThreadObject t)) is = absurd cc
notification-there (Some (EndpointObject e)) is = absurd cc
notification-there (Some (CNodeObject radix)) is = absurd cc
notification-there (Some FrameObject) is = absurd cc
notification-there (Some PageTableObject) is = absurd cc
notification-there (Some RootTableObject) is = absurd cc

pub changed-endpoint : (s : State) (endpoint : ℕ) (change : Object → Object) → kind_at s endpoint ≡ Some NewEndpoint
    → changed_at s endpoint change ≡ with_object s endpoint (change (EndpointObject (endpoint_at s endpoint)))
changed-endpoint s endpoint change is =
    ap (λ o. record s { objects = put s.objects endpoint (option_map change o) }) (endpoint-there (s.objects endpoint) is)

pub changed-notification : (s : State) (notification : ℕ) (change : Object → Object) → kind_at s notification ≡ Some NewNotification
    → changed_at s notification change ≡ with_object s notification (change (NotificationObject (notification_at s notification)))
changed-notification s notification change is =
    ap (λ o. record s { objects = put s.objects notification (option_map change o) }) (notification-there (s.objects notification) is)

-- ---- in the state of tables

endpoint-from : (threads : ℕ → Option Thread) (waiting : List ℕ) (t : Option Thread) (r : Option Record)
    → option_map kind_of (object_from t (option_map (object_of threads waiting) r)) ≡ Some NewEndpoint
    → option_map_or (λ e. e) (as_endpoint (object_from t (option_map (object_of threads waiting) r))) new_endpoint
    ≡ record { senders = senders_in threads waiting; receivers = receivers_in threads waiting }
endpoint-from threads waiting None (Some Endpoint) is = refl
endpoint-from threads waiting (Some t) r is = absurd cc
endpoint-from threads waiting None None is = absurd cc
endpoint-from threads waiting None (Some (Notification word)) is = absurd cc
endpoint-from threads waiting None (Some (CNode radix)) is = absurd cc
endpoint-from threads waiting None (Some Frame) is = absurd cc
endpoint-from threads waiting None (Some PageTable) is = absurd cc
endpoint-from threads waiting None (Some RootTable) is = absurd cc

waiters-from : (threads : ℕ → Option Thread) (waiting : List ℕ) (t : Option Thread) (r : Option Record)
    → option_map kind_of (object_from t (option_map (object_of threads waiting) r)) ≡ Some NewNotification
    → (option_map_or (λ n. n) (as_notification (object_from t (option_map (object_of threads waiting) r))) new_notification).waiters ≡ waiting
waiters-from threads waiting None (Some (Notification word)) is = refl
waiters-from threads waiting (Some t) r is = absurd cc
waiters-from threads waiting None None is = absurd cc
waiters-from threads waiting None (Some Endpoint) is = absurd cc
waiters-from threads waiting None (Some (CNode radix)) is = absurd cc
waiters-from threads waiting None (Some Frame) is = absurd cc
waiters-from threads waiting None (Some PageTable) is = absurd cc
waiters-from threads waiting None (Some RootTable) is = absurd cc

no-head : (l : List ℕ) → head_of l ≡ None → l ≡ []
no-head [] none = refl
no-head (x ∷ rest) none = absurd cc

again : {A : Type 0} (l : List A) (x : A) (rest : List A) → l ≡ x ∷ rest → l ≡ x ∷ drop 1 l
again l x rest is = is ∙ ap (λ r. x ∷ r) (sym (ap (drop 1) is))

pub sends-nothing : (sending : Option Sending) → is_some sending ≡ false → sending ≡ None
sends-nothing None is = refl
sends-nothing (Some sending) is = absurd (let clash : true ≡ false = is in cc)

module _ (o : Contents) (endpoint : ℕ) (slots : Slots) (memory : List ℕ) (is : kind_at (contents_state o slots memory) endpoint ≡ Some NewEndpoint) where
  abbrev e : EndpointState
  e = endpoint_at (contents_state o slots memory) endpoint

  abbrev waiting : List ℕ
  waiting = waiting_of o memory endpoint

  endpoint-in : e ≡ record { senders = senders_in o.threads waiting; receivers = receivers_in o.threads waiting }
  unfolding told_by
  endpoint-in = endpoint-from o.threads waiting (o.threads endpoint) (o.records endpoint) is

  pub nobody-sends : head_of waiting ≡ None → e.senders ≡ []
  nobody-sends none = ap (λ (x : EndpointState). x.senders) endpoint-in ∙ ap (senders_in o.threads) (no-head waiting none)

  pub nobody-receives : head_of waiting ≡ None → e.receivers ≡ []
  nobody-receives none = ap (λ (x : EndpointState). x.receivers) endpoint-in ∙ ap (receivers_in o.threads) (no-head waiting none)

  module _ (thread : ℕ) (first : head_of waiting ≡ Some thread) where
    pub sender-first : (sending : Sending) → sending_in o.threads thread ≡ Some sending → e.senders ≡ sender_of thread sending ∷ drop 1 e.senders
    sender-first sending sends =
        again e.senders (sender_of thread sending) _
        (ap (λ (x : EndpointState). x.senders) endpoint-in ∙ ap (senders_in o.threads) (head-rest waiting thread first)
        ∙ first-sends (sending_in o.threads) thread (drop 1 waiting) sending sends)

    pub receiver-first : sending_in o.threads thread ≡ None → e.receivers ≡ thread ∷ drop 1 e.receivers
    receiver-first receives =
        again e.receivers thread _
        (ap (λ (x : EndpointState). x.receivers) endpoint-in ∙ ap (receivers_in o.threads) (head-rest waiting thread first)
        ∙ first-receives (sending_in o.threads) thread (drop 1 waiting) receives)

    pub no-sender : sending_in o.threads thread ≡ None → IsOneSided e → e.senders ≡ []
    no-sender receives sides = elim sides [
      | inl none ↦ none
      | inr none ↦ absurd (let clash : [] ≡ thread ∷ drop 1 e.receivers = sym none ∙ receiver-first receives in cc)
    ]

    pub no-receiver : (sending : Option Sending) → sending ≡ sending_in o.threads thread → is_some sending ≡ true → IsOneSided e → e.receivers ≡ []
    no-receiver None sends some sides = absurd (let clash : false ≡ true = some in cc)
    no-receiver (Some sending) sends some sides = elim sides [
      | inl none ↦ absurd (let clash : [] ≡ sender_of thread sending ∷ drop 1 e.senders = sym none ∙ sender-first sending (sym sends) in cc)
      | inr none ↦ none
    ]

module _ (o : Contents) (notification : ℕ) (slots : Slots) (memory : List ℕ)
    (is : kind_at (contents_state o slots memory) notification ≡ Some NewNotification) where
  abbrev n : NotificationState
  n = notification_at (contents_state o slots memory) notification

  abbrev queue : List ℕ
  queue = waiting_of o memory notification

  waiters-in : n.waiters ≡ queue
  unfolding told_by
  waiters-in = waiters-from o.threads queue (o.threads notification) (o.records notification) is

  pub nobody-waits : head_of queue ≡ None → n.waiters ≡ []
  nobody-waits none = waiters-in ∙ no-head queue none

  pub waiter-first : (thread : ℕ) → head_of queue ≡ Some thread → n.waiters ≡ thread ∷ drop 1 n.waiters
  waiter-first thread first = again n.waiters thread _ (waiters-in ∙ head-rest queue thread first)

-- ---- whether someone waits

someone-waits : (threads : ℕ → Option Thread) (thread : ℕ) (rest : List ℕ) → map (λ (sender : Sender). sender.thread) (senders_in threads (thread ∷ rest))
    ++ receivers_in threads (thread ∷ rest) ≡ [] → ⊥
someone-waits threads thread rest none = elim (sending_in threads thread) as (λ o. sending_in threads thread ≡ o → ⊥) [
  | Some sending ↦ λ sends.
      let first = ap length (ap (λ (l : List Sender). map (λ (sender : Sender). sender.thread) l ++ receivers_in threads (thread ∷ rest))
      (sym (first-sends (sending_in threads) thread rest sending sends)) ∙ none) in
      omega (arith, first)
  | None ↦ λ receives.
      let first = ap length (ap (λ (l : List ℕ). map (λ (sender : Sender). sender.thread) (senders_in threads (thread ∷ rest)) ++ l)
      (sym (first-receives (sending_in threads) thread rest receives)) ∙ none) in
      let both = length-append (map (λ (sender : Sender). sender.thread) (senders_in threads (thread ∷ rest))) (thread ∷ receivers_in threads rest) in
      omega (arith, first, both)
] refl

waited-from : (threads : ℕ → Option Thread) (waiting : List ℕ) (t : Option Thread) (r : Option Record)
    → ((has_waiting (option_map kind_of (object_from t (option_map (object_of threads []) r))) && is_some (head_of waiting)) ≡ false) ↔
    (waiting_at (object_from t (option_map (object_of threads waiting) r)) ≡ [])
waited-from threads waiting (Some t) r = (λ _. refl, λ _. refl)
waited-from threads waiting None None = (λ _. refl, λ _. refl)
waited-from threads [] None (Some Endpoint) = (λ _. refl, λ _. refl)
waited-from threads (thread ∷ rest) None (Some Endpoint) =
    (λ is. absurd (let clash : true ≡ false = is in cc), λ none. absurd (someone-waits threads thread rest none))
waited-from threads [] None (Some (Notification word)) = (λ _. refl, λ _. refl)
waited-from threads (thread ∷ rest) None (Some (Notification word)) =
    (λ is. absurd (let clash : true ≡ false = is in cc), λ none. absurd (let clash : thread ∷ rest ≡ [] = none in cc))
waited-from threads waiting None (Some (CNode radix)) = (λ _. refl, λ _. refl)
waited-from threads waiting None (Some Frame) = (λ _. refl, λ _. refl)
waited-from threads waiting None (Some PageTable) = (λ _. refl, λ _. refl)
waited-from threads waiting None (Some RootTable) = (λ _. refl, λ _. refl)

pub waited-in : (o : Contents) (slots : Slots) (memory : List ℕ) (offset : ℕ) (waited : Bool) →
    waited ≡ (has_waiting (kind_in o offset) && is_some (head_of (waiting_of o memory offset)))
    → (waited ≡ false) ↔ (waiting_at ((contents_state o slots memory).objects offset) ≡ [])
unfolding told_by
waited-in o slots memory offset waited is =
    let same = waited-from o.threads (waiting_of o memory offset) (o.threads offset) (o.records offset) in
    (λ none. same.0 (sym is ∙ none), λ none. is ∙ same.1 none)

-- ---- another word

word-from : (threads : ℕ → Option Thread) (waiting : List ℕ) (word : ℕ) (t : Option Thread) (r : Option Record)
    → option_map kind_of (object_from t (option_map (object_of threads waiting) r)) ≡ Some NewNotification
    → object_from t (option_map (object_of threads waiting) (Some (Notification word)))
    ≡ Some (NotificationObject (record (option_map_or (λ n. n) (as_notification (object_from t (option_map (object_of threads waiting) r))) new_notification)
    { word = word }))
word-from threads waiting word None (Some (Notification old)) is = refl
word-from threads waiting word (Some t) r is = absurd cc
word-from threads waiting word None None is = absurd cc
word-from threads waiting word None (Some Endpoint) is = absurd cc
word-from threads waiting word None (Some (CNode radix)) is = absurd cc
word-from threads waiting word None (Some Frame) is = absurd cc
word-from threads waiting word None (Some PageTable) is = absurd cc
word-from threads waiting word None (Some RootTable) is = absurd cc

no-frame : (threads : ℕ → Option Thread) (waiting : List ℕ) (t : Option Thread) (r : Option Record)
    → option_map kind_of (object_from t (option_map (object_of threads waiting) r)) ≡ Some NewNotification → option_map_or is_frame r false ≡ false
no-frame threads waiting None (Some (Notification word)) is = refl
no-frame threads waiting (Some t) r is = absurd cc
no-frame threads waiting None None is = refl
no-frame threads waiting None (Some Endpoint) is = refl
no-frame threads waiting None (Some (CNode radix)) is = refl
no-frame threads waiting None (Some Frame) is = absurd cc
no-frame threads waiting None (Some PageTable) is = refl
no-frame threads waiting None (Some RootTable) is = refl

module _ (o : Contents) (records : ℕ → Option Record) (notification word : ℕ) (is : kind_in o notification ≡ Some NewNotification)
    (replaced : (other : ℕ) → records other ≡ put (o.records) notification (Some (Notification word)) other) where
  abbrev now : Contents
  now = record o { records = records }

  abbrev value : (ℕ → List ℕ) → Object
  value waiting = NotificationObject (record (option_map_or (λ n. n) (as_notification (object_in o waiting notification)) new_notification) { word = word })

  is-now : (waiting : ℕ → List ℕ) → option_map kind_of (object_in o waiting notification) ≡ Some NewNotification
  is-now waiting = kind-from o.threads (waiting notification) (o.threads notification) (o.records notification) ∙ is

  object-word : (waiting : ℕ → List ℕ) (other : ℕ) → object_in now waiting other ≡ put (object_in o waiting) notification (Some (value waiting)) other
  object-word waiting other = elim (eqb_tells other notification) [
    | inl here ↦
        ap (object_in now waiting) here.1
        ∙ ap (λ r. object_from (o.threads notification) (option_map (object_of o.threads (waiting notification)) r))
        (replaced notification ∙ put-here (o.records) notification _)
        ∙ word-from o.threads (waiting notification) word (o.threads notification) (o.records notification) (is-now waiting)
        ∙ ap (λ b. if b then Some (value waiting) else object_in o waiting other) (sym here.0)
    | inr apart ↦
        ap (λ r. object_from (o.threads other) (option_map (object_of o.threads (waiting other)) r))
        (replaced other ∙ put-there (o.records) notification _ other apart.1)
        ∙ ap (λ b. if b then Some (value waiting) else object_in o waiting other) (sym apart.0)
  ]

  frame-word : (other : ℕ) → option_map_or is_frame (records other) false ≡ option_map_or is_frame (o.records other) false
  frame-word other = elim (eqb_tells other notification) [
    | inl here ↦
        ap (λ (x : ℕ). option_map_or is_frame (records x) false) here.1
        ∙ ap (λ r. option_map_or is_frame r false) (replaced notification ∙ put-here (o.records) notification _)
        ∙ sym (ap (λ (x : ℕ). option_map_or is_frame (o.records x) false) here.1
        ∙ no-frame o.threads [] (o.threads notification) (o.records notification) is)
    | inr apart ↦ ap (λ r. option_map_or is_frame r false) (replaced other ∙ put-there (o.records) notification _ other apart.1)
  ]

  pub word-with : (waiting ready : ℕ → List ℕ) (slots : Slots) (memory : List ℕ) →
      state_with now waiting ready slots memory ≡ with_word (state_with o waiting ready slots memory) notification word
  word-with waiting ready slots memory = λ i. record (state_with o waiting ready slots memory) {
    objects = λ other. object-word waiting other i;
    bytes = λ place. ap (λ b. if b then Some (slice_index memory place) else None) (frame-word (frame_around place)) i;
  }
