-- Queues of endpoints after a step: who waits there waited there before, or is the thread that runs, by its call.
use Rattle.std.proofs.Common.{ℕ, ◌≡◌, ◌≢◌, ◌∙◌, ◌⊎◌, ◌==◌, ◌+◌, ◌++◌, ◌<◌, ◌≤◌, map, length, get_or, inl, inr, Bool, true, false, if◌then◌else◌, Option}
use Rattle.std.proofs.Common.{suc, zero, Some, None, option_map, List, [], ◌∷◌, refl, sym, ap, subst, arith}
use Rattle.std.specs.Prelude.{Contains}
use Rattle.std.specs.Option.{option_map_or}
use Rattle.std.proofs.lemmas.Bool.{eqb-true}
use Rattle.std.proofs.lemmas.Bool.Decides.{eqb_tells}
use Rattle.model.specs.Acceptance.Authority.{AsksAs, CallNames, EndpointChange, ObjectChange, WithinAuthority, self_of, appears, ends}
use Rattle.model.specs.Acceptance.Authority.{takes_receiver, takes_sender, waits_to_receive, waits_to_send}
use Rattle.model.specs.Images.Image.{Image, Thread}
use Rattle.model.specs.Kernel.Deliveries.{ReceivesFrom}
use Rattle.model.specs.Kernel.Kinds.{kind_of}
use Rattle.model.specs.Kernel.Retype.{NewCNode, NewEndpoint, NewFrame, NewNotification, NewObject, NewPageTable, NewRootTable, NewThread, NewUntyped, object}
use Rattle.model.specs.Kernel.Soundness.{IsSound, is_blocked_on, waiting_at, waits_at}
use Rattle.model.specs.Kernel.State.{AwaitsHandler, AwaitsReply, Blocked, CNodeObject, EndpointObject, EndpointState, FrameObject, Inactive, NotificationObject}
use Rattle.model.specs.Kernel.State.{Object, PageTableObject, RootTableObject, Runnable, Sender, State, Status, ThreadObject, ThreadState, as_thread}
use Rattle.model.specs.Kernel.State.{new_endpoint}
use Rattle.model.specs.Kernel.State.{new_thread, thread_at}
use Rattle.model.specs.Shared.Lists.{times_in}
use Rattle.response.proofs.Sums.{further}

-- ---- lists

none-in : {A : Type 0} (x : A) → Contains [] x → ⊥
none-in x at = absurd (let inside = at.1 in omega (arith, inside))

-- the last of a list, or one before
pub last-or : {A : Type 0} (xs : List A) (y x : A) → Contains (xs ++ y ∷ []) x → Contains xs x ⊎ (y ≡ x)
last-or xs y x at = go xs at.0 at.1 at.2
  where
    go : {A : Type 0} {y x : A} (xs : List A) (k : ℕ) → k < length (xs ++ y ∷ []) → get_or (xs ++ y ∷ []) k x ≡ x → Contains xs x ⊎ (y ≡ x)
    go [] zero inside is = inr is
    go [] (suc k) inside is = absurd (omega (arith, inside))
    go (z ∷ zs) zero inside is = inl (0, omega arith, is)
    go {x = x} (z ∷ zs) (suc k) inside is = elim (go zs k (omega (arith, inside)) is) [
      | inl before ↦ inl (further z x zs before)
      | inr last ↦ inr last
    ]

times-more : (n place : ℕ) (rest : List ℕ) → times_in rest place ≤ times_in (n ∷ rest) place
times-more n place rest = elim (n == place) as (λ b. times_in rest place ≤ (if b then times_in rest place + 1 else times_in rest place))
    [ true ↦ omega arith | false ↦ omega arith ]

times-here : (n place : ℕ) (rest : List ℕ) → n ≡ place → 1 ≤ times_in (n ∷ rest) place
times-here n place rest here = elim (eqb_tells n place) [
  | inl same ↦ (let one : times_in (n ∷ rest) place ≡ times_in rest place + 1 =
      ap (λ (b : Bool). if b then times_in rest place + 1 else times_in rest place) same.0 in omega (arith, one))
  | inr apart ↦ absurd (apart.1 here)
]

times-receiver : (l : List Sender) (rs : List ℕ) (place : ℕ) → times_in rs place ≤ times_in (map (λ (x : Sender). x.thread) l ++ rs) place
times-receiver [] rs place = omega arith
times-receiver (x ∷ l) rs place =
    let rest = times-receiver l rs place in
    let more = times-more x.thread place (map (λ (y : Sender). y.thread) l ++ rs) in
    omega (arith, rest, more)

times-among : (rs : List ℕ) (place k : ℕ) → k < length rs → get_or rs k place ≡ place → 1 ≤ times_in rs place
times-among [] place k inside is = absurd (omega (arith, inside))
times-among (r ∷ rs) place zero inside is = times-here r place rs is
times-among (r ∷ rs) place (suc k) inside is =
    let rest = times-among rs place k (omega (arith, inside)) is in let more = times-more r place rs in omega (arith, rest, more)

times-sender : (l : List Sender) (rs : List ℕ) (x : Sender) (k : ℕ) → k < length l → get_or l k x ≡ x
    → 1 ≤ times_in (map (λ (y : Sender). y.thread) l ++ rs) x.thread
times-sender [] rs x k inside is = absurd (omega (arith, inside))
times-sender (y ∷ l) rs x zero inside is =
    times-here y.thread x.thread (map (λ (z : Sender). z.thread) l ++ rs) (ap (λ (z : Sender). z.thread) is)
times-sender (y ∷ l) rs x (suc k) inside is =
    let rest = times-sender l rs x k (omega (arith, inside)) is in
    let more = times-more y.thread x.thread (map (λ (z : Sender). z.thread) l ++ rs) in
    omega (arith, rest, more)

-- ---- who is in a queue waits there

blocked-status : (queue : ℕ) (status : Status) → is_blocked_on queue status ≡ true → status ≡ Blocked queue
blocked-status queue (Blocked other) is = ap Blocked (eqb-true other queue is)
blocked-status queue Inactive is = absurd (let clash : false ≡ true = is in cc)
blocked-status queue Runnable is = absurd (let clash : false ≡ true = is in cc)
blocked-status queue AwaitsReply is = absurd (let clash : false ≡ true = is in cc)
blocked-status queue AwaitsHandler is = absurd (let clash : false ≡ true = is in cc)

module _ (s : State) (sound : IsSound s) (queue : ℕ) (e : EndpointState) (at : s.objects queue ≡ Some (EndpointObject e)) where
  counted : (thread : ℕ) → 1 ≤ times_in (map (λ (y : Sender). y.thread) e.senders ++ e.receivers) thread → (thread_at s thread).status ≡ Blocked queue
  counted thread some = by-waits (waits_at s thread queue) refl
    where
      law : times_in (map (λ (y : Sender). y.thread) e.senders ++ e.receivers) thread ≡ (if waits_at s thread queue then 1 else 0)
      law = ap (λ (l : List ℕ). times_in l thread) (sym (ap waiting_at at)) ∙ sound.threads.queued thread queue

      by-object : (o : Option ThreadState) → option_map_or (λ (u : ThreadState). is_blocked_on queue u.status) o false ≡ true
          → (option_map_or (λ (u : ThreadState). u) o new_thread).status ≡ Blocked queue
      by-object (Some own) is = blocked-status queue own.status is
      by-object None is = absurd (let clash : false ≡ true = is in cc)

      by-waits : (b : Bool) → waits_at s thread queue ≡ b → (thread_at s thread).status ≡ Blocked queue
      by-waits true is = by-object (as_thread (s.objects thread)) is
      by-waits false is = absurd (let none = law ∙ ap (λ (b : Bool). if b then 1 else 0) is in omega (arith, some, none))

  pub sender-blocked : (x : Sender) → Contains e.senders x → (thread_at s x.thread).status ≡ Blocked queue
  sender-blocked x among = counted x.thread (times-sender e.senders e.receivers x among.0 among.1 among.2)

  pub receiver-blocked : (y : ℕ) → Contains e.receivers y → (thread_at s y).status ≡ Blocked queue
  receiver-blocked y among =
      let some = times-among e.receivers y among.0 among.1 among.2 in
      let less = times-receiver e.senders e.receivers y in
      counted y (omega (arith, some, less))

-- ---- a step by authority

module _ (image : Image) (t : Thread) (s after : State) (within : WithinAuthority image t s after) (queue : ℕ) (e : EndpointState)
    (is : after.objects queue ≡ Some (EndpointObject e)) where
  -- an endpoint that was not there has denied queues
  new-empty : (kind : NewObject) → after.objects queue ≡ object kind → (e.senders ≡ []) × (e.receivers ≡ [])
  new-empty NewEndpoint made =
      let same : Some (EndpointObject e) ≡ Some (EndpointObject new_endpoint) = sym is ∙ made in
      let inside : EndpointObject e ≡ EndpointObject new_endpoint = cc in
      let alike : e ≡ new_endpoint = cc in
      (ap (λ (x : EndpointState). x.senders) alike, ap (λ (x : EndpointState). x.receivers) alike)
  new-empty NewNotification made = absurd (let clash : Some (EndpointObject e) ≡ object NewNotification = sym is ∙ made in cc)
  new-empty (NewUntyped bits) made = absurd (let clash : Some (EndpointObject e) ≡ object (NewUntyped bits) = sym is ∙ made in cc)
  new-empty NewThread made = absurd (let clash : Some (EndpointObject e) ≡ object NewThread = sym is ∙ made in cc)
  new-empty (NewCNode radix) made = absurd (let clash : Some (EndpointObject e) ≡ object (NewCNode radix) = sym is ∙ made in cc)
  new-empty NewFrame made = absurd (let clash : Some (EndpointObject e) ≡ object NewFrame = sym is ∙ made in cc)
  new-empty NewPageTable made = absurd (let clash : Some (EndpointObject e) ≡ object NewPageTable = sym is ∙ made in cc)
  new-empty NewRootTable made = absurd (let clash : Some (EndpointObject e) ≡ object NewRootTable = sym is ∙ made in cc)

  by-kinds : ObjectChange image t s after queue → (e.senders ≡ []) × (e.receivers ≡ [])
  by-kinds (appears kind absent made around) = new-empty kind made
  by-kinds (ends kind was none around) = absurd (let clash : ◌≡◌ {A = Option Object} None (Some (EndpointObject e)) = sym none ∙ is in cc)

  data Before : Type 0 where
    there : (old : EndpointState) → s.objects queue ≡ Some (EndpointObject old) → Before
    empty : e.senders ≡ [] → e.receivers ≡ [] → Before

  other-kind : (was : Option Object) → s.objects queue ≡ was → option_map kind_of was ≢ Some NewEndpoint → Before
  other-kind was at differs =
      let none = by-kinds (within.objects queue (λ alike. differs (sym (ap (option_map kind_of) at) ∙ alike ∙ ap (option_map kind_of) is))) in
      empty none.0 none.1

  by-object : (was : Option Object) → s.objects queue ≡ was → Before
  by-object (Some (EndpointObject old)) at = there old at
  by-object None at = other-kind None at (λ clash. absurd cc)
  by-object (Some (ThreadObject x)) at = other-kind (Some (ThreadObject x)) at (λ k. let clash : Some NewThread ≡ Some NewEndpoint = k in absurd cc)
  by-object (Some (NotificationObject x)) at =
      other-kind (Some (NotificationObject x)) at (λ k. let clash : Some NewNotification ≡ Some NewEndpoint = k in absurd cc)
  by-object (Some (CNodeObject radix)) at =
      other-kind (Some (CNodeObject radix)) at (λ k. let clash : Some (NewCNode radix) ≡ Some NewEndpoint = k in absurd cc)
  by-object (Some FrameObject) at = other-kind (Some FrameObject) at (λ k. let clash : Some NewFrame ≡ Some NewEndpoint = k in absurd cc)
  by-object (Some PageTableObject) at = other-kind (Some PageTableObject) at (λ k. let clash : Some NewPageTable ≡ Some NewEndpoint = k in absurd cc)
  by-object (Some RootTableObject) at = other-kind (Some RootTableObject) at (λ k. let clash : Some NewRootTable ≡ Some NewEndpoint = k in absurd cc)

  -- a sender that was not there is the thread itself
  module _ (x : Sender) (among : Contains e.senders x)
      (never : (old : EndpointState) → s.objects queue ≡ Some (EndpointObject old) → Contains old.senders x → ⊥) where
    sender-change : (old : EndpointState) → s.objects queue ≡ Some (EndpointObject old) → EndpointChange image t s after queue old e → AsksAs image t s queue x
    sender-change old was (waits_to_send y asks so) =
        elim (last-or old.senders y x (subst (λ (l : List Sender). Contains l x) (ap (λ (q : EndpointState). q.senders) so) among)) [
          | inl before ↦ absurd (never old was before)
          | inr last ↦ subst (λ (z : Sender). AsksAs image t s queue z) last asks
        ]
    sender-change old was (waits_to_receive names so) =
        absurd (never old was (subst (λ (l : List Sender). Contains l x) (ap (λ (q : EndpointState). q.senders) so) among))
    sender-change old was (takes_sender first names list receivers gone) =
        absurd (never old was (subst (λ (l : List Sender). Contains l x) (sym list) (further first x e.senders among)))
    sender-change old was (takes_receiver badge first names list senders gone) =
        absurd (never old was (subst (λ (l : List Sender). Contains l x) senders among))

    sender-before : Before → AsksAs image t s queue x
    sender-before (there old was) =
        sender-change old was (within.endpoints queue old e was is
        (λ same. never old was (subst (λ (q : EndpointState). Contains q.senders x) (sym same) among)))
    sender-before (empty none nobody) = absurd (none-in x (subst (λ (l : List Sender). Contains l x) none among))

    pub new-sender : AsksAs image t s queue x
    new-sender = sender-before (by-object (s.objects queue) refl)

  -- so is a receiver
  module _ (y : ℕ) (among : Contains e.receivers y)
      (never : (old : EndpointState) → s.objects queue ≡ Some (EndpointObject old) → Contains old.receivers y → ⊥) where
    abbrev Receiver : Type 0
    Receiver = CallNames image t s (ReceivesFrom queue) × (self_of image t ≡ y)

    receiver-change : (old : EndpointState) → s.objects queue ≡ Some (EndpointObject old) → EndpointChange image t s after queue old e
        → CallNames image t s (ReceivesFrom queue) × (self_of image t ≡ y)
    receiver-change old was (waits_to_receive names so) =
        elim (last-or old.receivers (self_of image t) y (subst (λ (l : List ℕ). Contains l y) (ap (λ (q : EndpointState). q.receivers) so) among)) [
          | inl before ↦ absurd (never old was before)
          | inr last ↦ (names, last)
        ]
    receiver-change old was (waits_to_send z asks so) =
        absurd (never old was (subst (λ (l : List ℕ). Contains l y) (ap (λ (q : EndpointState). q.receivers) so) among))
    receiver-change old was (takes_sender first names list receivers gone) =
        absurd (never old was (subst (λ (l : List ℕ). Contains l y) receivers among))
    receiver-change old was (takes_receiver badge first names list senders gone) =
        absurd (never old was (subst (λ (l : List ℕ). Contains l y) (sym list) (further first y e.receivers among)))

    receiver-before : Before → CallNames image t s (ReceivesFrom queue) × (self_of image t ≡ y)
    receiver-before (there old was) =
        receiver-change old was (within.endpoints queue old e was is
        (λ same. never old was (subst (λ (q : EndpointState). Contains q.receivers y) (sym same) among)))
    receiver-before (empty none nobody) = absurd (none-in y (subst (λ (l : List ℕ). Contains l y) nobody among))

    pub new-receiver : CallNames image t s (ReceivesFrom queue) × (self_of image t ≡ y)
    new-receiver = receiver-before (by-object (s.objects queue) refl)
