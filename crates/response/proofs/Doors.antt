-- A thread that waits at a call that accepts from an endpoint is in the queue there, and nobody waits to send. So it is with one that waits for
-- nothing else, wherever it does not run. Where nobody waits to send no other thread waits to send either.
use Rattle.std.proofs.Common.{ℕ, suc, ◌≡◌, ◌∙◌, ◌+◌, ◌++◌, ◌≤◌, map, inl, inr, Bool, true, false, if◌then◌else◌, Option, Some, None, List, [], ◌∷◌}
use Rattle.std.proofs.Common.{refl, sym, ap, subst, arith}
use Rattle.std.specs.Prelude.{Contains}
use Rattle.std.specs.Option.{option_map_or}
use Rattle.std.proofs.lemmas.Bool.{eq-eqb, eqb-true}
use Rattle.std.proofs.lemmas.Bool.Decides.{eqb_tells}
use Rattle.model.specs.declared.capabilities.Cap.TheVariants.{Endpoint, Notification}
use Rattle.model.specs.declared.labels.Label.{Label}
use Rattle.model.specs.declared.rights.Rights.{Rights}
use Rattle.model.specs.Acceptance.Accepted.{IsAccepted}
use Rattle.model.specs.Acceptance.ThreadInvariants.{IsWaiting, tcb_of}
use Rattle.model.specs.Images.Described.{Numbered, numbered_threads}
use Rattle.model.specs.Images.Image.{Image}
use Rattle.model.specs.Kernel.Kinds.{Names, object_named}
use Rattle.model.specs.Kernel.Retype.{NewEndpoint, NewNotification}
use Rattle.model.specs.Kernel.Scheduling.{is_runnable}
use Rattle.model.specs.Kernel.Soundness.{is_blocked_on, waiting_at, waits_at}
use Rattle.model.specs.Kernel.State.{AwaitsHandler, AwaitsReply, Blocked, EndpointObject, EndpointState, Inactive, NotificationObject, NotificationState}
use Rattle.model.specs.Kernel.State.{Object, Runnable, Sender, State, Status, ThreadState, as_thread, thread_at}
use Rattle.model.specs.Shared.Lists.{times_in}
use Rattle.soundness.proofs.Laws.{endpoint-kind, notification-kind}
use Rattle.headline.proofs.Laws.{at-place, held-there}
use Rattle.headline.specs.facts.Standing.{AllStand}
use Rattle.headline.specs.facts.Waiting.{QueuesSo, WaitsSo}
use Rattle.headline.specs.moves.Laws.{Laws}
use Rattle.response.specs.Asking.{Accepts, Asked, Calls, SendsTo, Takes, asked_at, capability_named}
use Rattle.response.specs.DealtWith.{Rests}
use Rattle.response.specs.Owed.{AcceptsFromOne, WaitsAtDoor, WaitsWhereAsked, accepts_only}
use Rattle.response.specs.Resting.{AreTakenAlone, TakesFromOne}
use Rattle.response.specs.Weights.{waits_for_no_message}
use Rattle.response.proofs.AtBells.{there-is}
use Rattle.response.proofs.NamedNow.{named-is}
use Rattle.response.proofs.Sums.{further}
use Rattle.response.proofs.WaitingThreads.{WaitsAt, accepts-there, as_caller, as_sender, called-there, same-bell, same-endpoint, sends-there, waits-at}
use Rattle.response.proofs.WaysToWait.{WaitsBy, accepts_from, calls_there, sends_there, takes_word}

-- a thread that is counted among senders is one of them
sender-found : (l : List Sender) (place : ℕ) → 1 ≤ times_in (map (λ (x : Sender). x.thread) l ++ []) place
    → (x : Sender) × Contains l x × (x.thread ≡ place)
sender-found [] place some = absurd (omega (arith, some))
sender-found (x ∷ l) place some = elim (eqb_tells x.thread place) [
  | inl same ↦ (x, (0, omega arith, refl), same.1)
  | inr apart ↦ (
      let found = sender-found l place (subst (λ (b : Bool). 1 ≤ (if b then times_in (map (λ (z : Sender). z.thread) l ++ []) place + 1 else
      times_in (map (λ (z : Sender). z.thread) l ++ []) place)) apart.0 some) in
      (found.0, further x found.0 l found.1, found.2))
]

-- who is counted in a list is in it
counted-in : (l : List ℕ) (place : ℕ) → 1 ≤ times_in l place → Contains l place
counted-in [] place some = absurd (omega (arith, some))
counted-in (x ∷ l) place some = elim (eqb_tells x place) [
  | inl same ↦ (0, omega arith, same.1)
  | inr apart ↦ (
      let rest = counted-in l place (subst (λ (b : Bool). 1 ≤ (if b then times_in l place + 1 else times_in l place)) apart.0 some) in
      let inside = rest.1 in (suc rest.0, omega (arith, inside), rest.2))
]

-- the endpoint at which it waits to send
abbrev pub sent_to : Asked → Option ℕ
sent_to (SendsTo o) = Some o
sent_to (Calls o) = Some o
sent_to _ = None

module _ (laws : Laws) (bytes : List ℕ) (image : Image) (s : State) (labels : List Label) (accepted : IsAccepted bytes image) (all : AllStand image s labels)
    (t : Numbered) (listed : Contains (numbered_threads image) t) where
  -- ---- in the queue of an endpoint

  module _ (own : ThreadState) (v : WaitsAt image t s labels own) (queue : ℕ) (blocked : own.status ≡ Blocked queue) (o : ℕ) (r : Rights) (badge : ℕ)
      (named : capability_named image t.thread v.state ≡ Endpoint o r badge) where
    so : QueuesSo image t s v.state v.left queue
    so = subst (λ (x : Status). WaitsSo image t s v.state v.left x) blocked v.so

    held-as : so.capability ≡ Endpoint o r badge
    held-as = sym (named-is image t v.state so.capability so.named) ∙ named

    pub same-queue : o ≡ queue
    same-queue = same-endpoint o queue r badge so.capability held-as so.leads

    -- there is an endpoint
    pub gate-there : (q : EndpointState) × (s.objects o ≡ Some (EndpointObject q))
    gate-there =
        let held = held-there laws.holds laws.finds bytes image t s accepted listed own v.point v.state v.left v.stands v.call (Names NewEndpoint o)
        so.capability so.named (ap object_named held-as) in
        endpoint-kind (s.objects o) (all.sound.memory.named held.slot NewEndpoint o held.such)

    -- and it waits there once
    pub counted-there : times_in (map (λ (x : Sender). x.thread) gate-there.0.senders ++ gate-there.0.receivers) (tcb_of image t) ≡ 1
    counted-there =
        let waits_here : waits_at s (tcb_of image t) o ≡ true =
        ap (λ (x : Option Object). option_map_or (λ u. is_blocked_on o u.status) (as_thread x) false) v.there
        ∙ ap (is_blocked_on o) (blocked ∙ ap Blocked (sym same-queue)) ∙ eq-eqb o o refl in
        ap (λ (l : List ℕ). times_in l (tcb_of image t)) (sym (ap waiting_at gate-there.1))
        ∙ all.sound.threads.queued (tcb_of image t) o ∙ ap (λ (b : Bool). if b then 1 else 0) waits_here

    -- to receive, where nobody waits to send
    pub receives-there : WaitsWhereAsked image t s → gate-there.0.senders ≡ []
        → (replies : Bool) × (asked_at image t.thread v.point v.state ≡ Accepts o replies)
    receives-there asked_so none =
        let counted : times_in gate-there.0.receivers (tcb_of image t) ≡ 1 =
        sym (ap (λ (l : List Sender). times_in (map (λ (x : Sender). x.thread) l ++ gate-there.0.receivers) (tcb_of image t)) none) ∙ counted-there in
        accepts-there laws bytes image s labels accepted all t listed own v asked_so o (blocked ∙ ap Blocked (sym same-queue)) gate-there.0 gate-there.1
        (counted-in gate-there.0.receivers (tcb_of image t) (omega (arith, counted)))

  -- ---- where nobody waits to send

  module _ (asked_so : WaitsWhereAsked image t s) (is_taken : ℕ → Bool)
      (nobody : (o : ℕ) (e : EndpointState) → is_taken o ≡ true → s.objects o ≡ Some (EndpointObject e) → e.senders ≡ []) (own : ThreadState)
      (v : WaitsAt image t s labels own) (queue : ℕ) (blocked : own.status ≡ Blocked queue) where
    abbrev its_call : Asked
    its_call = asked_at image t.thread v.point v.state

    elsewhere : (o : ℕ) (r : Rights) (badge : ℕ) → capability_named image t.thread v.state ≡ Endpoint o r badge
        → ((replies : Bool) → its_call ≡ Accepts o replies → ⊥) → is_taken o ≡ false
    elsewhere o r badge named differs = elim (is_taken o) as (λ b. is_taken o ≡ b → b ≡ false) [
      | true ↦ λ here.
          let gate = gate-there own v queue blocked o r badge named in
          let accepts = receives-there own v queue blocked o r badge named asked_so (nobody o gate.0 here gate.1) in
          absurd (differs accepts.0 accepts.1)
      | false ↦ λ _. refl
    ] refl

    sent-way : WaitsBy image t.thread v.state v.left its_call → (o : ℕ) → sent_to its_call ≡ Some o → is_taken o ≡ false
    sent-way (takes_word e r badge named asks end) o sends =
        absurd (let clash : ◌≡◌ {A = Option ℕ} None (Some o) = sym (ap sent_to asks) ∙ sends in cc)
    sent-way (accepts_from e r badge replies named asks end) o sends =
        absurd (let clash : ◌≡◌ {A = Option ℕ} None (Some o) = sym (ap sent_to asks) ∙ sends in cc)
    sent-way (sends_there e r badge named asks end) o sends =
        let both : Some e ≡ Some o = sym (ap sent_to asks) ∙ sends in
        let same : e ≡ o = cc in
        elsewhere o r badge (named ∙ ap (λ (k : ℕ). Endpoint k r badge) same)
        (λ replies is. let clash : SendsTo e ≡ Accepts o replies = sym asks ∙ is in absurd cc)
    sent-way (calls_there e r badge named asks end) o sends =
        let both : Some e ≡ Some o = sym (ap sent_to asks) ∙ sends in
        let same : e ≡ o = cc in
        elsewhere o r badge (named ∙ ap (λ (k : ℕ). Endpoint k r badge) same)
        (λ replies is. let clash : Calls e ≡ Accepts o replies = sym asks ∙ is in absurd cc)

    pub sends-elsewhere : (o : ℕ) → sent_to (asked_at image t.thread v.point v.state) ≡ Some o → is_taken o ≡ false
    sends-elsewhere o sends = sent-way v.way o sends

  -- ---- in the queue of a notification

  module _ (own : ThreadState) (v : WaitsAt image t s labels own) (queue : ℕ) (blocked : own.status ≡ Blocked queue) (o : ℕ) (r : Rights) (badge : ℕ)
      (named : capability_named image t.thread v.state ≡ Notification o r badge) where
    bell-so : QueuesSo image t s v.state v.left queue
    bell-so = subst (λ (x : Status). WaitsSo image t s v.state v.left x) blocked v.so

    bell-held : bell-so.capability ≡ Notification o r badge
    bell-held = sym (named-is image t v.state bell-so.capability bell-so.named) ∙ named

    pub bell-queue : o ≡ queue
    bell-queue = same-bell o queue r badge bell-so.capability bell-held bell-so.leads

    -- there is a notification
    pub bell-waits : (n : NotificationState) × (s.objects o ≡ Some (NotificationObject n))
    bell-waits =
        let held = held-there laws.holds laws.finds bytes image t s accepted listed own v.point v.state v.left v.stands v.call (Names NewNotification o)
        bell-so.capability bell-so.named (ap object_named bell-held) in
        notification-kind (s.objects o) (all.sound.memory.named held.slot NewNotification o held.such)

  -- ---- a thread that takes from one notification alone

  module _ (asked_so : WaitsWhereAsked image t s) (bell : ℕ) (one : TakesFromOne image t bell) (e : EndpointState)
      (is : s.objects bell ≡ Some (EndpointObject e)) where
    module _ (own : ThreadState) (v : WaitsAt image t s labels own) where
      abbrev its_take : Asked
      its_take = asked_at image t.thread v.point v.state

      quiet : waits_for_no_message its_take ≡ true
      quiet = (one v.point v.state v.stands.inside v.stands.known).0

      by-queue : (o : ℕ) (r : Rights) (badge : ℕ) → capability_named image t.thread v.state ≡ Notification o r badge → its_take ≡ Takes o
          → (status : Status) → own.status ≡ status → ⊥
      by-queue o r badge named asks (Blocked queue) blocked =
          let found = bell-waits own v queue blocked o r badge named in
          let same : o ≡ bell = (one v.point v.state v.stands.inside v.stands.known).1 o asks in
          let clash : Some (NotificationObject found.0) ≡ Some (EndpointObject e) = sym found.1 ∙ ap s.objects same ∙ is in
          absurd cc
      by-queue o r badge named asks AwaitsReply awaits =
          let called = called-there laws bytes image s labels accepted all t listed own v asked_so awaits in
          let clash : Takes o ≡ Calls called.0 = sym asks ∙ called.1 in
          absurd cc
      by-queue o r badge named asks Inactive stops = subst IsWaiting stops v.waiting
      by-queue o r badge named asks Runnable runs = subst IsWaiting runs v.waiting
      by-queue o r badge named asks AwaitsHandler faults = subst IsWaiting faults v.waiting

      take-way : WaitsBy image t.thread v.state v.left its_take → ⊥
      take-way (takes_word o r badge named asks end) = by-queue o r badge named asks own.status refl
      take-way (sends_there o r badge named asks end) = let clash : false ≡ true = sym (ap waits_for_no_message asks) ∙ quiet in absurd cc
      take-way (calls_there o r badge named asks end) = let clash : false ≡ true = sym (ap waits_for_no_message asks) ∙ quiet in absurd cc
      take-way (accepts_from o r badge replies named asks end) =
          let clash : false ≡ true = sym (ap waits_for_no_message asks) ∙ quiet in absurd cc

    -- where it rests that is no endpoint
    pub no-door-there : is_runnable (thread_at s (tcb_of image t)).status ≡ false → ⊥
    no-door-there rests =
        let own = there-is image t s labels (all.stand t listed) in
        let stops = sym (ap (λ (u : ThreadState). is_runnable u.status) (at-place s (tcb_of image t) own.0 own.1)) ∙ rests in
        let v = waits-at laws bytes image s labels accepted all t listed own.0 own.1 stops in
        take-way own.0 v v.way

  -- ---- at a call that accepts

  module _ (asked_so : WaitsWhereAsked image t s) (own : ThreadState) (v : WaitsAt image t s labels own) (door : ℕ) (replies : Bool)
      (asks : asked_at image t.thread v.point v.state ≡ Accepts door replies) where
    abbrev asked : Asked
    asked = asked_at image t.thread v.point v.state

    module _ (r : Rights) (badge : ℕ) (named : capability_named image t.thread v.state ≡ Endpoint door r badge) where
      module _ (queue : ℕ) (blocked : own.status ≡ Blocked queue) where
        abbrev gate : (q : EndpointState) × (s.objects door ≡ Some (EndpointObject q))
        gate = gate-there own v queue blocked door r badge named

        status-is : own.status ≡ Blocked door
        status-is = blocked ∙ ap Blocked (sym (same-queue own v queue blocked door r badge named))

        -- it is no sender there
        no-sender : gate.0.receivers ≡ [] → gate.0.senders ≡ []
        no-sender nobody =
            let counted : times_in (map (λ (x : Sender). x.thread) gate.0.senders ++ []) (tcb_of image t) ≡ 1 =
            ap (λ (l : List ℕ). times_in (map (λ (x : Sender). x.thread) gate.0.senders ++ l) (tcb_of image t)) (sym nobody)
            ∙ counted-there own v queue blocked door r badge named in
            let sender = sender-found gate.0.senders (tcb_of image t) (omega (arith, counted)) in
            elim (sends-there laws bytes image s labels accepted all t listed own v asked_so door status-is gate.0 gate.1 sender.0 sender.1 sender.2) [
              | as_sender sent is ↦ absurd (let clash : Accepts door replies ≡ SendsTo door = sym asks ∙ is in cc)
              | as_caller sent grants is ↦ absurd (let clash : Accepts door replies ≡ Calls door = sym asks ∙ is in cc)
            ]

        waits-there : WaitsAtDoor image t s door
        waits-there = record {
          own = own;
          there = v.there;
          waits = status-is;
          door = gate.0;
          is_door = gate.1;
          none = elim (all.sound.threads.one_sided door gate.0 gate.1) [ inl none ↦ none | inr nobody ↦ no-sender nobody ];
        }

      by-status : (status : Status) → own.status ≡ status → WaitsAtDoor image t s door
      by-status (Blocked queue) is = waits-there queue is
      by-status AwaitsReply is =
          let called = called-there laws bytes image s labels accepted all t listed own v asked_so is in
          absurd (let clash : Accepts door replies ≡ Calls called.0 = sym asks ∙ called.1 in cc)
      by-status Inactive is = absurd (let never : IsWaiting Inactive = subst IsWaiting is v.waiting in never)
      by-status Runnable is = absurd (let never : IsWaiting Runnable = subst IsWaiting is v.waiting in never)
      by-status AwaitsHandler is = absurd (let never : IsWaiting AwaitsHandler = subst IsWaiting is v.waiting in never)

    by-way : WaitsBy image t.thread v.state v.left asked → WaitsAtDoor image t s door
    by-way (takes_word o r badge named is end) = absurd (let clash : Accepts door replies ≡ Takes o = sym asks ∙ is in cc)
    by-way (sends_there o r badge named is end) = absurd (let clash : Accepts door replies ≡ SendsTo o = sym asks ∙ is in cc)
    by-way (calls_there o r badge named is end) = absurd (let clash : Accepts door replies ≡ Calls o = sym asks ∙ is in cc)
    by-way (accepts_from o r badge other named is end) =
        let both : Accepts o other ≡ Accepts door replies = sym is ∙ asks in
        let same : o ≡ door = cc in
        by-status r badge (named ∙ ap (λ (k : ℕ). Endpoint k r badge) same) own.status refl

    pub accepts-rests : WaitsAtDoor image t s door
    accepts-rests = by-way v.way

  -- ---- a thread that waits for nothing else

  module _ (asked_so : WaitsWhereAsked image t s) (door : ℕ) (one : AcceptsFromOne image t door) where
    module _ (own : ThreadState) (v : WaitsAt image t s labels own) where
      only : accepts_only door (asked_at image t.thread v.point v.state) ≡ true
      only = one v.point v.state v.stands.inside v.stands.known

      only-way : WaitsBy image t.thread v.state v.left (asked_at image t.thread v.point v.state) → WaitsAtDoor image t s door
      only-way (takes_word o r badge named asks end) = absurd (let clash : false ≡ true = sym (ap (accepts_only door) asks) ∙ only in cc)
      only-way (sends_there o r badge named asks end) = absurd (let clash : false ≡ true = sym (ap (accepts_only door) asks) ∙ only in cc)
      only-way (calls_there o r badge named asks end) = absurd (let clash : false ≡ true = sym (ap (accepts_only door) asks) ∙ only in cc)
      only-way (accepts_from o r badge replies named asks end) =
          let same : o ≡ door = eqb-true o door (sym (ap (accepts_only door) asks) ∙ only) in
          accepts-rests asked_so own v door replies (asks ∙ ap (λ (k : ℕ). Accepts k replies) same)

      pub at-door : WaitsAtDoor image t s door
      at-door = only-way v.way

    pub door-rests : is_runnable (thread_at s (tcb_of image t)).status ≡ false → WaitsAtDoor image t s door
    door-rests rests =
        let own = there-is image t s labels (all.stand t listed) in
        let stops = sym (ap (λ (u : ThreadState). is_runnable u.status) (at-place s (tcb_of image t) own.0 own.1)) ∙ rests in
        at-door own.0 (waits-at laws bytes image s labels accepted all t listed own.0 own.1 stops)

-- so where threads of a level take alone nobody waits to send
pub none-sends : (laws : Laws) (bytes : List ℕ) (image : Image) (s : State) (labels : List Label) (accepted : IsAccepted bytes image)
    → AllStand image s labels → ((u : Numbered) → Contains (numbered_threads image) u → WaitsWhereAsked image u s) → (priority : ℕ) (is_taken : ℕ → Bool)
    → AreTakenAlone image priority is_taken → Rests image priority s → (o : ℕ) (e : EndpointState) → is_taken o ≡ true
    → s.objects o ≡ Some (EndpointObject e) → e.senders ≡ []
none-sends laws bytes image s labels accepted all asked_so priority is_taken alone rests o e here at =
    let who = alone o here in
    absurd (no-door-there laws bytes image s labels accepted all who.0 who.1 (asked_so who.0 who.1) o who.3 e at (rests who.0 who.1 who.2))
