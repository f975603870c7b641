-- Where nothing of a level is ready each settled thread waits at its input: whom it sends to waits there before it, and whom it called has answered.
use Rattle.std.proofs.Common.{ℕ, zero, suc, ◌≡◌, ◌∙◌, ◌+◌, ◌⊎◌, inl, inr, Bool, true, false, if◌then◌else◌, Option}
use Rattle.std.proofs.Common.{Some, None, List, [], refl, sym, ap, subst, arith}
use Rattle.std.specs.Prelude.{Contains}
use Rattle.std.specs.Option.{option_map_or}
use Rattle.std.proofs.lemmas.Bool.{eq-eqb}
use Rattle.model.specs.declared.capabilities.Cap.TheVariants.{Endpoint, Notification}
use Rattle.model.specs.declared.labels.Label.{Label}
use Rattle.model.specs.declared.rights.Rights.{Rights}
use Rattle.model.specs.Acceptance.Accepted.{IsAccepted}
use Rattle.model.specs.Acceptance.PointStates.{noted}
use Rattle.model.specs.Acceptance.ThreadInvariants.{IsWaiting, tcb_of}
use Rattle.model.specs.Images.Described.{Numbered, numbered_threads}
use Rattle.model.specs.Images.Image.{Image}
use Rattle.model.specs.Kernel.Scheduling.{is_runnable}
use Rattle.model.specs.Kernel.Soundness.{is_blocked_on, waiting_at, waits_at}
use Rattle.model.specs.Kernel.State.{AwaitsHandler, AwaitsReply, Blocked, Inactive, NotificationObject, NotificationState, Object}
use Rattle.model.specs.Kernel.State.{Runnable, State, Status, ThreadState, as_thread, thread_at}
use Rattle.model.specs.Shared.Lists.{times_in}
use Rattle.headline.proofs.Laws.{at-place}
use Rattle.headline.specs.facts.Standing.{AllStand}
use Rattle.headline.specs.moves.Laws.{Laws}
use Rattle.response.specs.Asking.{Accepts, Acknowledges, Answers, Asked, Asks_nothing, Calls, Looks, Polls, Rings, SendsTo, Takes, Tries, asked_at}
use Rattle.response.specs.Asking.{capability_named}
use Rattle.response.specs.DealtWith.{Rests}
use Rattle.response.specs.Left.{point_now}
use Rattle.response.specs.Owed.{WaitsWhereAsked, asked_there}
use Rattle.response.proofs.Laws.{WaitsAt, WaitsBy, accepts-rests, accepts_from, bell-queue, bell-waits, called-there, calls_there, gate-there, here}
use Rattle.response.proofs.Laws.{receives-there, sends_there, takes_word, there-is, waits-at}
use Rattle.settled_threads.specs.Answering.{CallsThere, IsAnswered, IsOwed, badge_at, badge_noted, is_accept}
use Rattle.settled_threads.specs.Settled.{AreSettled, AsksSettled, ComesBefore, HasNothing, IsServed, IsTaken, Settling, WaitsAtInput, taken_by}
use Rattle.settled_threads.proofs.Holders.{OwesOn, owes-on}

-- a call that takes from something takes from a notification, or accepts
takes-some : (asked : Asked) (o : ℕ) → taken_by asked ≡ Some o → (asked ≡ Takes o) ⊎ (is_accept asked ≡ true)
takes-some (Takes e) o is = inl (let same : e ≡ o = cc in ap Takes same)
takes-some (Accepts e replies) o is = inr refl
takes-some (SendsTo e) o is = absurd (let clash : ◌≡◌ {A = Option ℕ} None (Some o) = is in cc)
takes-some (Calls e) o is = absurd (let clash : ◌≡◌ {A = Option ℕ} None (Some o) = is in cc)
takes-some (Polls e) o is = absurd (let clash : ◌≡◌ {A = Option ℕ} None (Some o) = is in cc)
takes-some (Rings e) o is = absurd (let clash : ◌≡◌ {A = Option ℕ} None (Some o) = is in cc)
takes-some (Acknowledges number) o is = absurd (let clash : ◌≡◌ {A = Option ℕ} None (Some o) = is in cc)
takes-some (Looks e) o is = absurd (let clash : ◌≡◌ {A = Option ℕ} None (Some o) = is in cc)
takes-some (Tries e) o is = absurd (let clash : ◌≡◌ {A = Option ℕ} None (Some o) = is in cc)
takes-some Answers o is = absurd (let clash : ◌≡◌ {A = Option ℕ} None (Some o) = is in cc)
takes-some Asks_nothing o is = absurd (let clash : ◌≡◌ {A = Option ℕ} None (Some o) = is in cc)

module _ (laws : Laws) (bytes : List ℕ) (image : Image) (s : State) (labels : List Label) (accepted : IsAccepted bytes image) (all : AllStand image s labels)
    (asked_so : (u : Numbered) → Contains (numbered_threads image) u → WaitsWhereAsked image u s) (priority : ℕ) (settling : Settling)
    (settled : AreSettled image priority settling) (rests : Rests image priority s)
    (owed : (u : Numbered) (endpoint badge : ℕ) → Contains (numbered_threads image) u → (a : IsAnswered image endpoint badge)
    → (thread_at s (tcb_of image u)).status ≡ AwaitsReply → CallsThere image s u endpoint badge → IsOwed image endpoint badge a u s) where
  abbrev AtInput : Numbered → ℕ → Type 0
  AtInput u object = WaitsAtInput image u s object

  module _ (t : Numbered) (listed : Contains (numbered_threads image) t) (object : ℕ) (input : settling.input t.number ≡ Some object)
      (below : (u : Numbered) (o : ℕ) → ComesBefore image settling o (settling.rank t.number) u → WaitsAtInput image u s o)
      (own : ThreadState) (v : WaitsAt image t s labels own) where
    abbrev asked : Asked
    asked = asked_at image t.thread v.point v.state

    abbrev badge_here : ℕ
    badge_here = badge_at image t v.state

    may : AsksSettled image settling object (settling.rank t.number) (badge_at image t v.state) (asked_at image t.thread v.point v.state)
    may = (settled t object listed input).1 v.point v.state v.stands.inside v.stands.known

    asks-here : asked_there image s t ≡ asked
    asks-here = (here laws bytes image s labels accepted all t listed own v).1

    carries-here : badge_noted image t (noted image t (point_now image s t)) ≡ badge_here
    carries-here =
        ap (λ (k : ℕ). badge_noted image t (noted image t k)) (here laws bytes image s labels accepted all t listed own v).0
        ∙ ap (badge_noted image t) v.stands.known

    its-status : (thread_at s (tcb_of image t)).status ≡ own.status
    its-status = ap (λ (u : ThreadState). u.status) (at-place s (tcb_of image t) own v.there)

    -- it is in a queue, unless it waits for an answer
    is-queued : (own.status ≡ AwaitsReply → ⊥) → (queue : ℕ) × (own.status ≡ Blocked queue)
    is-queued never = by-status own.status refl
      where
        by-status : (status : Status) → own.status ≡ status → (queue : ℕ) × (own.status ≡ Blocked queue)
        by-status (Blocked queue) is = (queue, is)
        by-status AwaitsReply is = absurd (never is)
        by-status Inactive is = absurd (let none : IsWaiting Inactive = subst IsWaiting is v.waiting in none)
        by-status Runnable is = absurd (let none : IsWaiting Runnable = subst IsWaiting is v.waiting in none)
        by-status AwaitsHandler is = absurd (let none : IsWaiting AwaitsHandler = subst IsWaiting is v.waiting in none)

    -- who waits for an answer called
    no-answer : ((e : ℕ) → asked ≡ Calls e → ⊥) → own.status ≡ AwaitsReply → ⊥
    no-answer never awaits =
        let called = called-there laws bytes image s labels accepted all t listed own v (asked_so t listed) awaits in never called.0 called.1

    -- ---- at a notification

    module _ (o : ℕ) (r : Rights) (badge : ℕ) (named : capability_named image t.thread v.state ≡ Notification o r badge) (asks : asked ≡ Takes o)
        (queue : ℕ) (blocked : own.status ≡ Blocked queue) where
      status-is : own.status ≡ Blocked o
      status-is = blocked ∙ ap Blocked (sym (bell-queue laws bytes image s labels accepted all t listed own v queue blocked o r badge named))

      bell : (n : NotificationState) × (s.objects o ≡ Some (NotificationObject n))
      bell = bell-waits laws bytes image s labels accepted all t listed own v queue blocked o r badge named

      counted : times_in bell.0.waiters (tcb_of image t) ≡ 1
      counted =
          let waits_here : waits_at s (tcb_of image t) o ≡ true =
          ap (λ (x : Option Object). option_map_or (λ u. is_blocked_on o u.status) (as_thread x) false) v.there
          ∙ ap (is_blocked_on o) status-is ∙ eq-eqb o o refl in
          ap (λ (l : List ℕ). times_in l (tcb_of image t)) (sym (ap waiting_at bell.1))
          ∙ all.sound.threads.queued (tcb_of image t) o ∙ ap (λ (b : Bool). if b then 1 else 0) waits_here

      no-word : bell.0.word ≡ 0
      no-word = elim (all.sound.threads.idle o bell.0 bell.1) [
        | inl nobody ↦ absurd (let none : times_in bell.0.waiters (tcb_of image t) ≡ 0 = ap (λ (l : List ℕ). times_in l (tcb_of image t)) nobody in omega (
          arith,
          none,
          counted,
        ))
        | inr none ↦ none
      ]

      at-bell : AtInput t o
      at-bell = record {
        own = own;
        there = v.there;
        waits = status-is;
        takes = ap taken_by (asks-here ∙ asks);
        nothing = subst HasNothing (sym bell.1) no-word;
      }

    -- ---- at an endpoint

    at-gate : (o : ℕ) (replies : Bool) → asked ≡ Accepts o replies → AtInput t o
    at-gate o replies asks =
        let door = accepts-rests laws bytes image s labels accepted all t listed (asked_so t listed) own v o replies asks in
        record {
          own = door.own;
          there = door.there;
          waits = door.waits;
          takes = ap taken_by (asks-here ∙ asks);
          nothing = subst HasNothing (sym door.is_door) door.none;
        }

    -- nobody waits to send where a settled thread takes
    module _ (o : ℕ) (r : Rights) (badge : ℕ) (named : capability_named image t.thread v.state ≡ Endpoint o r badge)
        (taken : IsTaken image settling o (settling.rank t.number)) (no_accept : (replies : Bool) → asked ≡ Accepts o replies → ⊥) where
      never-queued : (queue : ℕ) → own.status ≡ Blocked queue → ⊥
      never-queued queue blocked =
          let gate = gate-there laws bytes image s labels accepted all t listed own v queue blocked o r badge named in
          let none : gate.0.senders ≡ [] = subst HasNothing gate.1 (below taken.0 o taken.1).nothing in
          let accepts = receives-there laws bytes image s labels accepted all t listed own v queue blocked o r badge named (asked_so t listed) none in
          no_accept accepts.0 accepts.1

    -- ---- a caller was answered

    module _ (o : ℕ) (asks : asked ≡ Calls o) (served : IsServed image settling o (settling.rank t.number) badge_here) (awaits : own.status ≡ AwaitsReply) where
      debt : IsOwed image o badge_here served.answered t s
      debt = owed t o badge_here listed served.answered (its-status ∙ awaits) (record { asks = asks-here ∙ asks; carries = carries-here })

      -- who owes it waits at its input
      its-server : AtInput debt.server o
      its-server = below debt.server o (served.each debt.server debt.listed debt.receives)

      its-wait : WaitsAt image debt.server s labels its-server.own
      its-wait =
          waits-at laws bytes image s labels accepted all debt.server debt.listed its-server.own its-server.there (ap is_runnable its-server.waits)

      -- but who owes an answer waits to take nothing
      owes_on : OwesOn laws bytes image accepted o badge_here served.answered s labels all debt.server debt.listed debt.receives (tcb_of image t)
          debt.owes its-server.own its-wait
      owes_on =
          owes-on laws bytes image accepted o badge_here served.answered s labels all debt.server debt.listed debt.receives (tcb_of image t)
          debt.owes its-server.own its-wait

      takes-none : taken_by (asked_at image debt.server.thread its-wait.point its-wait.state) ≡ Some o → ⊥
      takes-none takes = elim (takes-some (asked_at image debt.server.thread its-wait.point its-wait.state) o takes) [
        | inl is ↦ owes_on.no_take o is
        | inr accepts ↦ (let clash : true ≡ false = sym accepts ∙ owes_on.no_accept in absurd cc)
      ]

      never-awaits : ⊥
      never-awaits =
          takes-none (ap taken_by (sym (here laws bytes image s labels accepted all debt.server debt.listed its-server.own its-wait).1) ∙ its-server.takes)

    -- ---- whatever it waits for

    may-as : (a : Asked) → asked ≡ a → AsksSettled image settling object (settling.rank t.number) badge_here a
    may-as a is = subst (AsksSettled image settling object (settling.rank t.number) badge_here) is may

    by-way : WaitsBy image t.thread v.state v.left asked → AtInput t object
    by-way (takes_word o r badge named asks end) =
        let queue = is-queued (no-answer (λ e is. let clash : Takes o ≡ Calls e = sym asks ∙ is in absurd cc)) in
        subst (AtInput t) (may-as (Takes o) asks) (at-bell o r badge named asks queue.0 queue.1)
    by-way (accepts_from o r badge replies named asks end) = subst (AtInput t) (may-as (Accepts o replies) asks) (at-gate o replies asks)
    by-way (sends_there o r badge named asks end) =
        let queue = is-queued (no-answer (λ e is. let clash : SendsTo o ≡ Calls e = sym asks ∙ is in absurd cc)) in
        absurd (never-queued o r badge named (may-as (SendsTo o) asks)
        (λ replies is. let clash : SendsTo o ≡ Accepts o replies = sym asks ∙ is in absurd cc) queue.0 queue.1)
    by-way (calls_there o r badge named asks end) =
        let served = may-as (Calls o) asks in
        let queue = is-queued (never-awaits o asks served) in
        absurd (never-queued o r badge named served.taken
        (λ replies is. let clash : Calls o ≡ Accepts o replies = sym asks ∙ is in absurd cc) queue.0 queue.1)

    at-its-input : AtInput t object
    at-its-input = by-way v.way

  -- ---- by rank

  before-rank : (rank : ℕ) (t : Numbered) (object : ℕ) → ComesBefore image settling object rank t → AtInput t object
  before-rank zero t object comes = absurd (let less = comes.before in omega (arith, less))
  before-rank (suc n) t object comes =
      let own = there-is image t s labels (all.stand t comes.listed) in
      let level = (settled t object comes.listed comes.input).0 in
      let stops = sym (ap (λ (u : ThreadState). is_runnable u.status) (at-place s (tcb_of image t) own.0 own.1)) ∙ rests t comes.listed level in
      at-its-input t comes.listed object comes.input
      (λ u o earlier. before-rank n u o (record {
        listed = earlier.listed;
        input = earlier.input;
        before = (let less = comes.before in let first = earlier.before in omega (arith, less, first));
      })) own.0 (waits-at laws bytes image s labels accepted all t comes.listed own.0 own.1 stops)

  pub waits-at-input : (t : Numbered) (object : ℕ) → Contains (numbered_threads image) t → settling.input t.number ≡ Some object → AtInput t object
  waits-at-input t object listed input =
      before-rank (settling.rank t.number + 1) t object (record { listed = listed; input = input; before = omega arith })
