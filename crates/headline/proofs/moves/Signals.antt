-- A signal keeps the threads' invariant: it wakes the first that waits, or joins the word.
use Rattle.std.proofs.Common.{ℕ, ◌≡◌, ◌≢◌, ◌∙◌, ◌==◌, ◌^◌, ◌<◌, ◌≤◌, inl, inr, Bool, true, false, Option, Some, List, [], ◌∷◌, refl, sym, ap, subst, arith}
use Rattle.std.specs.Prelude.{Contains, bit_or}
use Rattle.std.specs.Option.{option_map_or}
use Rattle.std.proofs.lemmas.Bool.{eqb-true, eqb-false}
use Rattle.headline.specs.facts.Standing.{AllStand, IsControlBlock}
use Rattle.headline.specs.facts.Waiting.{WaitsAsAsked, WaitsSo, behind_signal}
use Rattle.headline.proofs.facts.Laws.{at-place}
use Rattle.model.specs.declared.labels.Label.{Label}
use Rattle.model.specs.Acceptance.Accepted.{IsAccepted}
use Rattle.headline.specs.moves.Ground.{SameGround}
use Rattle.model.specs.Acceptance.CallRules.{AfterCall}
use Rattle.model.specs.Acceptance.NotedStates.{PointState}
use Rattle.model.specs.Acceptance.ThreadInvariants.{IsWaiting, ThreadInvariant, tcb_of}
use Rattle.model.specs.Images.Described.{Numbered, numbered_threads}
use Rattle.model.specs.Images.Image.{Image}
use Rattle.model.specs.Kernel.Deliveries.{woken}
use Rattle.model.specs.Kernel.Messages.{a0, deliver_word, signal, signals}
use Rattle.model.specs.Kernel.Scheduling.{wake}
use Rattle.model.specs.Kernel.Soundness.{IsSound, waiting_at}
use Rattle.model.specs.Kernel.State.{State, Inactive, Blocked, Object, ThreadObject, EndpointObject, EndpointState, NotificationObject, NotificationState}
use Rattle.model.specs.Kernel.State.{ThreadState, as_notification, new_notification, notification_at, thread_at, with_notification}
use Rattle.model.specs.Kernel.Waits.{open_count}
use Rattle.model.specs.Shared.Lists.{times_in}
use Rattle.model.specs.Machine.Effects.{advanced}
use Rattle.model.specs.Machine.ProgramMemory.{RegisterFile, write}
use Rattle.headline.specs.calls.Laws.{AreRegisters}
use Rattle.headline.specs.moves.Moving.{GoesOnAs}
use Rattle.headline.specs.moves.Resting.{HasBeen, OthersRest}
use Rattle.headline.specs.moves.Laws.{Laws}
use Rattle.headline.proofs.moves.Places.{passed, passed-there, woke, woke-there}
use Rattle.headline.proofs.moves.Puts.{decided, put-here, put-there}
use Rattle.headline.proofs.moves.Queued.{IsBlockedAt, contains-more, first-times, queued-there}
use Rattle.headline.proofs.moves.Standing.{all-stand}
use Rattle.headline.proofs.moves.Woken.{FitsBehind, wakes-up}

-- ---- a notification changes, and perhaps one thread

-- The notification keeps its waiters but for the thread that moves, and all else stays.
module _ (s after : State) (n : ℕ) (old new : NotificationState) (moves : ℕ → Bool) (was : s.objects n ≡ Some (NotificationObject old))
    (is : after.objects n ≡ Some (NotificationObject new)) (others : (y : ℕ) → y ≢ n → moves y ≡ false → after.objects y ≡ s.objects y)
    (moved : (y : ℕ) (object : Object) → moves y ≡ true → ((t : ThreadState) → object ≡ ThreadObject t → ⊥) → after.objects y ≡ Some object →
    s.objects y ≡ Some object)
    (fewer : (thread : ℕ) → Contains new.waiters thread → Contains old.waiters thread) where
  apart-from : (y : ℕ) (t : ThreadState) (object : Option Object) → object ≡ Some (NotificationObject old) → object ≡ Some (ThreadObject t) → ⊥
  apart-from y t object one other = absurd (let clash : Some (NotificationObject old) ≡ Some (ThreadObject t) = sym one ∙ other in cc)

  goes-beside : (thread : ℕ) (t : ThreadState) → moves thread ≡ false → s.objects thread ≡ Some (ThreadObject t) → GoesOnAs after thread t
  goes-beside thread t rests there = elim (decided thread n) [
    | inl at ↦ absurd (apart-from thread t (s.objects thread) (ap s.objects at ∙ was) there)
    | inr other ↦ record { new = t; is = others thread other rests ∙ there; registers = refl; status = refl }
  ]

  been-beside : (thread : ℕ) (t : ThreadState) → moves thread ≡ false → after.objects thread ≡ Some (ThreadObject t) → HasBeen s thread t
  been-beside thread t rests there = elim (decided thread n) [
    | inl at ↦ absurd (let clash : Some (NotificationObject new) ≡ Some (ThreadObject t) = sym is ∙ ap after.objects (sym at) ∙ there in cc)
    | inr other ↦ record { old = t; was = sym (others thread other rests) ∙ there; status = refl }
  ]

  endpoint-there : (queue : ℕ) (e : EndpointState) → after.objects queue ≡ Some (EndpointObject e) → s.objects queue ≡ Some (EndpointObject e)
  endpoint-there queue e there = elim (moves queue) as (λ b. moves queue ≡ b → s.objects queue ≡ Some (EndpointObject e)) [
    | true ↦ λ move. moved queue (EndpointObject e) move (λ t clash. absurd cc) there
    | false ↦ λ rests. elim (decided queue n) [
      | inl at ↦ absurd (let clash : Some (NotificationObject new) ≡ Some (EndpointObject e) = sym is ∙ ap after.objects (sym at) ∙ there in cc)
      | inr other ↦ sym (others queue other rests) ∙ there
    ]
  ] refl

  waited-there : (queue thread : ℕ) (m : NotificationState) → after.objects queue ≡ Some (NotificationObject m) → Contains m.waiters thread
      → (o : NotificationState) × (s.objects queue ≡ Some (NotificationObject o)) × Contains o.waiters thread
  waited-there queue thread m there among = elim (decided queue n) [
    | inl at ↦
        let same : new ≡ m = ap (λ (o : Option Object). option_map_or (λ (x : NotificationState). x) (as_notification o) new_notification)
        (sym is ∙ ap after.objects (sym at) ∙ there) in
        (old, ap s.objects at ∙ was, fewer thread (subst (λ (x : NotificationState). Contains x.waiters thread) (sym same) among))
    | inr other ↦ elim (moves queue) as (λ b. moves queue ≡ b → (o : NotificationState) × (s.objects queue ≡ Some (NotificationObject o))
        × Contains o.waiters thread) [
          | true ↦ λ move. (m, moved queue (NotificationObject m) move (λ t clash. absurd cc) there, among)
          | false ↦ λ rests. (m, sym (others queue other rests) ∙ there, among)
        ] refl
  ]

  pub rest-beside : OthersRest s after moves
  rest-beside = record {
    goes = goes-beside;
    been = been-beside;
    queues = λ thread rests. record {
      sends = λ queue e x there among own. (e, endpoint-there queue e there, among);
      receives = λ queue e there among. (e, endpoint-there queue e there, among);
      waits = λ queue m there among. waited-there queue thread m there among;
    };
  }

-- ---- a signal

module _ (laws : Laws) (bytes : List ℕ) (image : Image) (s : State) (labels later : List Label) (accepted : IsAccepted bytes image)
    (all : AllStand image s labels)
    (counts : (t : Numbered) → Contains (numbered_threads image) t → open_count (tcb_of image t) later ≡ open_count (tcb_of image t) labels)
    (n badge : ℕ) (small : badge < 2 ^ 28) (old : NotificationState) (was : s.objects n ≡ Some (NotificationObject old))
    (after : State) (sound : IsSound after) (store : SameGround image s after) where
  joins : ((y : ℕ) → after.objects y ≡ (with_notification s n (record old { word = bit_or old.word badge })).objects y) → AllStand image after later
  joins objects =
      let new : NotificationState = record old { word = bit_or old.word badge } in
      all-stand laws.stand_on bytes image s after labels later (λ _. false) accepted all sound store
      (rest-beside s after n old new (λ _. false) was (objects n ∙ put-here s.objects n (Some (NotificationObject new)) n refl)
      (λ y other rests. objects y ∙ put-there s.objects n (Some (NotificationObject new)) y other)
      (λ y object never no is. absurd (let clash : false ≡ true = never in cc)) (λ thread among. among))
      (λ t listed never. absurd (let clash : false ≡ true = never in cc)) (λ offset own never. absurd (let clash : false ≡ true = never in cc))
      (λ t listed rests. counts t listed)

  module _ (w : ℕ) (others : List ℕ) (first : old.waiters ≡ w ∷ others)
      (objects : (y : ℕ) → after.objects y ≡ (wake (deliver_word (with_notification s n (record old { waiters = others })) w badge) w).objects y) where
    abbrev new : NotificationState
    new = record old { waiters = others }

    abbrev one : State
    one = with_notification s n new

    blocked-at : IsBlockedAt s w n
    blocked-at =
        queued-there s w n all.sound.threads
        (subst (λ (o : Option Object). 1 ≤ times_in (waiting_at o) w) (sym was)
        (subst (λ (xs : List ℕ). 1 ≤ times_in xs w) (sym first) (first-times others w w refl)))

    abbrev own : ThreadState
    own = blocked-at.own

    w-apart : w ≢ n
    w-apart at = absurd (let clash : Some (ThreadObject own) ≡ Some (NotificationObject old) = sym blocked-at.is ∙ ap s.objects at ∙ was in cc)

    one-own : one.objects w ≡ Some (ThreadObject own)
    one-own = put-there s.objects n (Some (NotificationObject new)) w w-apart ∙ blocked-at.is

    abbrev written : RegisterFile
    written = write own.registers a0 badge

    two-own : (deliver_word one w badge).objects w ≡ Some (ThreadObject (record own { registers = advanced written }))
    two-own =
        passed one w (write (thread_at one w).registers a0 badge)
        ∙ ap (λ (u : ThreadState). Some (ThreadObject (record u { registers = advanced (write u.registers a0 badge) }))) (at-place one w own one-own)

    after-own : after.objects w ≡ Some (ThreadObject (woken own (advanced written)))
    after-own = objects w ∙ woke (deliver_word one w badge) w (record own { registers = advanced written }) two-own

    after-others : (y : ℕ) → y ≢ n → (y == w) ≡ false → after.objects y ≡ s.objects y
    after-others y other rests =
        objects y ∙ woke-there (deliver_word one w badge) w y (eqb-false y w rests)
        ∙ passed-there one w (write (thread_at one w).registers a0 badge) y (eqb-false y w rests)
        ∙ put-there s.objects n (Some (NotificationObject new)) y other

    after-notification : after.objects n ≡ Some (NotificationObject new)
    after-notification =
        objects n ∙ woke-there (deliver_word one w badge) w n (λ at. w-apart (sym at))
        ∙ passed-there one w (write (thread_at one w).registers a0 badge) n (λ at. w-apart (sym at))
        ∙ put-here s.objects n (Some (NotificationObject new)) n refl

    no-other : (y : ℕ) (object : Object) → (y == w) ≡ true → ((t : ThreadState) → object ≡ ThreadObject t → ⊥) → after.objects y ≡ Some object →
        s.objects y ≡ Some object
    no-other y object at other is =
        let same : Some object ≡ Some (ThreadObject (woken own (advanced written))) = sym is ∙ ap after.objects (eqb-true y w at) ∙ after-own in
        absurd (other (woken own (advanced written)) (let e : object ≡ ThreadObject (woken own (advanced written)) = cc in e))

    waits-still : (thread : ℕ) → Contains others thread → Contains old.waiters thread
    waits-still thread among = subst (λ (xs : List ℕ). Contains xs thread) (sym first) (contains-more w thread others among)

    module _ (t : Numbered) (listed : Contains (numbered_threads image) t) (at : tcb_of image t ≡ w) where
      there : s.objects (tcb_of image t) ≡ Some (ThreadObject own)
      there = ap s.objects at ∙ blocked-at.is

      first-own : Contains old.waiters (tcb_of image t)
      first-own = subst (λ (xs : List ℕ). Contains xs (tcb_of image t)) (sym first) (0, omega arith, sym at)

      fits : (state : PointState) (left : AfterCall) → WaitsSo image t s state left own.status → AreRegisters own.registers state.ranges →
          FitsBehind state left own.registers written
      fits state left so registers =
          let left_is : left ≡ behind_signal state = (subst (WaitsSo image t s state left) blocked-at.status so).waits old was first-own in
          let fit = laws.signal own.registers state.ranges badge registers small in
          subst (λ (l : AfterCall). FitsBehind state l own.registers written) (sym left_is) (record { slots = refl; pc = refl; only = fit.1; within = fit.0 })

      pub woken-stands : ThreadInvariant image t after later × WaitsAsAsked image t after
      woken-stands =
          wakes-up laws bytes image s labels later accepted all after sound store t listed (counts t listed) own there written
          (woken own (advanced written)) (ap after.objects at ∙ after-own) refl refl fits (subst IsWaiting (sym blocked-at.status) tt)

    control : (offset : ℕ) → offset ≡ w → IsControlBlock image offset
    control offset at = elim (all.others offset own (ap s.objects at ∙ blocked-at.is)) [
      | inl rests ↦ absurd (let clash : Blocked n ≡ Inactive = sym blocked-at.status ∙ rests in cc)
      | inr block ↦ block
    ]

    wakes : AllStand image after later
    wakes =
        all-stand laws.stand_on bytes image s after labels later (λ y. y == w) accepted all sound store
        (rest-beside s after n old new (λ y. y == w) was after-notification after-others no-other waits-still)
        (λ t listed is. woken-stands t listed (eqb-true (tcb_of image t) w is)) (λ offset u is there. control offset (eqb-true offset w is))
        (λ t listed rests. counts t listed)

  by-waiters : (waiters : List ℕ) → old.waiters ≡ waiters → ((y : ℕ) → after.objects y ≡ (signals s n badge old waiters).objects y) → AllStand image after later
  by-waiters [] none objects = joins objects
  by-waiters (w ∷ others) first objects = wakes w others first objects

  pub signal-stands : ((y : ℕ) → after.objects y ≡ (signal s n badge).objects y) → AllStand image after later
  signal-stands objects =
      let same : notification_at s n ≡ old = ap (λ (o : Option Object). option_map_or (λ (x : NotificationState). x) (as_notification o) new_notification)
      was in
      by-waiters old.waiters refl (λ y. objects y ∙ ap (λ (o : NotificationState). (signals s n badge o o.waiters).objects y) same)
