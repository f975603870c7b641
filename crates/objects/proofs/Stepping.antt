-- A call that changes queues leaves a state, and keeps the invariant of objects.
use Rattle.std.proofs.Common.{ℕ, ◌≡◌, ◌≢◌, ◌∙◌, ◌==◌, inl, inr, true, false, if◌then◌else◌, Option, Some, None, option_map, List, [], ◌∷◌, ◌++◌, drop, length}
use Rattle.std.proofs.Common.{refl, sym, ap, subst}
use Rattle.std.specs.Prelude.{slice_index}
use Rattle.std.proofs.lemmas.Bool.Decides.{eqb_tells}
use Rattle.model.specs.Capabilities.Slots.{IsOpen, Slots}
use Rattle.model.specs.Kernel.Kinds.{frame_around, kind_at, kind_of}
use Rattle.model.specs.Kernel.Retype.{NewObject}
use Rattle.model.specs.Kernel.Scheduling.{head_of, leaves, to_tail, unready}
use Rattle.model.specs.Kernel.State.{State, put, thread_at}
use Rattle.model.specs.Shared.Lists.{times_in, without}
use Rattle.queues.specs.Laws.{AreThreadsIn, KeepHeads, KeepThreads}
use Rattle.queues.specs.Layout.{AreLaidOut, Places}
use Rattle.queues.specs.Queues.{QueuesStand, SameBesideWaiting, queue_of}
use Rattle.queues.specs.Ready.{ReadyStands, SameBesideReady, ready_of}
use Rattle.queues.specs.Words.{end_of, link_at, link_in}
use Rattle.queues.specs.declared.words.Ends.{Ends}
use Rattle.queues.proofs.Laws.{kinds_apart, nobody_named, ready_stays, waiting_stays}
use Rattle.objects.proofs.Following.{follows-bytes}
use Rattle.objects.proofs.Frames.{Unmoved, fits-less, kind-joined, kind-left, kind-served, one-changed, records-then}
use Rattle.objects.proofs.InQueues.{ready-records, times-gone, waiting-records}
use Rattle.objects.proofs.Joining.{free-queue, joined-state, nowhere-queued}
use Rattle.objects.proofs.Leaving.{left-state}
use Rattle.objects.proofs.Replacing.{ready-is}
use Rattle.objects.proofs.Serving.{served-state}
use Rattle.objects.proofs.Told.{kind-state, kind-with, same-places, state_with, told}
use Rattle.objects.proofs.Vacating.{vacated-state}
use Rattle.objects.specs.Changes.{vacated, voided}
use Rattle.objects.specs.Frames.{FitsMemory, SameBesideRecords}
use Rattle.objects.proofs.Linked.{Linked}
use Rattle.objects.specs.Contents.{Contents, byte_in, is_thread_kind, kind_in, places_of, ready_at, sending_in, contents_state, waiting_of}
use Rattle.objects.specs.Waiting.{StandsNowhere, changed_at, has_waiting, joined, served}
use Rattle.objects.specs.Contents.{Record}
use Rattle.objects.specs.declared.thread_records.records.Sending.{Sending}
use Rattle.objects.specs.declared.thread_records.records.Thread.{Thread}

-- what a call leaves: a state, and the invariant of objects
pub record Left (n : Contents) (slots : Slots) (memory : List ℕ) (t : State) : Type 0 where
  pub state : contents_state n slots memory ≡ t
  pub stands : Linked n slots memory

-- ---- those that wait change beside those that are ready

module _ (p : Places) (slots : Slots) (a b : List ℕ) (laid : AreLaidOut p slots (length a)) (queues : ℕ → List ℕ) (there : AreThreadsIn p queues) where
  pub ready-beyond : (ends : List Ends) → SameBesideWaiting p queues a b → ReadyStands p ends a → ReadyStands p ends b
  ready-beyond ends same = ready_stays.stands p p ends a b same.size (λ thread. inl (kinds_apart.ready p slots a b laid queues there same thread))

  pub ready-as-was : (ends : List Ends) → SameBesideWaiting p queues a b → ReadyStands p ends a → (priority : ℕ) →
      ready_of p ends b priority ≡ ready_of p ends a priority
  ready-as-was ends same = ready_stays.queues p p ends a b same.size (λ thread. inl (kinds_apart.ready p slots a b laid queues there same thread))

  pub waiting-beyond : SameBesideReady queues a b → QueuesStand p a → QueuesStand p b
  waiting-beyond same = waiting_stays.stands p p a b same.size (λ thread. inl (kinds_apart.waiting p slots a b laid queues there same thread))
      (λ queue. inl (kinds_apart.heads p slots a b laid queues there same queue))

  pub waiting-as-was : SameBesideReady queues a b → QueuesStand p a → (queue : ℕ) → queue_of p b queue ≡ queue_of p a queue
  waiting-as-was same = waiting_stays.queues p p a b same.size (λ thread. inl (kinds_apart.waiting p slots a b laid queues there same thread))
      (λ queue. inl (kinds_apart.heads p slots a b laid queues there same queue))

-- what is ready stays so while those that wait change
pub ready-then : (o : Contents) (slots : Slots) (a b : List ℕ) → Linked o slots a → AreLaidOut (places_of o) slots (length a) →
    SameBesideWaiting (places_of o) (waiting_of o a) a b
    → ReadyStands (places_of o) o.ready b
ready-then o slots a b stands laid same =
    ready-beyond (places_of o) slots a b laid (waiting_of o a) (kinds_apart.waiters (places_of o) a stands.waiting) o.ready same stands.ready

-- No object comes: where bytes of records changed, the state is what the tables give with the bytes that were there.
module _ (o n : Contents) (before after : Slots) (old new : List ℕ) (t : State) (stands : Linked o before old) (same_slots : after ≡ before) where
  abbrev s : State
  s = contents_state o before old

  module _ (is : state_with n (waiting_of n new) (ready_at n new) before old ≡ t)
      (kinds : (offset : ℕ) (kind : NewObject) → kind_at t offset ≡ Some kind → kind_at s offset ≡ Some kind)
      (bytes : (place : ℕ) → s.bytes place ≡ None → t.bytes place ≡ None) (slots : t.slots ≡ s.slots) (bits : t.memory_bits ≡ s.memory_bits)
      (same : SameBesideRecords s old new) (waiting : QueuesStand (places_of n) new) (ready : ReadyStands (places_of n) n.ready new) where
    frames-same : (place byte : ℕ) → byte_in n.records old place ≡ Some byte → slice_index new place ≡ slice_index old place
    frames-same place byte some = same.bytes place (λ held.
        let none = bytes place (stands.fits.apart place held) in
        let clash : None ≡ Some byte = sym none ∙ sym (ap (λ (u : State). u.bytes place) is) ∙ some in absurd cc)

    now-state : contents_state n after new ≡ t
    now-state = follows-bytes n before old new after frames-same ∙ ap (λ (f : Slots). state_with n (waiting_of n new) (ready_at n new) f old) same_slots ∙ is

    pub left-there : Left n after new t
    left-there = record {
      state = now-state;
      stands = record {
        fits = subst (λ (u : State). FitsMemory u new) (sym now-state) (fits-less s t old new stands.fits bits same.size
            (λ slot is_open. subst (λ (f : Slots). IsOpen f slot) slots is_open) bytes kinds);
        waiting = waiting;
        ready = ready;
      };
    }

  -- the objects are the same
  module _ (is : state_with n (queue_of (places_of o) new) (ready_of (places_of o) n.ready new) before old ≡ t) (unmoved : Unmoved s t) where
    kinds-are : (offset : ℕ) → kind_in n offset ≡ kind_in o offset
    kinds-are offset =
        sym (kind-with n (queue_of (places_of o) new) (ready_of (places_of o) n.ready new) before old offset) ∙ ap (λ (u : State). kind_at u offset) is
        ∙ unmoved.kinds offset ∙ kind-state o offset before old

    places-are : places_of n ≡ places_of o
    places-are = same-places o n kinds-are

    pub left-same : SameBesideRecords s old new → QueuesStand (places_of o) new → ReadyStands (places_of o) n.ready new → Left n after new t
    left-same same waiting ready =
        left-there ((λ i. state_with n (queue_of (places-are i) new) (ready_of (places-are i) n.ready new) before old) ∙ is)
        (λ offset kind k. sym (unmoved.kinds offset) ∙ k) (λ place none. ap (λ (f : ℕ → Option ℕ). f place) unmoved.bytes ∙ none) unmoved.slots unmoved.bits
        same (subst (λ (p : Places). QueuesStand p new) (sym places-are) waiting) (subst (λ (p : Places). ReadyStands p n.ready new) (sym places-are) ready)

module _ (o : Contents) (before after : Slots) (old new : List ℕ) (stands : Linked o before old) (same_slots : after ≡ before)
    (laid : AreLaidOut (places_of o) before (length old)) where
  abbrev was : State
  was = contents_state o before old

  abbrev p : Places
  p = places_of o

  abbrev waits : ℕ → List ℕ
  waits = waiting_of o old

  abbrev runs : ℕ → List ℕ
  runs = ready_at o old

  own-waiters : AreThreadsIn p waits
  own-waiters = kinds_apart.waiters p old stands.waiting

  own-runners : AreThreadsIn p runs
  own-runners = kinds_apart.runners p o.ready old stands.ready

  -- the first of a queue leaves
  pub serve-left : (queue thread : ℕ) → head_of (waits queue) ≡ Some thread
      → ((other : ℕ) → queue_of p new other ≡ put waits queue (drop 1 (waits queue)) other) → QueuesStand p new → SameBesideWaiting p waits old new
      → Left o after new (changed_at was queue (served (sending_in o.threads thread))) × SameBesideRecords was old new
  serve-left queue thread first popped queued bytes =
      let same = waiting-records o before old old new waits own-waiters bytes in
      let ready_was = ready-as-was p before old new laid waits own-waiters o.ready bytes stands.ready in (
        left-same o o before after old new (changed_at was queue (served (sending_in o.threads thread))) stands same_slots
            (served-state o waits (queue_of p new) queue thread popped first (ready_of p o.ready new) before old
            ∙ (λ i. changed_at (state_with o waits (λ priority. ready_was priority i) before old) queue (served (sending_in o.threads thread)))
            ∙ ap (λ (u : State). changed_at u queue (served (sending_in o.threads thread))) (sym (told o before old)))
            (one-changed was queue (served (sending_in o.threads thread)) (kind-served (sending_in o.threads thread)))
            same queued (ready-beyond p before old new laid waits own-waiters o.ready bytes stands.ready),
        same,
      )

  -- a thread comes after the others
  pub enqueue-left : (threads : ℕ → Option Thread) (queue thread : ℕ) (held : Thread) (sending : Option Sending)
      → o.threads thread ≡ Some held → has_waiting (kind_at was queue) ≡ true → StandsNowhere was.objects thread
      → ((other : ℕ) → threads other ≡ put (o.threads) thread (Some (record held { sending = sending })) other)
      → ((other : ℕ) → queue_of p new other ≡ put waits queue (waits queue ++ thread ∷ []) other) → QueuesStand p new
      → SameBesideWaiting p (queue_of p new) old new
      → Left (record o { threads = threads }) after new (changed_at was queue (joined thread sending)) × SameBesideRecords was old new
  enqueue-left threads queue thread held sending there may apart replaced pushed queued bytes =
      let now-waiters = kinds_apart.waiters p new queued in
      let same = waiting-records o before old old new (queue_of p new) now-waiters bytes in
      let ready_was = ready-as-was p before old new laid (queue_of p new) now-waiters o.ready bytes stands.ready in (
        left-same o (record o { threads = threads }) before after old new (changed_at was queue (joined thread sending)) stands same_slots
            (joined-state o threads waits (queue_of p new) queue thread held sending there (free-queue o before old queue may) replaced pushed
            (nowhere-queued o before old thread stands apart) (ready_of p o.ready new) before old
            ∙ (λ i. changed_at (state_with o waits (λ priority. ready_was priority i) before old) queue (joined thread sending))
            ∙ ap (λ (u : State). changed_at u queue (joined thread sending)) (sym (told o before old)))
            (one-changed was queue (joined thread sending) (kind-joined thread sending)) same queued
            (ready-beyond p before old new laid (queue_of p new) now-waiters o.ready bytes stands.ready),
        same,
      )

  -- a thread leaves the ready list
  pub unready-left : (ready : List Ends) (thread : ℕ) → ((priority : ℕ) → ready_of p ready new priority ≡ without thread (runs priority)) →
      ReadyStands p ready new
      → SameBesideReady runs old new → Left (record o { ready = ready }) after new (unready was thread) × SameBesideRecords was old new
  unready-left ready thread left queued bytes =
      let same = ready-records o before old old new runs own-runners bytes in
      let waits_was = waiting-as-was p before old new laid runs own-runners bytes stands.waiting in (
        left-same o (record o { ready = ready }) before after old new (unready was thread) stands same_slots
            ((λ i. state_with o (λ queue. waits_was queue i) (λ priority. left priority i) before old)
            ∙ ap (λ (u : State). unready u thread) (sym (told o before old)))
            (record { kinds = λ offset. refl; bytes = refl; slots = refl; bits = refl }) same
            (waiting-beyond p before old new laid runs own-runners bytes stands.waiting) queued,
        same,
      )

  -- a thread leaves all queues, and nobody has the right to reply to it
  pub forget-left : (threads : ℕ → Option Thread) (ready : List Ends) (thread : ℕ) (mid : List ℕ)
      → ((other : ℕ) → threads other ≡ option_map (voided thread) (o.threads other))
      → ((queue : ℕ) → queue_of p mid queue ≡ without thread (waits queue)) → QueuesStand p mid → SameBesideWaiting p waits old mid
      → ((priority : ℕ) → ready_of p ready new priority ≡ without thread (ready_of p o.ready mid priority)) → ReadyStands p ready new
      → SameBesideReady (ready_of p o.ready mid) mid new
      → Left (record o { threads = threads; ready = ready }) after new (leaves was thread) × SameBesideRecords was old new
      × ((queue : ℕ) → times_in (waiting_of (record o { threads = threads; ready = ready }) new queue) thread ≡ 0)
      × ((priority : ℕ) → times_in (ready_at (record o { threads = threads; ready = ready }) new priority) thread ≡ 0)
  forget-left threads ready thread mid void left queued bytes unready runs_now more =
      let n : Contents = record o { threads = threads; ready = ready } in
      let laid_mid = subst (AreLaidOut p before) (sym bytes.size) laid in
      let ready_mid = ready-beyond p before old mid laid waits own-waiters o.ready bytes stands.ready in
      let ready_was = ready-as-was p before old mid laid waits own-waiters o.ready bytes stands.ready in
      let mid-runners = kinds_apart.runners p o.ready mid ready_mid in
      let waits_was = waiting-as-was p before mid new laid_mid (ready_of p o.ready mid) mid-runners more queued in
      let left_now : (queue : ℕ) → queue_of p new queue ≡ without thread (waits queue) = λ queue. waits_was queue ∙ left queue in
      let unready_now : (priority : ℕ) → ready_of p ready new priority ≡ without thread (runs priority) = λ priority. unready priority
      ∙ ap (without thread) (ready_was priority) in
      let same = records-then was was old mid new (λ offset kind is. is) (waiting-records o before old old mid waits own-waiters bytes)
      (ready-records o before old mid new (ready_of p o.ready mid) mid-runners more) in
      let is = left-state o threads waits (queue_of p new) runs (ready_of p ready new) thread void left_now unready_now before old
      ∙ ap (λ (u : State). leaves u thread) (sym (told o before old)) in
      let unmoved : Unmoved was (leaves was thread) =
      record { kinds = λ offset. kind-left (λ other. other == thread) (was.objects offset); bytes = refl; slots = refl; bits = refl } in
      let same_places = places-are o n before after old new (leaves was thread) stands same_slots is unmoved in (
        left-same o n before after old new (leaves was thread) stands same_slots is unmoved
            same (waiting-beyond p before mid new laid_mid (ready_of p o.ready mid) mid-runners more queued) runs_now,
        same,
        λ queue. ap (λ (x : Places). times_in (queue_of x new queue) thread) same_places ∙ ap (λ l. times_in l thread) (left_now queue)
            ∙ times-gone (waits queue) thread,
        λ priority. ap (λ (x : Places). times_in (ready_of x ready new priority) thread) same_places ∙ ap (λ l. times_in l thread) (unready_now priority)
            ∙ times-gone (runs priority) thread,
      )

  -- a thread goes to the tail of its priority
  pub tail-left : (ready mid_ready : List Ends) (thread priority : ℕ) (mid : List ℕ) → priority ≡ (thread_at was thread).priority
      → ((other : ℕ) → ready_of p mid_ready mid other ≡ without thread (runs other)) → ReadyStands p mid_ready mid → SameBesideReady runs old mid
      → ((other : ℕ) → ready_of p ready new other ≡ put (ready_of p mid_ready mid) priority (ready_of p mid_ready mid priority ++ thread ∷ []) other) →
      ReadyStands p ready new
      → SameBesideReady (ready_of p ready new) mid new
      → Left (record o { ready = ready }) after new (to_tail was thread) × SameBesideRecords was old new
  tail-left ready mid_ready thread priority mid own left mid_stands bytes pushed queued more =
      let laid_mid = subst (AreLaidOut p before) (sym bytes.size) laid in
      let waits_mid = waiting-beyond p before old mid laid runs own-runners bytes stands.waiting in
      let waits_was = waiting-as-was p before old mid laid runs own-runners bytes stands.waiting in
      let new-runners = kinds_apart.runners p ready new queued in
      let waits_now = waiting-as-was p before mid new laid_mid (ready_of p ready new) new-runners more waits_mid in
      let same = records-then was was old mid new (λ offset k is. is) (ready-records o before old old mid runs own-runners bytes)
      (ready-records o before old mid new (ready_of p ready new) new-runners more) in
      let queues : (other : ℕ) → ready_of p ready new other ≡ (to_tail was thread).ready other = λ other. pushed other
      ∙ (λ i. put (λ q. left q i) priority (left priority i ++ thread ∷ []) other)
      ∙ ap (λ (f : ℕ → List ℕ). put (λ q. without thread (f q)) priority (without thread (f priority) ++ thread ∷ []) other) (sym (ready-is o before old))
      ∙ ap (λ (n : ℕ). put (λ q. without thread (was.ready q)) n (without thread (was.ready n) ++ thread ∷ []) other) own in (
        left-same o (record o { ready = ready }) before after old new (to_tail was thread) stands same_slots
            ((λ i. state_with o (λ queue. (waits_now queue ∙ waits_was queue) i) (λ other. queues other i) before old)
            ∙ ap (λ (u : State). record u { ready = (to_tail was thread).ready }) (sym (told o before old)))
            (record { kinds = λ offset. refl; bytes = refl; slots = refl; bits = refl }) same
            (waiting-beyond p before mid new laid_mid (ready_of p ready new) new-runners more waits_mid) queued,
        same,
      )

  -- nothing is at an offset any more
  module _ (records : ℕ → Option Record) (threads : ℕ → Option Thread) (offset : ℕ)
      (waits_not : (queue : ℕ) → times_in (waits queue) offset ≡ 0) (ready_not : (priority : ℕ) → times_in (runs priority) offset ≡ 0)
      (unrecorded : (other : ℕ) → records other ≡ put (o.records) offset None other)
      (unthreaded : (other : ℕ) → threads other ≡ put (o.threads) offset None other)
      (ended : (queue : ℕ) → queue_of p new queue ≡ put waits offset [] queue) (queued : QueuesStand p new)
      (bytes : SameBesideWaiting p waits old new) where
    abbrev vacant : State
    vacant = vacated was offset

    abbrev n : Contents
    n = record o { records = records; threads = threads }

    kinds-then : (other : ℕ) (k : NewObject) → kind_at vacant other ≡ Some k → kind_at was other ≡ Some k
    kinds-then other k is = elim (offset == other) as (λ b. option_map kind_of (if b then None else was.objects other) ≡ Some k → kind_at was other ≡ Some k) [
      | true ↦ λ is. absurd (let clash : None ≡ Some k = is in cc)
      | false ↦ λ is. is
    ] is

    bytes-then : (place : ℕ) → was.bytes place ≡ None → vacant.bytes place ≡ None
    bytes-then place none = elim (offset == frame_around place) as (λ b. (if b then None else was.bytes place) ≡ None) [
      | true ↦ refl
      | false ↦ none
    ]

    -- another object is what it was
    kind-then : (other : ℕ) → other ≢ offset → kind_at vacant other ≡ kind_at was other
    kind-then other differs = elim (eqb_tells offset other) [
      | inl here ↦ absurd (differs (sym here.1))
      | inr apart ↦ ap (λ b. option_map kind_of (if b then None else was.objects other)) apart.0
    ]

    kind-here : kind_at vacant offset ≡ None
    kind-here = elim (eqb_tells offset offset) [
      | inl here ↦ ap (λ b. option_map kind_of (if b then None else was.objects offset)) here.0
      | inr apart ↦ absurd (apart.1 refl)
    ]

    ready_was : (priority : ℕ) → ready_of p o.ready new priority ≡ runs priority
    ready_was = ready-as-was p before old new laid waits own-waiters o.ready bytes stands.ready

    -- whatever the queues of the new tables are said to be
    vacant-with : (ready : ℕ → List ℕ) → ((priority : ℕ) → ready priority ≡ runs priority) → (waiting : ℕ → List ℕ) →
        ((queue : ℕ) → waiting queue ≡ queue_of p new queue)
        → state_with n waiting ready before old ≡ vacant
    vacant-with ready are waiting same =
        vacated-state o records threads waits waiting offset unrecorded unthreaded (λ queue. same queue ∙ ended queue) waits_not ready before old
        ∙ (λ i. vacated (state_with o waits (λ priority. are priority i) before old) offset) ∙ ap (λ (u : State). vacated u offset) (sym (told o before old))

    kinds-now : (other : ℕ) → kind_in n other ≡ kind_at vacant other
    kinds-now other = sym (kind-with n (queue_of p new) runs before old other)
        ∙ ap (λ (u : State). kind_at u other) (vacant-with runs (λ priority. refl) (queue_of p new) (λ queue. refl))

    kind-other : (other : ℕ) → other ≢ offset → kind_in n other ≡ kind_in o other
    kind-other other differs = kinds-now other ∙ kind-then other differs ∙ kind-state o other before old

    kind-gone : kind_in n offset ≡ None
    kind-gone = kinds-now offset ∙ kind-here

    ready_new : ReadyStands p o.ready new
    ready_new = ready-beyond p before old new laid waits own-waiters o.ready bytes stands.ready

    times-ended : (queue : ℕ) → times_in (queue_of p new queue) offset ≡ 0
    times-ended queue = elim (eqb_tells queue offset) [
      | inl here ↦ ap (λ l. times_in l offset) (ended queue) ∙ ap (λ b. times_in (if b then [] else waits queue) offset) here.0
      | inr apart ↦ ap (λ l. times_in l offset) (ended queue) ∙ ap (λ b. times_in (if b then [] else waits queue) offset) apart.0 ∙ waits_not queue
    ]

    keep : (base : ℕ) → link_in base p.threads new 0 offset ≡ None → KeepThreads base p (places_of n) new new
    keep base none thread = elim (eqb_tells thread offset) [
      | inl here ↦ inr (record {
        was = ap (link_in base p.threads new 0) here.1 ∙ none;
        now = ap (link_in base (places_of n).threads new 0) here.1
            ∙ ap (λ (k : Option NewObject). if is_thread_kind k then link_at base new offset 0 else None) kind-gone;
      })
      | inr apart ↦ inl (record { there = ap is_thread_kind (kind-other thread apart.1); bytes = λ is place held. refl })
    ]

    keep-waits : KeepThreads 244 p (places_of n) new new
    keep-waits = keep 244 (nobody_named.idle p new offset queued times-ended)

    keep-runs : KeepThreads 256 p (places_of n) new new
    keep-runs = keep 256 (nobody_named.unready p o.ready new offset ready_new
        (λ priority. ap (λ l. times_in l offset) (ready_was priority) ∙ ready_not priority))

    keep-heads : KeepHeads p (places_of n) new new
    keep-heads queue = elim (eqb_tells queue offset) [
      | inl here ↦ inr (record {
        was = λ k low. nobody_named.empty p new queue queued (ended queue ∙ ap (λ b. if b then [] else waits queue) here.0) k low;
        now = λ k low. ap (λ (q : ℕ). end_of new k ((places_of n).heads q)) here.1
            ∙ ap (λ (x : Option NewObject). end_of new k (if has_waiting x then Some offset else None)) kind-gone;
      })
      | inr apart ↦ inl (record {
        there = ap (λ (x : Option NewObject). if has_waiting x then Some queue else None) (kind-other queue apart.1);
        bytes =
            λ head place is held. refl;
      })
    ]

    waits_now : (queue : ℕ) → queue_of (places_of n) new queue ≡ queue_of p new queue
    waits_now = waiting_stays.queues p (places_of n) new new refl keep-waits keep-heads queued

    runs_now : (priority : ℕ) → ready_of (places_of n) o.ready new priority ≡ ready_of p o.ready new priority
    runs_now = ready_stays.queues p (places_of n) o.ready new new refl keep-runs ready_new

    pub vacate-left : Left n after new (vacated was offset) × SameBesideRecords was old new
    vacate-left =
        let same = waiting-records o before old old new waits own-waiters bytes in (
          left-there o n before after old new vacant stands same_slots
              (vacant-with (ready_at n new) (λ priority. runs_now priority ∙ ready_was priority) (waiting_of n new) waits_now)
              kinds-then bytes-then refl refl same (waiting_stays.stands p (places_of n) new new refl keep-waits keep-heads queued)
              (ready_stays.stands p (places_of n) o.ready new new refl keep-runs ready_new),
          same,
        )
