-- What each write of links or of contents leaves.
use Rattle.std.proofs.Common.{ℕ, ◌≡◌, ◌≢◌, ◌∙◌, ◌++◌, inl, inr, true, if◌then◌else◌, Option, Some, option_map, List, [], ◌∷◌, drop, length, sym, ap, subst}
use Rattle.std.specs.Prelude.{option_and_then}
use Rattle.std.proofs.lemmas.Bool.Decides.{eqb_tells}
use Rattle.model.specs.Capabilities.Slots.{Slots}
use Rattle.model.specs.Kernel.Kinds.{kind_at}
use Rattle.model.specs.Kernel.Retype.{NewNotification, NewThread}
use Rattle.model.specs.Kernel.Scheduling.{head_of, to_tail, unready}
use Rattle.model.specs.Kernel.State.{NotificationObject, State, ThreadObject, put, thread_at, with_thread}
use Rattle.model.specs.Shared.Lists.{without}
use Rattle.queues.specs.Laws.{AreThreadsIn}
use Rattle.queues.specs.Layout.{AreLaidOut, Places}
use Rattle.queues.specs.Queues.{QueuesStand, SameBesideWaiting, queue_of}
use Rattle.queues.specs.Ready.{ReadyStands, SameBesideReady, ready_of}
use Rattle.queues.specs.declared.words.Ends.{Ends}
use Rattle.queues.proofs.Laws.{kinds_apart}
use Rattle.objects.proofs.Endpoints.{word-with}
use Rattle.objects.proofs.Frames.{Unmoved, one-put, same-state}
use Rattle.objects.proofs.Holding.{Done, are-contents, done, kind-as, kind-state, linked, places-as}
use Rattle.objects.proofs.Joining.{nowhere-queued}
use Rattle.objects.proofs.Kept.{put-there}
use Rattle.objects.proofs.Linked.{Linked}
use Rattle.objects.proofs.Parts.{SameBesideContents, SameBesideLinks, contents-records, known-same, link-record, link-replier, link-word, ready-as, ready-links}
use Rattle.objects.proofs.Parts.{ready-stands, same-contents, waiting-as, waiting-links, waiting-stands}
use Rattle.objects.proofs.Replacing.{replaced-with}
use Rattle.objects.proofs.Stepping.{Left, enqueue-left, left-same, serve-left, tail-left, unready-left}
use Rattle.objects.proofs.Told.{laid-out, state_with, told}
use Rattle.objects.proofs.Vacating.{other-same}
use Rattle.objects.specs.Contents as contents
use Rattle.objects.specs.Contents.{Contents, Notification, Record, contents_state, object_from, object_in, object_of, places_by}
use Rattle.objects.specs.Frames.{SameBesideRecords}
use Rattle.objects.specs.Laid.{AreThreadsPlaced}
use Rattle.objects.specs.Rights.{AreKnown, has_right}
use Rattle.objects.specs.Standing.{Standing}
use Rattle.objects.specs.Tables.{AreTables, Tables, contents_of, kind_in, places_of, ready_at, sending_in, state_of, thread_in, waiting_of}
use Rattle.objects.specs.Waiting.{StandsNowhere, changed_at, has_waiting, joined, served, with_word}
use Rattle.objects.specs.thread_records.Threads.{thread_state}
use Rattle.objects.specs.declared.thread_records.records.Sending.{Sending}
use Rattle.objects.specs.declared.thread_records.records.Thread.{Thread}

module _ (o : Tables) (before after : Slots) (old new : List ℕ) (stands : Standing o before old) (same_slots : after ≡ before) where
  abbrev s : State
  s = state_of o before old

  abbrev c : Contents
  c = contents_of o old

  links : Linked c before old
  links = linked o before old stands

  waiters : AreThreadsIn (places_of o) (waiting_of o old)
  waiters = kinds_apart.waiters (places_of o) old stands.waiting

  runners : AreThreadsIn (places_of o) (ready_at o old)
  runners = kinds_apart.runners (places_of o) o.ready old stands.ready

  -- ---- only links change

  module _ (same : SameBesideLinks o old new) where
    pub links-contents : contents_of o new ≡ c
    links-contents = same-contents o old new (link-record o before old stands.fits old new same) (link-word o before old stands.fits old new same)

    pub links-known : AreKnown (thread_in o new) new
    links-known = known-same o old new stands.rights (λ caller holder right. ap (λ (x : Contents). has_right (x.threads holder) caller) (sym links-contents)
        ∙ right)
        (link-replier o before old stands.fits old new same)

    links-done : (ready : List Ends) (t : State) → Left (record c { ready = ready }) after new t → Done (record o { ready = ready }) after new t
    links-done ready t left =
        done (record o { ready = ready }) after new t (subst (AreThreadsPlaced o.entries) (sym same.size) stands.placed)
        (subst (λ (x : Contents). Left (record x { ready = ready }) after new t) (sym links-contents) left) links-known

  module _ (are : AreTables o) where
    laid : AreLaidOut (contents.places_of c) before (length old)
    unfolding state_of
    laid = laid-out c before old (are-contents o are old) stands.fits

    pub serve-done : (queue thread : ℕ) → head_of (waiting_of o old queue) ≡ Some thread
        → ((other : ℕ) → waiting_of o new other ≡ put (waiting_of o old) queue (drop 1 (waiting_of o old queue)) other) → QueuesStand (places_of o) new
        → SameBesideWaiting (places_of o) (waiting_of o old) old new
        → Done o after new (changed_at s queue (served (sending_in o old thread))) × SameBesideRecords s old new
    unfolding state_of
    serve-done queue thread first popped queued bytes =
        let t = changed_at s queue (served (sending_in o old thread)) in
        let left = subst (λ (p : Places). head_of (queue_of p old queue) ≡ Some thread
        → ((other : ℕ) → queue_of p new other ≡ put (queue_of p old) queue (drop 1 (queue_of p old queue)) other) → QueuesStand p new
        → SameBesideWaiting p (queue_of p old) old new → Left c after new t × SameBesideRecords s old new)
        (places-as o old) (serve-left c before after old new links same_slots laid queue thread) first popped queued bytes in
        (links-done (waiting-links o old new (waiting_of o old) waiters bytes) o.ready t left.0, left.1)

    pub enqueue-done : (queue thread : ℕ) (held : Thread) (sending : Option Sending) → thread_in o old thread ≡ Some held → held.sending ≡ sending
        → has_waiting (kind_at s queue) ≡ true → StandsNowhere s.objects thread
        → ((other : ℕ) → waiting_of o new other ≡ put (waiting_of o old) queue (waiting_of o old queue ++ thread ∷ []) other) → QueuesStand (places_of o) new
        → SameBesideWaiting (places_of o) (waiting_of o new) old new
        → Done o after new (changed_at s queue (joined thread sending)) × SameBesideRecords s old new
    unfolding state_of
    enqueue-done queue thread held sending there sends may apart pushed queued bytes =
        let t = changed_at s queue (joined thread sending) in
        let same : Some held ≡ Some (record held { sending = sending }) = ap (λ (x : Option Sending). Some (record held { sending = x })) sends in
        let self : (other : ℕ) → c.threads other ≡ put c.threads thread (Some (record held { sending = sending })) other = λ other.
        elim (eqb_tells other thread) [
          | inl here ↦ ap c.threads here.1 ∙ there ∙ same ∙ ap (λ b. if b then Some (record held { sending = sending }) else c.threads other) (sym here.0)
          | inr differs ↦ sym (put-there c.threads thread (Some (record held { sending = sending })) other differs.1)
        ] in
        let left = subst (λ (p : Places). ((other : ℕ) → queue_of p new other ≡ put (queue_of p old) queue (queue_of p old queue ++ thread ∷ []) other) →
        QueuesStand p new
        → SameBesideWaiting p (queue_of p new) old new → Left c after new t × SameBesideRecords s old new)
        (places-as o old) (enqueue-left c before after old new links same_slots laid c.threads queue thread held sending there may apart self) pushed queued
        bytes in
        (links-done (waiting-links o old new (waiting_of o new) (kinds_apart.waiters (places_of o) new queued) bytes) o.ready t left.0, left.1)

    pub unready-done : (ready : List Ends) (thread : ℕ) →
        ((priority : ℕ) → ready_of (places_of o) ready new priority ≡ without thread (ready_at o old priority))
        → ReadyStands (places_of o) ready new → SameBesideReady (ready_at o old) old new
        → Done (record o { ready = ready }) after new (unready s thread) × SameBesideRecords s old new
    unfolding state_of
    unready-done ready thread unlisted queued bytes =
        let t = unready s thread in
        let left = subst (λ (p : Places). ((priority : ℕ) → ready_of p ready new priority ≡ without thread (ready_of p o.ready old priority))
        → ReadyStands p ready new → SameBesideReady (ready_of p o.ready old) old new → Left (record c { ready = ready }) after new t
        × SameBesideRecords s old new)
        (places-as o old) (unready-left c before after old new links same_slots laid ready thread) unlisted queued bytes in
        (links-done (ready-links o old new (ready_at o old) runners bytes) ready t left.0, left.1)

    pub tail-done : (ready mid_ready : List Ends) (thread priority : ℕ) (mid : List ℕ) → priority ≡ (thread_at s thread).priority
        → ((other : ℕ) → ready_of (places_of o) mid_ready mid other ≡ without thread (ready_at o old other)) → ReadyStands (places_of o) mid_ready mid
        → SameBesideReady (ready_at o old) old mid
        → ((other : ℕ) → ready_of (places_of o) ready new other
        ≡ put (ready_of (places_of o) mid_ready mid) priority (ready_of (places_of o) mid_ready mid priority ++ thread ∷ []) other)
        → ReadyStands (places_of o) ready new → SameBesideReady (ready_of (places_of o) ready new) mid new
        → Done (record o { ready = ready }) after new (to_tail s thread) × SameBesideRecords s old new
    unfolding state_of
    tail-done ready mid_ready thread priority mid own unlisted mid_stands bytes pushed queued more =
        let t = to_tail s thread in
        let left = subst (λ (p : Places). ((other : ℕ) → ready_of p mid_ready mid other ≡ without thread (ready_of p o.ready old other)) →
        ReadyStands p mid_ready mid
        → SameBesideReady (ready_of p o.ready old) old mid
        → ((other : ℕ) → ready_of p ready new other ≡ put (ready_of p mid_ready mid) priority (ready_of p mid_ready mid priority ++ thread ∷ []) other)
        → ReadyStands p ready new → SameBesideReady (ready_of p ready new) mid new → Left (record c { ready = ready }) after new t
        × SameBesideRecords s old new)
        (places-as o old) (tail-left c before after old new links same_slots laid ready mid_ready thread priority mid own) unlisted mid_stands bytes pushed
        queued more in
        let one = ready-links o old mid (ready_at o old) runners bytes in
        let two = ready-links o mid new (ready_of (places_of o) ready new) (kinds_apart.runners (places_of o) ready new queued) more in
        let both : SameBesideLinks o old new = record {
          size = two.size ∙ one.size;
          bytes = λ place threads points. two.bytes place threads points ∙ one.bytes place threads points;
        } in
        (links-done both ready t left.0, left.1)

  -- ---- only contents change

  module _ (same : SameBesideContents o old new) where
    abbrev d : Contents
    d = contents_of o new

    waits_now : (queue : ℕ) → queue_of (contents.places_of c) new queue ≡ queue_of (contents.places_of c) old queue
    waits_now = subst (λ (p : Places). (queue : ℕ) → queue_of p new queue ≡ queue_of p old queue) (sym (places-as o old))
        (waiting-as o before old stands.fits old new same stands.waiting)

    runs_now : (priority : ℕ) → ready_of (contents.places_of c) o.ready new priority ≡ ready_of (contents.places_of c) o.ready old priority
    runs_now = subst (λ (p : Places). (priority : ℕ) → ready_of p o.ready new priority ≡ ready_of p o.ready old priority) (sym (places-as o old))
        (ready-as o before old stands.fits old new same o.ready stands.ready)

    pub contents-done : (t : State) → state_with d (contents.waiting_of c old) (contents.ready_at c old) before old ≡ t → Unmoved s t →
        AreKnown (thread_in o new) new
        → Done o after new t × SameBesideRecords s old new
    unfolding state_of
    contents-done t is unmoved known =
        let records = contents-records o before old stands.fits old new same in
        let waiting = subst (λ (p : Places). QueuesStand p new) (sym (places-as o old)) (waiting-stands o before old stands.fits old new same stands.waiting) in
        let ready = subst (λ (p : Places). ReadyStands p o.ready new) (sym (places-as o old))
        (ready-stands o before old stands.fits old new same o.ready stands.ready) in
        let is' : state_with d (queue_of (contents.places_of c) new) (ready_of (contents.places_of c) d.ready new) before old ≡ t =
        (λ i. state_with d (λ queue. waits_now queue i) (λ priority. runs_now priority i) before old) ∙ is in (
          done o after new t (subst (AreThreadsPlaced o.entries) (sym same.size) stands.placed)
              (left-same c d before after old new t links same_slots is' unmoved records waiting ready) known,
          records,
        )

    -- a thread is another one that sends the same
    pub thread-done : (thread : ℕ) (held now : Thread) → kind_in o thread ≡ Some NewThread → thread_in o old thread ≡ Some held → held.sending ≡ now.sending
        → ((other : ℕ) → thread_in o new other ≡ put (thread_in o old) thread (Some now) other)
        → ((other : ℕ) → d.records other ≡ c.records other) → AreKnown (thread_in o new) new
        → Done o after new (with_thread s thread (thread_state now)) × SameBesideRecords s old new
    unfolding state_of
    thread-done thread held now is there alike replaced recorded known =
        contents-done (with_thread s thread (thread_state now))
        ((λ i. state_with (record d { records = λ other. recorded other i }) (contents.waiting_of c old) (contents.ready_at c old) before old)
        ∙ replaced-with c d.threads thread now replaced (ap (option_and_then (λ (t : Thread). t.sending)) there ∙ alike) (contents.waiting_of c old)
        (contents.ready_at c old) before old
        ∙ ap (λ (u : State). with_thread u thread (thread_state now)) (sym (told c before old)))
        (one-put s thread (ThreadObject (thread_state now)) (kind-state o thread before old ∙ is)) known

    -- a notification has another word
    pub word-done : (notification word : ℕ) → kind_in o notification ≡ Some NewNotification
        → ((other : ℕ) → thread_in o new other ≡ thread_in o old other)
        → ((other : ℕ) → d.records other ≡ put c.records notification (Some (Notification word)) other) → AreKnown (thread_in o new) new
        → Done o after new (with_word s notification word) × SameBesideRecords s old new
    unfolding state_of
    word-done notification word is threads recorded known =
        contents-done (with_word s notification word)
        ((λ i. state_with (record d { threads = λ other. threads other i }) (contents.waiting_of c old) (contents.ready_at c old) before old)
        ∙ word-with c d.records notification word (kind-as o old notification ∙ is) recorded (contents.waiting_of c old) (contents.ready_at c old) before old
        ∙ ap (λ (u : State). with_word u notification word) (sym (told c before old)))
        (one-put s notification (NotificationObject _) (kind-state o notification before old ∙ is)) known

    -- a thread that waits nowhere sends something else
    pub sending-done : (thread : ℕ) (held : Thread) (sending : Option Sending) → kind_in o thread ≡ Some NewThread → thread_in o old thread ≡ Some held
        → StandsNowhere s.objects thread
        → ((other : ℕ) → thread_in o new other ≡ put (thread_in o old) thread (Some (record held { sending = sending })) other)
        → ((other : ℕ) → d.records other ≡ c.records other) → AreKnown (thread_in o new) new → Done o after new s × SameBesideRecords s old new
    unfolding state_of
    sending-done thread held sending is there apart replaced recorded known =
        let nowhere = nowhere-queued c before old thread links apart in
        let sends : (other : ℕ) → other ≢ thread → contents.sending_in d.threads other ≡ contents.sending_in c.threads other = λ other differs.
        ap (option_and_then (λ (t : Thread). t.sending)) (replaced other ∙ put-there c.threads thread _ other differs) in
        let objects : (other : ℕ) → object_in d (contents.waiting_of c old) other ≡ object_in c (contents.waiting_of c old) other = λ other.
        elim (eqb_tells other thread) [
          | inl here ↦
              ap (λ (x : Option Thread). object_from x (option_map (object_of d.threads (contents.waiting_of c old other)) (d.records other)))
              (replaced other ∙ ap (λ b. if b then Some (record held { sending = sending }) else c.threads other) here.0)
              ∙ ap (λ (x : Option Thread). object_from x (option_map (object_of c.threads (contents.waiting_of c old other)) (c.records other)))
              (sym (ap c.threads here.1 ∙ there))
          | inr differs ↦
              ap (λ (x : Option Thread). object_from x (option_map (object_of d.threads (contents.waiting_of c old other)) (d.records other)))
              (replaced other ∙ put-there c.threads thread _ other differs.1)
              ∙ ap (λ (r : Option Record). object_from (c.threads other) (option_map (object_of d.threads (contents.waiting_of c old other)) r))
              (recorded other)
              ∙ ap (object_from (c.threads other))
              (other-same c.threads d.threads thread (contents.waiting_of c old other) (c.records other) sends (nowhere other))
        ] in
        contents-done s ((λ i. record (state_with d (contents.waiting_of c old) (contents.ready_at c old) before old) {
          objects = λ other. objects other i;
          bytes = λ place. contents.byte_in (λ other. recorded other i) old place;
        }) ∙ sym (told c before old)) (same-state s) known
