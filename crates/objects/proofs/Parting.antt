-- A thread leaves all queues, and nothing is at an offset any more.
use Rattle.std.proofs.Common.{ℕ, ◌≡◌, ◌≢◌, ◌∙◌, ◌==◌, ◌+◌, ◌*◌, inl, inr, true, false, if◌then◌else◌, Option, None, is_some, option_map, List, [], length, refl}
use Rattle.std.proofs.Common.{sym, ap, subst, arith}
use Rattle.std.proofs.lemmas.Bool.Decides.{eqb_tells}
use Rattle.model.specs.Capabilities.Slots.{Slots}
use Rattle.model.specs.Kernel.Kinds.{kind_at}
use Rattle.model.specs.Kernel.Scheduling.{leaves}
use Rattle.model.specs.Kernel.State.{State, put}
use Rattle.model.specs.Shared.Bytes.{word_at}
use Rattle.model.specs.Shared.Lists.{times_in, without}
use Rattle.queues.specs.Laws.{AreThreadsIn}
use Rattle.queues.specs.Layout.{AreLaidOut, Places}
use Rattle.queues.specs.Queues.{QueuesStand, SameBesideWaiting, queue_of}
use Rattle.queues.specs.Ready.{ReadyStands, SameBesideReady, ready_of}
use Rattle.queues.specs.declared.words.Ends.{Ends}
use Rattle.queues.proofs.Laws.{kinds_apart}
use Rattle.objects.proofs.Doing.{links-contents, links-known}
use Rattle.objects.proofs.Frames.{Unmoved, kind-left, record-was, same-state}
use Rattle.objects.proofs.Holding.{Done, are-contents, done, kind-state, kind-there, linked, places-as, thread-some}
use Rattle.objects.proofs.Kept.{put-there}
use Rattle.objects.proofs.Linked.{Linked}
use Rattle.objects.proofs.Parts.{SameBesideContents, SameBesideLinks, contents-records, known-same, link-replier, links-then, ready-as, ready-links}
use Rattle.objects.proofs.Parts.{ready-stands, replier-same, threads-beside, waiting-as, waiting-links, waiting-stands}
use Rattle.objects.proofs.Stepping.{Left, forget-left, left-same, ready-then, vacate-left}
use Rattle.objects.proofs.Told as tellings
use Rattle.objects.proofs.Told.{laid-out, state_with, told}
use Rattle.objects.proofs.Writing.{threads-record, threads-replier, void-fewer, void-gone}
use Rattle.objects.specs.Changes.{vacated, voided}
use Rattle.objects.specs.Contents as contents
use Rattle.objects.specs.Contents.{Contents, Record, contents_state, told_by, places_by}
use Rattle.objects.specs.Frames.{SameBesideRecords}
use Rattle.objects.specs.Laid.{AreThreadsPlaced, SameBesideThreads}
use Rattle.objects.specs.Rights.{AreKnown, has_right}
use Rattle.objects.specs.Standing.{Standing}
use Rattle.objects.specs.Tables.{AreTables, Tables, contents_of, entry_in, kind_in, places_of, ready_at, record_from, state_of, thread_from, thread_in}
use Rattle.objects.specs.Tables.{waiting_of}
use Rattle.objects.specs.declared.records.Entry.{Entry}
use Rattle.objects.specs.declared.records.Entry.TheVariants as entries
use Rattle.objects.specs.thread_records.Records as thread_words
use Rattle.objects.specs.declared.thread_records.records.Thread.{Thread}

-- where one entry is taken away
module _ (o : Tables) (entries_now : List Entry) (offset : ℕ) (cleared : (other : ℕ) →
    entry_in entries_now other ≡ put (entry_in o.entries) offset entries.Nothing other) where
  less-entry : (place : ℕ) (e : Entry) → entry_in entries_now place ≡ e → (entries.Nothing ≡ e → ⊥) → entry_in o.entries place ≡ e
  less-entry place e is some = elim (eqb_tells place offset) [
    | inl here ↦ absurd (some (sym (cleared place ∙ ap (λ b. if b then entries.Nothing else entry_in o.entries place) here.0) ∙ is))
    | inr apart ↦ sym (cleared place ∙ put-there (entry_in o.entries) offset entries.Nothing place apart.1) ∙ is
  ]

pub tables-less : (o : Tables) (entries_now : List Entry) (offset : ℕ) → AreTables o → length entries_now ≡ length o.entries
    → ((other : ℕ) → entry_in entries_now other ≡ put (entry_in o.entries) offset entries.Nothing other) → AreTables (record o { entries = entries_now })
tables-less o entries_now offset are long cleared = record {
  least_bits = are.least_bits;
  most_bits = are.most_bits;
  most_radix = are.most_radix;
  places = ap (λ (n : ℕ). 16 * n) long ∙ are.places;
  threads = λ other is. are.threads other (less-entry o entries_now offset cleared other entries.Thread is (λ same. absurd cc));
  nodes = λ other radix is. are.nodes other radix (less-entry o entries_now offset cleared other (entries.CNode radix) is (λ same. absurd cc));
}

module _ (o : Tables) (before after : Slots) (old : List ℕ) (stands : Standing o before old) (same_slots : after ≡ before) where
  abbrev s : State
  s = state_of o before old

  abbrev c : Contents
  c = contents_of o old

  abbrev p : Places
  p = places_of o

  links : Linked c before old
  links = linked o before old stands

  waiters : AreThreadsIn p (waiting_of o old)
  waiters = kinds_apart.waiters p old stands.waiting

  -- what was left stays left where contents change otherwise
  module _ (x : Contents) (t : State) (a b : List ℕ) (kinds : (offset : ℕ) → kind_at t offset ≡ kind_in o offset) (left : Left x after a t) where
    kinds-of : (offset : ℕ) → contents.kind_in x offset ≡ kind_in o offset
    kinds-of offset = sym (tellings.kind-state x offset after a) ∙ ap (λ (u : State). kind_at u offset) left.state ∙ kinds offset

    places-of : contents.places_of x ≡ p
    places-of = λ i. places_by (λ offset. kinds-of offset i)

    waits-there : QueuesStand p a
    waits-there = subst (λ (q : Places). QueuesStand q a) places-of left.stands.waiting

    runs-there : ReadyStands p x.ready a
    runs-there = subst (λ (q : Places). ReadyStands q x.ready a) places-of left.stands.ready

    carry : SameBesideContents o a b → Left x after b t
    unfolding told_by
    carry same =
        let u : State = contents_state x after a in
        let waits : (queue : ℕ) → queue_of (contents.places_of x) b queue ≡ queue_of (contents.places_of x) a queue =
        subst (λ (q : Places). (queue : ℕ) → queue_of q b queue ≡ queue_of q a queue) (sym places-of)
        (waiting-as o before old stands.fits a b same waits-there) in
        let runs : (priority : ℕ) → ready_of (contents.places_of x) x.ready b priority ≡ ready_of (contents.places_of x) x.ready a priority =
        subst (λ (q : Places). (priority : ℕ) → ready_of q x.ready b priority ≡ ready_of q x.ready a priority) (sym places-of)
        (ready-as o before old stands.fits a b same x.ready runs-there) in
        let is : state_with x (queue_of (contents.places_of x) b) (ready_of (contents.places_of x) x.ready b) after a ≡ t =
        (λ i. state_with x (λ queue. waits queue i) (λ priority. runs priority i) after a) ∙ left.state in
        let beside = contents-records o before old stands.fits a b same in
        let records : SameBesideRecords u a b = record {
          size = beside.size;
          bytes = λ place apart. beside.bytes place (λ held. apart (record-was u s place
              (λ offset kind found. tellings.kind-state x offset after a ∙ kinds-of offset ∙ sym (kind-state o offset before old) ∙ found) held));
        } in
        left-same x x after after a b t left.stands refl is (subst (Unmoved u) left.state (same-state u)) records
        (subst (λ (q : Places). QueuesStand q b) (sym places-of) (waiting-stands o before old stands.fits a b same waits-there))
        (subst (λ (q : Places). ReadyStands q x.ready b) (sym places-of) (ready-stands o before old stands.fits a b same x.ready runs-there))

  module _ (are : AreTables o) where
    laid : AreLaidOut (contents.places_of c) before (length old)
    unfolding state_of
    laid = laid-out c before old (are-contents o are old) stands.fits

    -- ---- a thread leaves all queues

    -- who is ready stays so while those that wait change
    pub ready-after : (one : List ℕ) → SameBesideWaiting p (waiting_of o old) old one → ReadyStands p o.ready one
    ready-after one bytes = subst (λ (q : Places). ReadyStands q o.ready one) (places-as o old)
        (ready-then c before old one links laid (subst (λ (q : Places). SameBesideWaiting q (queue_of q old) old one) (sym (places-as o old)) bytes))

    module _ (ready : List Ends) (thread : ℕ) (one two : List ℕ)
        (left : (queue : ℕ) → waiting_of o one queue ≡ without thread (waiting_of o old queue)) (queued : QueuesStand p one)
        (bytes : SameBesideWaiting p (waiting_of o old) old one)
        (unready : (priority : ℕ) → ready_of p ready two priority ≡ without thread (ready_at o one priority)) (readied : ReadyStands p ready two)
        (more : SameBesideReady (ready_at o one) one two) where
      both : SameBesideLinks o old two
      both = links-then o old one two (waiting-links o old one (waiting_of o old) waiters bytes)
          (ready-links o one two (ready_at o one) (kinds_apart.runners p o.ready one (ready-after one bytes)) more)

      pub known-two : AreKnown (thread_in o two) two
      known-two = links-known o before after old two stands same_slots both

      module _ (new : List ℕ)
          (void : (other : ℕ) → thread_in o new other ≡ option_map (voided thread) (thread_in o two other)) (beside : SameBesideThreads o.entries two new) where
        abbrev n : Tables
        n = record o { ready = ready }

        void-all : (other : ℕ) → thread_in o new other ≡ option_map (voided thread) (thread_in o old other)
        void-all other = void other ∙ ap (λ (x : Contents). option_map (voided thread) (x.threads other))
            (links-contents o before after old two stands same_slots both)

        abbrev middle : Contents
        middle = record c { threads = thread_in o new; ready = ready }

        t-kinds : (offset : ℕ) → kind_at (leaves s thread) offset ≡ kind_in o offset
        t-kinds offset = kind-left (λ other. other == thread) (s.objects offset) ∙ kind-state o offset before old

        all : Left middle after two (leaves s thread) × SameBesideRecords s old two
            × ((queue : ℕ) → times_in (contents.waiting_of middle two queue) thread ≡ 0)
            × ((priority : ℕ) → times_in (contents.ready_at middle two priority) thread ≡ 0)
        unfolding state_of
        all = subst (λ (q : Places). ((queue : ℕ) → queue_of q one queue ≡ without thread (queue_of q old queue)) → QueuesStand q one
            → SameBesideWaiting q (queue_of q old) old one
            → ((priority : ℕ) → ready_of q ready two priority ≡ without thread (ready_of q o.ready one priority)) → ReadyStands q ready two
            → SameBesideReady (ready_of q o.ready one) one two
            → Left middle after two (leaves s thread) × SameBesideRecords s old two
            × ((queue : ℕ) → times_in (contents.waiting_of middle two queue) thread ≡ 0)
            × ((priority : ℕ) → times_in (contents.ready_at middle two priority) thread ≡ 0))
            (places-as o old) (forget-left c before after old two links same_slots laid (thread_in o new) ready thread one void-all) left queued bytes unready
            readied more

        carried : Left middle after new (leaves s thread)
        carried = carry middle (leaves s thread) two new t-kinds all.0 (threads-beside o two new beside)

        recorded : (other : ℕ) → (contents_of o new).records other ≡ c.records other
        recorded other =
            threads-record o before old stands.fits two new beside other
            ∙ ap (λ (x : Contents). x.records other) (links-contents o before after old two stands same_slots both)

        known : AreKnown (thread_in o new) new
        known = known-same o old new stands.rights
            (λ caller holder right. void-fewer thread caller (thread_in o old holder)
            (ap (λ (t : Option Thread). has_right t caller) (sym (void-all holder)) ∙ right))
            (λ other is place part. threads-replier o before old stands.fits two new beside other is place part
            ∙ link-replier o before old stands.fits old two both other is place part)

        pub forget-done : Done n after new (leaves s thread) × SameBesideRecords s old new
        forget-done = (
          done n after new (leaves s thread) (subst (AreThreadsPlaced o.entries) (sym (beside.size ∙ all.1.size)) stands.placed)
              (subst (λ (r : ℕ → Option Record). Left (record middle { records = r }) after new (leaves s thread))
              (λ i. λ other. sym (recorded other) i) carried) known,
          record {
            size = beside.size ∙ all.1.size;
            bytes = λ place apart.
                (contents-records o before old stands.fits two new (threads-beside o two new beside)).bytes place apart ∙ all.1.bytes place apart;
          },
        )

        pub forget-waits : (queue : ℕ) → times_in (waiting_of n new queue) thread ≡ 0
        forget-waits queue =
            ap (λ l. times_in l thread) (waiting-as o before old stands.fits two new (threads-beside o two new beside)
            (waits-there middle (leaves s thread) two two t-kinds all.0) queue)
            ∙ ap (λ (q : Places). times_in (queue_of q two queue) thread) (sym (places-of middle (leaves s thread) two two t-kinds all.0)) ∙ all.2 queue

        pub forget-ready : (priority : ℕ) → times_in (ready_at n new priority) thread ≡ 0
        forget-ready priority =
            ap (λ l. times_in l thread) (ready-as o before old stands.fits two new (threads-beside o two new beside) ready
            (runs-there middle (leaves s thread) two two t-kinds all.0) priority)
            ∙ ap (λ (q : Places). times_in (ready_of q ready two priority) thread) (sym (places-of middle (leaves s thread) two two t-kinds all.0))
            ∙ all.3 priority

        pub forget-rights : (holder : ℕ) → has_right (thread_in n new holder) thread ≡ false
        forget-rights holder = ap (λ (t : Option Thread). has_right t thread) (void-all holder) ∙ void-gone thread (thread_in o old holder)

    -- ---- nothing is at an offset any more

    module _ (entries_now : List Entry) (offset : ℕ) (new : List ℕ) (long : length entries_now ≡ length o.entries)
        (cleared : (other : ℕ) → entry_in entries_now other ≡ put (entry_in o.entries) offset entries.Nothing other)
        (waits_not : (queue : ℕ) → times_in (waiting_of o old queue) offset ≡ 0) (ready_not : (priority : ℕ) → times_in (ready_at o old priority) offset ≡ 0)
        (rights_not : (holder : ℕ) → has_right (thread_in o old holder) offset ≡ false)
        (ended : (queue : ℕ) → waiting_of o new queue ≡ put (waiting_of o old) offset [] queue) (queued : QueuesStand p new)
        (bytes : SameBesideWaiting p (waiting_of o old) old new) where
      abbrev m : Tables
      m = record o { entries = entries_now }

      abbrev e : Contents
      e = contents_of m new

      same : SameBesideLinks o old new
      same = waiting-links o old new (waiting_of o old) waiters bytes

      still : contents_of o new ≡ c
      still = links-contents o before after old new stands same_slots same

      unthreaded : (other : ℕ) → e.threads other ≡ put c.threads offset None other
      unthreaded other = elim (eqb_tells other offset) [
        | inl here ↦
            ap (λ (x : Entry). thread_from x (thread_words.thread_at new other))
            (cleared other ∙ ap (λ b. if b then entries.Nothing else entry_in o.entries other) here.0)
            ∙ sym (ap (λ b. if b then None else c.threads other) here.0)
        | inr apart ↦
            ap (λ (x : Entry). thread_from x (thread_words.thread_at new other))
            (cleared other ∙ put-there (entry_in o.entries) offset entries.Nothing other apart.1)
            ∙ ap (λ (x : Contents). x.threads other) still ∙ sym (put-there c.threads offset None other apart.1)
      ]

      unrecorded : (other : ℕ) → e.records other ≡ put c.records offset None other
      unrecorded other = elim (eqb_tells other offset) [
        | inl here ↦
            ap (λ (x : Entry). record_from x (word_at new (other + 8)))
            (cleared other ∙ ap (λ b. if b then entries.Nothing else entry_in o.entries other) here.0)
            ∙ sym (ap (λ b. if b then None else c.records other) here.0)
        | inr apart ↦
            ap (λ (x : Entry). record_from x (word_at new (other + 8))) (cleared other ∙ put-there (entry_in o.entries) offset entries.Nothing other apart.1)
            ∙ ap (λ (x : Contents). x.records other) still ∙ sym (put-there c.records offset None other apart.1)
      ]

      -- rights that are left were there, and are to threads that stay
      was : (caller holder : ℕ) → has_right (e.threads holder) caller ≡ true → has_right (c.threads holder) caller ≡ true
      was caller holder right = elim (eqb_tells holder offset) [
        | inl here ↦
            absurd (let clash : false ≡ true =
            sym (ap (λ (t : Option Thread). has_right t caller) (unthreaded holder ∙ ap (λ b. if b then None else c.threads holder) here.0)) ∙ right in cc)
        | inr apart ↦ sym (ap (λ (t : Option Thread). has_right t caller) (unthreaded holder ∙ put-there c.threads offset None holder apart.1)) ∙ right
      ]

      stays : (caller holder : ℕ) → has_right (c.threads holder) caller ≡ true → caller ≢ offset
      stays caller holder right at =
          let clash : false ≡ true = sym (rights_not holder) ∙ ap (λ (n : ℕ). has_right (c.threads holder) n) (sym at) ∙ right in absurd cc

      known-less : AreKnown (thread_in m new) new
      known-less = record {
        there = λ caller holder right.
            let right' = was caller holder right in
            ap is_some (unthreaded caller ∙ put-there c.threads offset None caller (stays caller holder right')) ∙ stands.rights.there caller holder right';
        only = λ caller holder thread right is.
            let right' = was caller holder right in
            let there = kind-there o caller (thread-some o old caller (stands.rights.there caller holder right')) in
            stands.rights.only caller holder thread right'
            (sym (replier-same old new caller (link-replier o before old stands.fits old new same caller there)) ∙ is);
      }

      entry-was : (place : ℕ) (e : Entry) → entry_in entries_now place ≡ e → (entries.Nothing ≡ e → ⊥) → entry_in o.entries place ≡ e
      entry-was = less-entry o entries_now offset cleared

      thread-was : (thread : ℕ) → entry_in entries_now thread ≡ entries.Thread → entry_in o.entries thread ≡ entries.Thread
      thread-was thread is = entry-was thread entries.Thread is (λ same. absurd cc)

      placed-less : AreThreadsPlaced entries_now (length new)
      placed-less =
          let size = bytes.size in
          let placed = stands.placed in
          record {
            places = omega (arith, long, placed.places);
            whole = omega (arith, long, placed.whole);
            few = omega (arith, size, placed.few);
            aligned = λ thread is. placed.aligned thread (thread-was thread is);
            within = λ thread is. omega (arith, size, placed.within thread (thread-was thread is));
            points = λ point is. omega (arith, size, placed.points point (entry-was point entries.Notification is (λ same. absurd cc)));
          }

      pub vacate-done : Done m after new (vacated s offset) × SameBesideRecords s old new
      unfolding state_of
      vacate-done =
          let result = subst (λ (q : Places). ((queue : ℕ) → times_in (queue_of q old queue) offset ≡ 0) →
          ((priority : ℕ) → times_in (ready_of q o.ready old priority) offset ≡ 0)
          → ((queue : ℕ) → queue_of q new queue ≡ put (queue_of q old) offset [] queue) → QueuesStand q new → SameBesideWaiting q (queue_of q old) old new
          → Left e after new (vacated s offset) × SameBesideRecords s old new)
          (places-as o old) (λ waits runs ends stand beside.
          vacate-left c before after old new links same_slots laid e.records e.threads offset waits runs unrecorded unthreaded ends stand beside)
          waits_not ready_not ended queued bytes in
          (done m after new (vacated s offset) placed-less result.0 known-less, result.1)
