-- What single calls on one thread leave.
use Rattle.std.proofs.Common.{ℕ, ◌≡◌, ◌∙◌, ◌+◌, ◌^◌, ◌<◌, ◌≤◌, inl, inr, true, false, Option, Some, None, option_map, List, length, refl, sym, ap, subst, arith}
use Rattle.std.specs.Prelude.{option_and_then, slice_index}
use Rattle.std.specs.Option.{option_map_or}
use Rattle.model.specs.Capabilities.Slots.{OutsideSlots, Slots}
use Rattle.model.specs.Kernel.Kinds.{kind_at}
use Rattle.model.specs.Kernel.Messages.{with_caller}
use Rattle.model.specs.Kernel.Retype.{NewNotification, NewThread}
use Rattle.model.specs.Kernel.State.{State, ThreadObject, ThreadState, new_thread, put, thread_at, with_thread}
use Rattle.model.proofs.BytesLemmas.{word_at-written}
use Rattle.model.specs.Shared.Bytes.{word_at, word_bytes, written}
use Rattle.objects.proofs.Doing.{sending-done, thread-done, word-done}
use Rattle.objects.proofs.Frames.{moved-to, one-put, same-objects}
use Rattle.objects.proofs.Holding.{Done, closed, entry-there, kind-state, kind-there, linked, places-as, thread-entry, thread-place, thread-some}
use Rattle.objects.proofs.Made.{word-beside, word-size}
use Rattle.objects.proofs.Parts.{IsPart, SameBesideContents, contents-then, known-same, record-beside, replier-beside, replier-same, threads-beside}
use Rattle.objects.proofs.Replacing as replacing
use Rattle.queues.specs.Layout.{Places}
use Rattle.queues.specs.Queues.{queue_of}
use Rattle.objects.proofs.Joining.{nowhere-queued}
use Rattle.objects.proofs.Told.{in-point, is-thread}
use Rattle.objects.proofs.Writing.{known-noted, other-replier, record-replaces, replier-record, replier-thread, same-rights, thread-here, threads-record}
use Rattle.objects.proofs.Writing.{threads-replier, word-replaces, word-replier, word-thread}
use Rattle.queues.proofs.Laws.{kinds_apart}
use Rattle.model.specs.Kernel.Scheduling.{all_leave, leaves}
use Rattle.model.specs.Shared.Lists.{times_in}
use Rattle.objects.proofs.Ends.{left-itself, left-nobody}
use Rattle.removal_laws.specs.Steps.{ends_thread}
use Rattle.std.proofs.lemmas.Bool.{cases_lt}
use Rattle.objects.proofs.Stranded.{stranded-at, stranded-nobody}
use Rattle.objects.specs.Contents as contents
use Rattle.objects.specs.Contents.{contents_state, told_by, is_thread_kind, object_in}
use Rattle.removal_laws.specs.Finishing.{is_stranded, waits_nowhere}
use Rattle.objects.specs.Frames.{SameBesideRecords, SameObjects}
use Rattle.objects.specs.Laid.{IsThreadPlace}
use Rattle.objects.specs.Rights.{AreKnown, SameBesideReplier, has_right, noted, replier_at}
use Rattle.objects.specs.Standing.{Standing}
use Rattle.objects.specs.Tables.{Tables, contents_of, entry_in, kind_in, kind_of_entry, places_of, ready_at, sending_in, state_of, thread_from, thread_in}
use Rattle.objects.specs.Tables.{waiting_of}
use Rattle.objects.specs.Waiting.{StandsNowhere, has_waiting, with_word}
use Rattle.objects.specs.declared.records.Entry.{Entry}
use Rattle.objects.specs.declared.records.Entry.TheVariants as entries
use Rattle.objects.specs.thread_records.Records as thread_words
use Rattle.objects.specs.thread_records.Records.{IsRecordAt, SameBesideRecord}
use Rattle.objects.specs.thread_records.Threads.{status_of, thread_state}
use Rattle.objects.specs.declared.thread_records.records.Sending.{Sending}
use Rattle.objects.specs.declared.thread_records.records.Thread.{Thread}

pub record-of-place : (slots : Slots) (size thread : ℕ) → IsThreadPlace slots size thread → IsRecordAt slots size thread
record-of-place slots size thread place = record {
  few = place.few;
  within = place.within;
  outside = λ at from below.
      place.outside at from (omega (arith, below));
}

notification-entry : (e : Entry) → kind_of_entry e ≡ Some NewNotification → e ≡ entries.Notification
notification-entry entries.Notification is = refl
notification-entry entries.Nothing is = absurd cc
notification-entry entries.Thread is = absurd cc
notification-entry entries.Endpoint is = absurd cc
notification-entry (entries.CNode radix) is = absurd cc
notification-entry entries.Frame is = absurd cc
notification-entry entries.PageTable is = absurd cc
notification-entry entries.RootTable is = absurd cc

no-entry : (e : Entry) (t : Thread) → is_thread_kind (kind_of_entry e) ≡ false → thread_from e t ≡ None
no-entry entries.Thread t is = absurd (let clash : true ≡ false = is in cc)
no-entry entries.Nothing t is = refl
no-entry entries.Endpoint t is = refl
no-entry entries.Notification t is = refl
no-entry (entries.CNode radix) t is = refl
no-entry entries.Frame t is = refl
no-entry entries.PageTable t is = refl
no-entry entries.RootTable t is = refl

same-some : (a b : Thread) → Some a ≡ Some b → a ≡ b
same-some a b is = cc

-- ---- what is read

module _ (o : Tables) (slots : Slots) (memory : List ℕ) where
  pub none-at : (thread : ℕ) → is_thread_kind (kind_in o thread) ≡ false → thread_in o memory thread ≡ None
  none-at thread is = no-entry (entry_in o.entries thread) (thread_words.thread_at memory thread) is

  -- the thread of a state, where one is and where none is
  pub read-there : (thread : ℕ) → is_thread_kind (kind_in o thread) ≡ true →
      thread_at (state_of o slots memory) thread ≡ thread_state (thread_words.thread_at memory thread)
  unfolding state_of
  read-there thread is =
      replacing.thread-is (contents_of o memory) thread (thread_words.thread_at memory thread) slots memory
      (thread-here o memory thread (kind-there o thread (thread-entry (entry_in o.entries thread) is)))

  pub read-none : (thread : ℕ) → is_thread_kind (kind_in o thread) ≡ false → thread_at (state_of o slots memory) thread ≡ new_thread
  unfolding state_of
  read-none thread is =
      replacing.thread-state (contents_of o memory) thread slots memory
      ∙ ap (λ (t : Option Thread). option_map_or (λ x. x) (option_map thread_state t) new_thread) (none-at thread is)

  pub inside : Standing o slots memory → (thread : ℕ) → is_thread_kind (kind_in o thread) ≡ true → thread + 512 ≤ length memory
  inside stands thread is = stands.placed.within thread (thread-entry (entry_in o.entries thread) is)

  pub of-state : (thread : ℕ) → kind_at (state_of o slots memory) thread ≡ Some NewThread → kind_in o thread ≡ Some NewThread
  of-state thread is = sym (kind-state o thread slots memory) ∙ is

  pub place-there : Standing o slots memory → (thread : ℕ) → kind_at (state_of o slots memory) thread ≡ Some NewThread →
      IsThreadPlace slots (length memory) thread
  place-there stands thread is = thread-place o slots memory stands thread (entry-there o thread (of-state thread is))

  pub record-there : Standing o slots memory → (thread : ℕ) → kind_at (state_of o slots memory) thread ≡ Some NewThread →
      IsRecordAt slots (length memory) thread
  record-there stands thread is = record-of-place slots (length memory) thread (place-there stands thread is)

  -- objects, and who is stranded
  pub objects-of : (x : ℕ) → (state_of o slots memory).objects x ≡ object_in (contents_of o memory) (contents.waiting_of (contents_of o memory) memory) x
  unfolding state_of told_by
  objects-of x = refl

  pub stranded-there : (thread : ℕ) → is_thread_kind (kind_in o thread) ≡ true
      → is_stranded (state_of o slots memory) thread ≡ waits_nowhere (state_of o slots memory) (status_of (thread_words.thread_at memory thread).status)
  unfolding state_of
  stranded-there thread is = stranded-at (contents_of o memory) thread (thread_words.thread_at memory thread) slots memory
      (thread-here o memory thread (kind-there o thread (thread-entry (entry_in o.entries thread) is)))

  pub stranded-none : (thread : ℕ) → is_thread_kind (kind_in o thread) ≡ false → is_stranded (state_of o slots memory) thread ≡ false
  unfolding state_of
  stranded-none thread is = stranded-nobody (contents_of o memory) thread slots memory (none-at thread is)

  pub sends-there : (thread : ℕ) → is_thread_kind (kind_in o thread) ≡ true → (thread_words.thread_at memory thread).sending ≡ sending_in o memory thread
  sends-there thread is = ap (option_and_then (λ (t : Thread). t.sending))
      (sym (thread-here o memory thread (kind-there o thread (thread-entry (entry_in o.entries thread) is))))

  pub sends-none : (thread : ℕ) → is_thread_kind (kind_in o thread) ≡ false → None ≡ sending_in o memory thread
  sends-none thread is = ap (option_and_then (λ (t : Thread). t.sending)) (sym (none-at thread is))

  -- where no thread is, nobody waits, is ready, or may be replied to
  module _ (stands : Standing o slots memory) (offset : ℕ) (no : is_thread_kind (kind_in o offset) ≡ false) where
    pub nobody-waits : (queue : ℕ) → times_in (waiting_of o memory queue) offset ≡ 0
    nobody-waits queue = elim (cases_lt 0 (times_in (waiting_of o memory queue) offset)) [
      | inl some ↦ absurd (let clash : false ≡ true = sym no ∙ kinds_apart.waiters (places_of o) memory stands.waiting queue offset some in cc)
      | inr few ↦ omega (arith, few)
    ]

    pub nobody-runs : (priority : ℕ) → times_in (ready_at o memory priority) offset ≡ 0
    nobody-runs priority = elim (cases_lt 0 (times_in (ready_at o memory priority) offset)) [
      | inl some ↦ absurd (let clash : false ≡ true = sym no ∙ kinds_apart.runners (places_of o) o.ready memory stands.ready priority offset some in cc)
      | inr few ↦ omega (arith, few)
    ]

    pub nobody-replies : (holder : ℕ) → has_right (thread_in o memory holder) offset ≡ false
    nobody-replies holder = elim (has_right (thread_in o memory holder) offset)
        as (λ b. has_right (thread_in o memory holder) offset ≡ b → has_right (thread_in o memory holder) offset ≡ false) [
          | false ↦ λ is. is
          | true ↦ λ is.
              absurd (let clash : false ≡ true =
              sym no ∙ ap (λ (e : Entry). is_thread_kind (kind_of_entry e)) (thread-some o memory offset (stands.rights.there offset holder is)) in cc)
        ] refl

    pub left-none : state_of o slots memory ≡ all_leave (state_of o slots memory) (ends_thread (state_of o slots memory) offset)
    unfolding state_of
    left-none = left-nobody (contents_of o memory) offset slots memory (none-at offset no)

  pub left-one : (offset : ℕ) → is_thread_kind (kind_in o offset) ≡ true
      → leaves (state_of o slots memory) offset ≡ all_leave (state_of o slots memory) (ends_thread (state_of o slots memory) offset)
  unfolding state_of
  left-one offset is = left-itself (contents_of o memory) offset slots memory (Some (thread_words.thread_at memory offset))
      (sym (thread-here o memory offset (kind-there o offset (thread-entry (entry_in o.entries offset) is)))) refl

  pub stranded-kind : (offset : ℕ) → is_stranded (state_of o slots memory) offset ≡ true → kind_at (state_of o slots memory) offset ≡ Some NewThread
  stranded-kind offset stranded = elim (is_thread_kind (kind_in o offset))
      as (λ b. is_thread_kind (kind_in o offset) ≡ b → kind_at (state_of o slots memory) offset ≡ Some NewThread) [
        | true ↦ λ is. kind-state o offset slots memory ∙ is-thread (kind_in o offset) is
        | false ↦ λ no. absurd (let clash : false ≡ true = sym (stranded-none offset no) ∙ stranded in cc)
      ] refl

  -- who waits at no object is in no queue
  pub nowhere-here : Standing o slots memory → (thread : ℕ) → StandsNowhere (state_of o slots memory).objects thread → (queue : ℕ) →
      times_in (waiting_of o memory queue) thread ≡ 0
  unfolding state_of
  nowhere-here stands thread apart = subst (λ (p : Places). (queue : ℕ) → times_in (queue_of p memory queue) thread ≡ 0) (places-as o memory)
      (nowhere-queued (contents_of o memory) slots memory thread (linked o slots memory stands) apart)

  -- the word of a notification
  module _ (stands : Standing o slots memory) (notification : ℕ) (is : kind_in o notification ≡ Some NewNotification) where
    pub word-inside : notification + 8 + 4 ≤ length memory
    word-inside = omega (arith, stands.placed.points notification (notification-entry (entry_in o.entries notification) is))

    pub word-outside : OutsideSlots slots (notification + 8) 4
    word-outside = λ place from below. closed o slots memory stands.fits place
        (in-point (state_of o slots memory) notification place (ap has_waiting (kind-state o notification slots memory ∙ is)) (omega (arith, from))
        (omega (arith, below))).0

-- ---- what is written

module _ (o : Tables) (before after : Slots) (old new : List ℕ) (stands : Standing o before old) (same_slots : after ≡ before) where
  abbrev s : State
  s = state_of o before old

  module _ (thread : ℕ) (there : kind_at s thread ≡ Some NewThread) (same : SameBesideRecord thread old new) (now : Thread)
      (holds : thread_words.thread_at new thread ≡ now) where
    abbrev held : Thread
    held = thread_words.thread_at old thread

    is : kind_in o thread ≡ Some NewThread
    is = of-state o before old thread there

    here : thread_in o old thread ≡ Some held
    here = thread-here o old thread is

    replaced : (other : ℕ) → thread_in o new other ≡ put (thread_in o old) thread (Some now) other
    replaced = record-replaces o before old stands.fits old new thread is same now holds

    recorded : (other : ℕ) → (contents_of o new).records other ≡ (contents_of o old).records other
    recorded = threads-record o before old stands.fits old new (record-beside o old new thread is same)

    known : held.caller ≡ now.caller → AreKnown (thread_in o new) new
    known alike = known-same o old new stands.rights (same-rights (thread_in o old) (thread_in o new) thread held now here alike replaced)
        (threads-replier o before old stands.fits old new (record-beside o old new thread is same))

    beside : SameBesideContents o old new
    beside = threads-beside o old new (record-beside o old new thread is same)

    -- a field of the thread changes
    module _ (sends : held.sending ≡ now.sending) (calls : held.caller ≡ now.caller) (change : ThreadState → ThreadState)
        (is_changed : thread_state now ≡ change (thread_state held)) where
      pub field-done : Done o after new (with_thread s thread (change (thread_at s thread))) × SameBesideRecords s old new
      field-done =
          let result = thread-done o before after old new stands same_slots beside thread held now is here sends replaced recorded (known calls) in
          let own : thread_at s thread ≡ thread_state held = read-there o before old thread (ap is_thread_kind is) in
          (subst (λ (t : ThreadState). Done o after new (with_thread s thread t)) (is_changed ∙ ap change (sym own)) result.0, result.1)

      pub field-objects : SameObjects s (state_of o after new) old new
      field-objects = same-objects s (state_of o after new) old new
          (moved-to s (state_of o after new) _ field-done.0.state (one-put s thread (ThreadObject (change (thread_at s thread))) there)) field-done.1

    -- what it sends changes
    pub unsent-done : (sending : Option Sending) → StandsNowhere s.objects thread → now ≡ record held { sending = sending } → Done o after new s
        × SameBesideRecords s old new
    unsent-done sending apart changed =
        sending-done o before after old new stands same_slots beside thread held sending is here apart
        (λ other. replaced other ∙ ap (λ (t : Thread). put (thread_in o old) thread (Some t) other) changed) recorded
        (known (ap (λ (t : Thread). t.caller) (sym changed)))

  -- a thread comes to have the right to reply to a caller
  module _ (thread : ℕ) (caller : Option ℕ) (mid : List ℕ) (there : kind_at s thread ≡ Some NewThread)
      (named : (other : ℕ) → caller ≡ Some other → kind_at s other ≡ Some NewThread)
      (note : (other : ℕ) → caller ≡ Some other → replier_at mid other ≡ noted (thread_in o old) thread other (replier_at old other))
      (replier : SameBesideReplier caller old mid) (same : SameBesideRecord thread mid new)
      (holds : thread_words.thread_at new thread ≡ record (thread_words.thread_at mid thread) { caller = caller }) where
    own-kind : kind_in o thread ≡ Some NewThread
    own-kind = of-state o before old thread there

    caller-kind : (other : ℕ) → caller ≡ Some other → kind_in o other ≡ Some NewThread
    caller-kind other found = of-state o before old other (named other found)

    abbrev t : Thread
    t = thread_words.thread_at mid thread

    in-mid : (other : ℕ) → thread_in o mid other ≡ thread_in o old other
    in-mid = replier-thread o before old stands.fits old mid caller caller-kind replier

    was-there : thread_in o old thread ≡ Some t
    was-there = sym (in-mid thread) ∙ thread-here o mid thread own-kind

    put-now : (other : ℕ) → thread_in o new other ≡ put (thread_in o old) thread (Some (record t { caller = caller })) other
    put-now other =
        record-replaces o before old stands.fits mid new thread own-kind same (record t { caller = caller }) holds other
        ∙ (λ i. put (λ x. in-mid x i) thread (Some (record t { caller = caller })) other)

    both : SameBesideContents o old new
    both = contents-then o old mid new (replier-beside o old mid caller caller-kind replier)
        (threads-beside o mid new (record-beside o mid new thread own-kind same))

    words : (other : ℕ) → (contents_of o new).records other ≡ (contents_of o old).records other
    words other =
        threads-record o before old stands.fits mid new (record-beside o mid new thread own-kind same) other
        ∙ replier-record o before old stands.fits old mid caller caller-kind replier other

    kept-replier : (other : ℕ) → kind_in o other ≡ Some NewThread → replier_at new other ≡ replier_at mid other
    kept-replier other other_is = replier-same mid new other
        (threads-replier o before old stands.fits mid new (record-beside o mid new thread own-kind same) other other_is)

    known-now : AreKnown (thread_in o new) new
    known-now = known-noted o old new stands.rights thread (record t { caller = caller }) caller caller-kind refl put-now
        (λ other found. kept-replier other (caller-kind other found) ∙ note other found)
        (λ other other_is off. kept-replier other other_is ∙ other-replier o before old stands.fits old mid caller caller-kind replier other other_is off)

    pub caller-done : Done o after new (with_caller s thread caller) × SameBesideRecords s old new
    caller-done =
        let result = thread-done o before after old new stands same_slots both thread t (record t { caller = caller }) own-kind was-there refl put-now words
        known-now in
        let own : thread_at s thread ≡ thread_state t =
        read-there o before old thread (ap is_thread_kind own-kind)
        ∙ ap thread_state (same-some (thread_words.thread_at old thread) t (sym (thread-here o old thread own-kind) ∙ was-there)) in (
          subst (λ (x : ThreadState). Done o after new (with_thread s thread x)) (ap (λ (x : ThreadState). record x { caller = caller }) (sym own)) result.0,
          result.1,
        )

  -- a notification has another word
  module _ (notification word : ℕ) (there : kind_at s notification ≡ Some NewNotification) (within : notification + 8 + 4 ≤ length old) (small : word < 2 ^ 32)
      (bytes : new ≡ written old (notification + 8) (word_bytes word)) where
    point : kind_in o notification ≡ Some NewNotification
    point = sym (kind-state o notification before old) ∙ there

    size : length new ≡ length old
    size = ap (λ (m : List ℕ). length m) bytes ∙ word-size old (notification + 8) word within

    alike : (place : ℕ) → (IsPart notification 8 12 place → ⊥) → slice_index new place ≡ slice_index old place
    alike place apart =
        ap (λ (m : List ℕ). slice_index m place) bytes ∙ word-beside old (notification + 8) word place within (λ from below. apart (from, omega (arith, below)))

    holds : word_at new (notification + 8) ≡ word
    holds = ap (λ (m : List ℕ). word_at m (notification + 8)) bytes ∙ word_at-written old (notification + 8) word within small

    only : SameBesideContents o old new
    only = record { size = size; bytes = λ place records repliers words. alike place (λ part. words notification (ap has_waiting point) part) }

    pub set-word-done : Done o after new (with_word s notification word) × SameBesideRecords s old new
    set-word-done =
        let threads = word-thread o before old stands.fits old new notification word point size alike holds in
        word-done o before after old new stands same_slots only notification word point threads
        (word-replaces o before old stands.fits old new notification word point size alike holds (notification-entry (entry_in o.entries notification) point))
        (known-same o old new stands.rights (λ caller holder right. ap (λ (x : Option Thread). has_right x caller) (sym (threads holder)) ∙ right)
        (word-replier o before old stands.fits old new notification word point size alike holds))
