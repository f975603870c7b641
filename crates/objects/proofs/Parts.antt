-- Which bytes of an object hold its links, and which its contents: neither kind of bytes lies in the other.
use Rattle.std.proofs.Common.{ℕ, ◌≡◌, ◌∙◌, ◌+◌, ◌<◌, ◌≤◌, inl, true, false, Option, Some, is_some, List, length, refl, sym, ap, arith}
use Rattle.std.specs.Prelude.{slice_index}
use Rattle.model.proofs.BytesLemmas.{word_at-same}
use Rattle.model.specs.Capabilities.Slots.{Slots}
use Rattle.model.specs.Kernel.Kinds.{kind_at}
use Rattle.model.specs.Kernel.Retype.{NewThread}
use Rattle.model.specs.Kernel.State.{State}
use Rattle.model.specs.Shared.Bytes.{word_at}
use Rattle.queues.specs.Laws.{AreThreadsIn, KeepHeads, KeepThreads}
use Rattle.queues.specs.Queues.{QueuesStand, SameBesideWaiting, queue_of}
use Rattle.queues.specs.Ready.{ReadyStands, SameBesideReady, ready_of}
use Rattle.queues.specs.declared.words.Ends.{Ends}
use Rattle.queues.proofs.Laws.{ready_stays, waiting_stays}
use Rattle.objects.proofs.Holding.{entry-there, kind-state, kind-there, thread-some}
use Rattle.objects.proofs.Told.{if-head, in-point, in-thread, is-thread}
use Rattle.objects.specs.Frames.{FitsMemory, SameBesideRecords}
use Rattle.objects.specs.Laid.{SameBesideThreads}
use Rattle.objects.specs.Rights.{AreKnown, SameBesideReplier, has_right, one_of, replier_at}
use Rattle.objects.specs.Tables.{Tables, contents_of, entry_in, kind_in, kind_of_entry, places_of, record_from, state_of, thread_from, thread_in}
use Rattle.objects.specs.Waiting.{has_waiting}
use Rattle.objects.specs.declared.records.Entry.{Entry}
use Rattle.objects.specs.declared.records.Entry.TheVariants as entries
use Rattle.objects.proofs.thread_records.Laws.{record_stays}
use Rattle.objects.specs.thread_records.Records as thread_words
use Rattle.objects.specs.thread_records.Records.{IsRecordByte, SameBesideRecord}
use Rattle.objects.specs.declared.thread_records.records.Thread.{Thread}

-- a place in the bytes of something, from one number on and below another
abbrev pub IsPart : ℕ → ℕ → ℕ → ℕ → Type 0
IsPart offset from to place = (offset + from ≤ place) × (place < offset + to)

-- all bytes are the same but those of links
pub record SameBesideLinks (o : Tables) (old new : List ℕ) : Type 0 where
  pub size : length new ≡ length old
  pub bytes : (place : ℕ) → ((thread : ℕ) → kind_in o thread ≡ Some NewThread → IsPart thread 244 268 place → ⊥)
      → ((queue : ℕ) → has_waiting (kind_in o queue) ≡ true → IsPart queue 0 8 place → ⊥) → slice_index new place ≡ slice_index old place

-- all bytes are the same but those of records of threads, of who may reply to them, and of words
pub record SameBesideContents (o : Tables) (old new : List ℕ) : Type 0 where
  pub size : length new ≡ length old
  pub bytes : (place : ℕ) → ((thread : ℕ) → kind_in o thread ≡ Some NewThread → IsPart thread 48 244 place → ⊥)
      → ((thread : ℕ) → kind_in o thread ≡ Some NewThread → IsPart thread 268 272 place → ⊥)
      → ((queue : ℕ) → has_waiting (kind_in o queue) ≡ true → IsPart queue 8 12 place → ⊥) → slice_index new place ≡ slice_index old place

pub contents-then : (o : Tables) (a b c : List ℕ) → SameBesideContents o a b → SameBesideContents o b c → SameBesideContents o a c
contents-then o a b c one two = record {
  size = two.size ∙ one.size;
  bytes = λ place records repliers words. two.bytes place records repliers words ∙ one.bytes place records repliers words;
}

pub links-then : (o : Tables) (a b c : List ℕ) → SameBesideLinks o a b → SameBesideLinks o b c → SameBesideLinks o a c
links-then o a b c one two = record {
  size = two.size ∙ one.size;
  bytes = λ place threads points. two.bytes place threads points ∙ one.bytes place threads points;
}

-- ---- what each write is

pub threads-beside : (o : Tables) (old new : List ℕ) → SameBesideThreads o.entries old new → SameBesideContents o old new
threads-beside o old new same = record {
  size = same.size;
  bytes = λ place records repliers words. same.bytes place (λ thread is held. records thread (kind-there o thread is) held);
}

pub record-beside : (o : Tables) (old new : List ℕ) (thread : ℕ) → kind_in o thread ≡ Some NewThread → SameBesideRecord thread old new →
    SameBesideThreads o.entries old new
record-beside o old new thread is same = record {
  size = same.size;
  bytes = λ place records. same.bytes place (λ held. records thread (entry-there o thread is) held);
}

pub replier-beside : (o : Tables) (old new : List ℕ) (caller : Option ℕ) → ((named : ℕ) → caller ≡ Some named → kind_in o named ≡ Some NewThread)
    → SameBesideReplier caller old new → SameBesideContents o old new
replier-beside o old new caller there same = record {
  size = same.size;
  bytes = λ place records repliers words. same.bytes place (λ thread named from to. repliers thread (there thread named) (from, to));
}

pub waiting-links : (o : Tables) (old new : List ℕ) (queues : ℕ → List ℕ) → AreThreadsIn (places_of o) queues → SameBesideWaiting (places_of o) queues old new
    → SameBesideLinks o old new
waiting-links o old new queues there same = record {
  size = same.size;
  bytes = λ place threads points. same.bytes place
      (λ queue thread stands held. threads thread (is-thread (kind_in o thread) (there queue thread stands)) (held.0, omega (arith, held.1)))
      (λ queue head thread stands is held.
      let at = if-head (has_waiting (kind_in o queue)) queue head is in
      points queue at.0 (omega (arith, held.0, at.1), omega (arith, held.1, at.1)));
}

pub ready-links : (o : Tables) (old new : List ℕ) (queues : ℕ → List ℕ) → AreThreadsIn (places_of o) queues → SameBesideReady queues old new →
    SameBesideLinks o old new
ready-links o old new queues there same = record {
  size = same.size;
  bytes = λ place threads points. same.bytes place
      (λ queue thread stands held. threads thread (is-thread (kind_in o thread) (there queue thread stands)) (omega (arith, held.0), omega (arith, held.1)));
}

-- ---- two objects hold no byte together

module _ (o : Tables) (slots : Slots) (memory : List ℕ) (fits : FitsMemory (state_of o slots memory) memory) where
  abbrev s : State
  s = state_of o slots memory

  thread-is : (thread : ℕ) → kind_in o thread ≡ Some NewThread → kind_at s thread ≡ Some NewThread
  thread-is thread is = kind-state o thread slots memory ∙ is

  point-is : (queue : ℕ) → has_waiting (kind_in o queue) ≡ true → has_waiting (kind_at s queue) ≡ true
  point-is queue is = ap has_waiting (kind-state o queue slots memory) ∙ is

  pub same-thread : (one two place : ℕ) → kind_in o one ≡ Some NewThread → kind_in o two ≡ Some NewThread → IsPart one 48 512 place → IsPart two 48 512 place →
      one ≡ two
  unfolding in-thread
  same-thread one two place is is' held held' =
      fits.alone place (in-thread s one place (thread-is one is) held.0 held.1) (in-thread s two place (thread-is two is') held'.0 held'.1)

  pub never-both : (thread queue place : ℕ) → kind_in o thread ≡ Some NewThread → has_waiting (kind_in o queue) ≡ true → IsPart thread 48 512 place →
      IsPart queue 0 16 place → ⊥
  unfolding in-thread
  never-both thread queue place is waits held held' =
      let point = in-point s queue place (point-is queue waits) (omega (arith, held'.0)) held'.1 in
      let same : point.0.offset ≡ thread = fits.alone place point.0 (in-thread s thread place (thread-is thread is) held.0 held.1) in
      let at : queue ≡ thread = sym point.1 ∙ same in
      absurd (let clash : true ≡ false = sym waits ∙ ap (λ (x : ℕ). has_waiting (kind_in o x)) at ∙ ap has_waiting is in cc)

  pub same-point : (one two place : ℕ) → has_waiting (kind_in o one) ≡ true → has_waiting (kind_in o two) ≡ true → IsPart one 0 16 place →
      IsPart two 0 16 place → one ≡ two
  same-point one two place is is' held held' =
      let first = in-point s one place (point-is one is) (omega (arith, held.0)) held.1 in
      let second = in-point s two place (point-is two is') (omega (arith, held'.0)) held'.1 in
      sym first.1 ∙ fits.alone place first.0 second.0 ∙ second.1

  -- ---- only links change

  module _ (old new : List ℕ) (same : SameBesideLinks o old new) where
    pub link-record : (thread : ℕ) → kind_in o thread ≡ Some NewThread → (place : ℕ) → IsPart thread 48 244 place →
        slice_index new place ≡ slice_index old place
    link-record thread is place held = same.bytes place
        (λ other is' held'.
        let at = same-thread thread other place is is' (omega (arith, held.0), omega (arith, held.1)) (omega (arith, held'.0), omega (arith, held'.1)) in
        absurd (omega (arith, held.1, held'.0, at)))
        (λ queue waits held'. never-both thread queue place is waits (omega (arith, held.0), omega (arith, held.1)) (held'.0, omega (arith, held'.1)))

    pub link-replier : (thread : ℕ) → kind_in o thread ≡ Some NewThread → (place : ℕ) → IsPart thread 268 272 place →
        slice_index new place ≡ slice_index old place
    link-replier thread is place held = same.bytes place
        (λ other is' held'.
        let at = same-thread thread other place is is' (omega (arith, held.0), omega (arith, held.1)) (omega (arith, held'.0), omega (arith, held'.1)) in
        absurd (omega (arith, held.0, held'.1, at)))
        (λ queue waits held'. never-both thread queue place is waits (omega (arith, held.0), omega (arith, held.1)) (held'.0, omega (arith, held'.1)))

    pub link-word : (queue : ℕ) → has_waiting (kind_in o queue) ≡ true → (place : ℕ) → IsPart queue 8 12 place → slice_index new place ≡ slice_index old place
    link-word queue waits place held = same.bytes place
        (λ thread is held'. never-both thread queue place is waits (omega (arith, held'.0), omega (arith, held'.1))
        (omega (arith, held.0), omega (arith, held.1)))
        (λ other waits' held'.
        let at = same-point queue other place waits waits' (omega (arith, held.0), omega (arith, held.1)) (held'.0, omega (arith, held'.1)) in
        absurd (omega (arith, held.0, held'.1, at)))

  -- ---- only contents change

  module _ (old new : List ℕ) (same : SameBesideContents o old new) where
    content-link : (thread : ℕ) → kind_in o thread ≡ Some NewThread → (place : ℕ) → IsPart thread 244 268 place → slice_index new place ≡ slice_index old place
    content-link thread is place held = same.bytes place
        (λ other is' held'.
        let at = same-thread thread other place is is' (omega (arith, held.0), omega (arith, held.1)) (omega (arith, held'.0), omega (arith, held'.1)) in
        absurd (omega (arith, held.0, held'.1, at)))
        (λ other is' held'.
        let at = same-thread thread other place is is' (omega (arith, held.0), omega (arith, held.1)) (omega (arith, held'.0), omega (arith, held'.1)) in
        absurd (omega (arith, held.1, held'.0, at)))
        (λ queue waits held'. never-both thread queue place is waits (omega (arith, held.0), omega (arith, held.1))
        (omega (arith, held'.0), omega (arith, held'.1)))

    content-head : (queue : ℕ) → has_waiting (kind_in o queue) ≡ true → (place : ℕ) → IsPart queue 0 8 place → slice_index new place ≡ slice_index old place
    content-head queue waits place held = same.bytes place
        (λ thread is held'. never-both thread queue place is waits (omega (arith, held'.0), omega (arith, held'.1)) (held.0, omega (arith, held.1)))
        (λ thread is held'. never-both thread queue place is waits (omega (arith, held'.0), omega (arith, held'.1)) (held.0, omega (arith, held.1)))
        (λ other waits' held'.
        let at = same-point queue other place waits waits' (held.0, omega (arith, held.1)) (omega (arith, held'.0), omega (arith, held'.1)) in
        absurd (omega (arith, held.1, held'.0, at)))

    pub contents-records : SameBesideRecords s old new
    contents-records = record {
      size = same.size;
      bytes = λ place apart. same.bytes place
          (λ thread is held. apart (in-thread s thread place (thread-is thread is) (omega (arith, held.0)) (omega (arith, held.1))))
          (λ thread is held. apart (in-thread s thread place (thread-is thread is) (omega (arith, held.0)) (omega (arith, held.1))))
          (λ queue waits held. apart (in-point s queue place (point-is queue waits) (omega (arith, held.0)) (omega (arith, held.1))).0);
    }

    -- so queues stay
    keep : (base : ℕ) → 244 ≤ base → base ≤ 256 → KeepThreads base (places_of o) (places_of o) old new
    keep base least most thread = inl (record {
      there = refl;
      bytes = λ is place held. content-link thread (is-thread (kind_in o thread) is) place (omega (arith, least, held.0), omega (arith, most, held.1));
    })

    keep-heads : KeepHeads (places_of o) (places_of o) old new
    keep-heads queue = inl (record {
      there = refl;
      bytes = λ head place is held.
          let at = if-head (has_waiting (kind_in o queue)) queue head is in
          content-head queue at.0 place (omega (arith, held.0, at.1), omega (arith, held.1, at.1));
    })

    pub waiting-stands : QueuesStand (places_of o) old → QueuesStand (places_of o) new
    waiting-stands = waiting_stays.stands (places_of o) (places_of o) old new same.size (keep 244 (omega arith) (omega arith)) keep-heads

    pub waiting-as : QueuesStand (places_of o) old → (queue : ℕ) → queue_of (places_of o) new queue ≡ queue_of (places_of o) old queue
    waiting-as = waiting_stays.queues (places_of o) (places_of o) old new same.size (keep 244 (omega arith) (omega arith)) keep-heads

    pub ready-stands : (ends : List Ends) → ReadyStands (places_of o) ends old → ReadyStands (places_of o) ends new
    ready-stands ends = ready_stays.stands (places_of o) (places_of o) ends old new same.size (keep 256 (omega arith) (omega arith))

    pub ready-as : (ends : List Ends) → ReadyStands (places_of o) ends old → (priority : ℕ) →
        ready_of (places_of o) ends new priority ≡ ready_of (places_of o) ends old priority
    ready-as ends = ready_stays.queues (places_of o) (places_of o) ends old new same.size (keep 256 (omega arith) (omega arith))

-- ---- where the bytes are the same, contents are

pub thread-from-same : (e : Entry) (t u : Thread) → (kind_of_entry e ≡ Some NewThread → t ≡ u) → thread_from e t ≡ thread_from e u
thread-from-same entries.Thread t u same = ap Some (same refl)
thread-from-same entries.Nothing t u same = refl
thread-from-same entries.Endpoint t u same = refl
thread-from-same entries.Notification t u same = refl
thread-from-same (entries.CNode radix) t u same = refl
thread-from-same entries.Frame t u same = refl
thread-from-same entries.PageTable t u same = refl
thread-from-same entries.RootTable t u same = refl

record-from-same : (e : Entry) (v w : ℕ) → (has_waiting (kind_of_entry e) ≡ true → v ≡ w) → record_from e v ≡ record_from e w
record-from-same entries.Notification v w same = ap (λ (word : ℕ). record_from entries.Notification word) (same refl)
record-from-same entries.Nothing v w same = refl
record-from-same entries.Thread v w same = refl
record-from-same entries.Endpoint v w same = refl
record-from-same (entries.CNode radix) v w same = refl
record-from-same entries.Frame v w same = refl
record-from-same entries.PageTable v w same = refl
record-from-same entries.RootTable v w same = refl

pub thread-same : (o : Tables) (old new : List ℕ) (other : ℕ)
    → (kind_in o other ≡ Some NewThread → (place : ℕ) → IsPart other 48 244 place → slice_index new place ≡ slice_index old place)
    → thread_in o new other ≡ thread_in o old other
thread-same o old new other same =
    thread-from-same (entry_in o.entries other) (thread_words.thread_at new other) (thread_words.thread_at old other)
    (λ is. record_stays old new other (λ place held. same is place held))

pub record-same : (o : Tables) (old new : List ℕ) (other : ℕ)
    → (has_waiting (kind_in o other) ≡ true → (place : ℕ) → IsPart other 8 12 place → slice_index new place ≡ slice_index old place)
    → (contents_of o new).records other ≡ (contents_of o old).records other
record-same o old new other same =
    record-from-same (entry_in o.entries other) (word_at new (other + 8)) (word_at old (other + 8))
    (λ is. word_at-same old new (other + 8) (λ k low high. same is k (low, omega (arith, high))))

pub same-contents : (o : Tables) (old new : List ℕ)
    → ((thread : ℕ) → kind_in o thread ≡ Some NewThread → (place : ℕ) → IsPart thread 48 244 place → slice_index new place ≡ slice_index old place)
    → ((queue : ℕ) → has_waiting (kind_in o queue) ≡ true → (place : ℕ) → IsPart queue 8 12 place → slice_index new place ≡ slice_index old place)
    → contents_of o new ≡ contents_of o old
same-contents o old new records words = λ i. record (contents_of o old) {
  threads = λ other. thread-same o old new other (records other) i;
  records = λ other. record-same o old new other (words other) i;
}

pub replier-same : (old new : List ℕ) (thread : ℕ) → ((place : ℕ) → IsPart thread 268 272 place → slice_index new place ≡ slice_index old place)
    → replier_at new thread ≡ replier_at old thread
replier-same old new thread same = ap one_of (word_at-same old new (thread + 268) (λ k low high. same k (low, omega (arith, high))))

-- ---- rights that are known

-- where no right comes, and who may reply is kept as it was
pub known-same : (o : Tables) (old new : List ℕ) → AreKnown (thread_in o old) old
    → ((caller holder : ℕ) → has_right (thread_in o new holder) caller ≡ true → has_right (thread_in o old holder) caller ≡ true)
    → ((thread : ℕ) → kind_in o thread ≡ Some NewThread → (place : ℕ) → IsPart thread 268 272 place → slice_index new place ≡ slice_index old place)
    → AreKnown (thread_in o new) new
known-same o old new known fewer same =
    let here : (caller holder : ℕ) → has_right (thread_in o new holder) caller ≡ true → entry_in o.entries caller ≡ entries.Thread =
    λ caller holder right. thread-some o old caller (known.there caller holder (fewer caller holder right)) in
    record {
      there = λ caller holder right. ap (λ (e : Entry). is_some (thread_from e (thread_words.thread_at new caller))) (here caller holder right);
      only = λ caller holder thread right stands. known.only caller holder thread (fewer caller holder right)
          (sym (replier-same old new caller (same caller (kind-there o caller (here caller holder right)))) ∙ stands);
    }
