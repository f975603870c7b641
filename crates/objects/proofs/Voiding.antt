-- Rights to reply to a thread are taken away, in the threads that the bytes hold.
use Rattle.std.proofs.Common.{ℕ, ◌≡◌, ◌≢◌, ◌∙◌, ◌+◌, ◌*◌, ◌/◌, ◌<◌, ◌≤◌, inl, inr, true, false, if◌then◌else◌, Option, Some, None, is_some, option_map, List}
use Rattle.std.proofs.Common.{length, refl, sym, ap, subst, arith}
use Rattle.std.proofs.lemmas.Bool.{cases_lt}
use Rattle.std.proofs.lemmas.Bool.Decides.{eqb_tells}
use Rattle.model.specs.Capabilities.Slots.{Slots}
use Rattle.model.specs.Kernel.State.{put}
use Rattle.objects.proofs.Holding.{some-inside, thread-entry}
use Rattle.objects.proofs.Kept.{put-there}
use Rattle.objects.proofs.Parts.{thread-from-same}
use Rattle.objects.proofs.Writing.{void-keeps}
use Rattle.objects.specs.Changes.{voided}
use Rattle.objects.specs.Contents.{is_thread_kind}
use Rattle.objects.specs.Laid.{AreThreadsLaid, SameBesideThreads, threads_by}
use Rattle.objects.specs.Rights.{AreKnown, has_right, replier_at}
use Rattle.objects.specs.Tables.{entry_in, kind_of_entry, thread_from}
use Rattle.objects.specs.declared.records.Entry.{Entry}
use Rattle.objects.specs.declared.records.Entry.TheVariants as entries
use Rattle.objects.proofs.thread_records.Laws.{record_stays}
use Rattle.objects.specs.thread_records.Records as thread_words
use Rattle.objects.specs.thread_records.Records.{SameBesideRecord}
use Rattle.objects.specs.declared.thread_records.records.Thread.{Thread}

-- who has a right is a thread
right-entry : (e : Entry) (t : Thread) (gone : ℕ) → has_right (thread_from e t) gone ≡ true → e ≡ entries.Thread
right-entry entries.Thread t gone right = refl
right-entry entries.Nothing t gone right = absurd (let clash : false ≡ true = right in cc)
right-entry entries.Endpoint t gone right = absurd (let clash : false ≡ true = right in cc)
right-entry entries.Notification t gone right = absurd (let clash : false ≡ true = right in cc)
right-entry (entries.CNode radix) t gone right = absurd (let clash : false ≡ true = right in cc)
right-entry entries.Frame t gone right = absurd (let clash : false ≡ true = right in cc)
right-entry entries.PageTable t gone right = absurd (let clash : false ≡ true = right in cc)
right-entry entries.RootTable t gone right = absurd (let clash : false ≡ true = right in cc)

pub right-there : (table : List Entry) (memory : List ℕ) (holder gone : ℕ) → has_right (threads_by table memory holder) gone ≡ true →
    entry_in table holder ≡ entries.Thread
right-there table memory holder gone right = right-entry (entry_in table holder) (thread_words.thread_at memory holder) gone right

no-thread : (e : Entry) (t : Thread) → is_thread_kind (kind_of_entry e) ≡ false → thread_from e t ≡ None
no-thread entries.Thread t is = absurd (let clash : true ≡ false = is in cc)
no-thread entries.Nothing t is = refl
no-thread entries.Endpoint t is = refl
no-thread entries.Notification t is = refl
no-thread (entries.CNode radix) t is = refl
no-thread entries.Frame t is = refl
no-thread entries.PageTable t is = refl
no-thread entries.RootTable t is = refl

module _ (table : List Entry) (slots : Slots) (size : ℕ) (laid : AreThreadsLaid table slots size) (a b : List ℕ) where
  -- one record is written
  module _ (holder : ℕ) (is : entry_in table holder ≡ entries.Thread) (same : SameBesideRecord holder a b) where
    other-record : (other : ℕ) → entry_in table other ≡ entries.Thread → other ≢ holder → thread_words.thread_at b other ≡ thread_words.thread_at a other
    other-record other is' apart = record_stays a b other (λ place part. same.bytes place (λ part'.
        let mine = laid.aligned holder is in
        let its = laid.aligned other is' in
        elim (cases_lt other holder) [
          | inl less ↦ absurd (omega (arith, less, mine, its, part.1, part'.0))
          | inr least ↦ absurd (omega (arith, least, apart, mine, its, part.0, part'.1))
        ]))

    written-one : (now : Thread) → thread_words.thread_at b holder ≡ now → (other : ℕ) →
        threads_by table b other ≡ put (threads_by table a) holder (Some now) other
    written-one now holds other = elim (eqb_tells other holder) [
      | inl here ↦
          ap (threads_by table b) here.1 ∙ ap (λ (e : Entry). thread_from e (thread_words.thread_at b holder)) is ∙ ap Some holds
          ∙ sym (ap (λ x. if x then Some now else threads_by table a other) here.0)
      | inr apart ↦
          thread-from-same (entry_in table other) (thread_words.thread_at b other) (thread_words.thread_at a other)
          (λ kind. other-record other (thread-entry (entry_in table other) (ap is_thread_kind kind)) apart.1)
          ∙ sym (put-there (threads_by table a) holder (Some now) other apart.1)
    ]

    pub void-one : (gone : ℕ) → has_right (threads_by table a holder) gone ≡ true →
        thread_words.thread_at b holder ≡ record (thread_words.thread_at a holder) { caller = None }
        → (other : ℕ) → threads_by table b other ≡ put (threads_by table a) holder (option_map (voided gone) (threads_by table a holder)) other
    void-one gone right holds other =
        let t : Thread = thread_words.thread_at a holder in
        let here : threads_by table a holder ≡ Some t = ap (λ (e : Entry). thread_from e t) is in
        let has : has_right (Some t) gone ≡ true = sym (ap (λ (x : Option Thread). has_right x gone) here) ∙ right in
        let now : option_map (voided gone) (threads_by table a holder) ≡ Some (record t { caller = None }) =
        ap (option_map (voided gone)) here ∙ ap (λ x. Some (record t { caller = if x then None else t.caller })) has in
        written-one (record t { caller = None }) holds other ∙ ap (λ (x : Option Thread). put (threads_by table a) holder x other) (sym now)

-- the one thread that may have the right has lost it, so all have
pub one-voided : (table : List Entry) (old new : List ℕ) (gone holder : ℕ) → AreKnown (threads_by table old) old → replier_at old gone ≡ Some holder
    → ((other : ℕ) → threads_by table new other ≡ put (threads_by table old) holder (option_map (voided gone) (threads_by table old holder)) other)
    → (other : ℕ) → threads_by table new other ≡ option_map (voided gone) (threads_by table old other)
one-voided table old new gone holder known kept changed other = elim (eqb_tells other holder) [
  | inl here ↦
      changed other ∙ ap (λ b. if b then option_map (voided gone) (threads_by table old holder) else threads_by table old other) here.0
      ∙ ap (λ (n : ℕ). option_map (voided gone) (threads_by table old n)) (sym here.1)
  | inr apart ↦
      changed other ∙ put-there (threads_by table old) holder (option_map (voided gone) (threads_by table old holder)) other apart.1
      ∙ sym (elim (has_right (threads_by table old other) gone) as (λ b. has_right (threads_by table old other) gone ≡ b
      → option_map (voided gone) (threads_by table old other) ≡ threads_by table old other) [
        | true ↦ λ is. absurd (apart.1 (known.only gone other holder is kept))
        | false ↦ λ is. void-keeps gone (threads_by table old other) is
      ] refl)
]

-- ---- one place after another

-- the threads below a place have lost the right, the others are as they were, and only bytes of records changed
pub record VoidedSoFar (table : List Entry) (gone : ℕ) (before after : Slots) (old new : List ℕ) (number : ℕ) : Type 0 where
  pub passed : (other : ℕ) → entry_in table other ≡ entries.Thread → other < 512 * number →
      threads_by table new other ≡ option_map (voided gone) (threads_by table old other)
  pub rest : (other : ℕ) → entry_in table other ≡ entries.Thread → 512 * number ≤ other → threads_by table new other ≡ threads_by table old other
  pub bytes : SameBesideThreads table old new
  pub slots : after ≡ before

pub voided-first : (table : List Entry) (gone : ℕ) (slots : Slots) (memory : List ℕ) → VoidedSoFar table gone slots slots memory memory 0
voided-first table gone slots memory = record {
  passed = λ other is less. absurd (omega (arith, less));
  rest = λ other is least. refl;
  bytes = record { size = refl; bytes = λ place apart. refl };
  slots = refl;
}

module _ (table : List Entry) (gone : ℕ) (before mid after : Slots) (old half new : List ℕ) (number : ℕ) (laid : AreThreadsLaid table before (length old))
    (sofar : VoidedSoFar table gone before mid old half number) where
  pub laid-still : AreThreadsLaid table mid (length half)
  laid-still = subst (λ slots. AreThreadsLaid table slots (length half)) (sym sofar.slots) (subst (AreThreadsLaid table before) (sym sofar.bytes.size) laid)

  pub voided-next : ((other : ℕ) → threads_by table new other ≡ put (threads_by table half) (512 * number)
      (option_map (voided gone) (threads_by table half (512 * number))) other)
      → SameBesideThreads table half new → after ≡ mid → VoidedSoFar table gone before after old new (number + 1)
  voided-next changed bytes same = record {
    passed = λ other is less. elim (eqb_tells other (512 * number)) [
      | inl here ↦
          changed other ∙ ap (λ b. if b then option_map (voided gone) (threads_by table half (512 * number)) else threads_by table half other) here.0
          ∙ ap (λ (n : ℕ). option_map (voided gone) (threads_by table half n)) (sym here.1)
          ∙ ap (option_map (voided gone)) (sofar.rest other is (omega (arith, here.1)))
      | inr apart ↦
          let multiple = laid.aligned other is in
          changed other ∙ put-there (threads_by table half) (512 * number) (option_map (voided gone) (threads_by table half (512 * number))) other apart.1
          ∙ sofar.passed other is (omega (arith, multiple, less, apart.1))
    ];
    rest = λ other is least.
        changed other
        ∙ put-there (threads_by table half) (512 * number) (option_map (voided gone) (threads_by table half (512 * number))) other
        (λ same. absurd (omega (arith, same, least)))
        ∙ sofar.rest other is (omega (arith, least));
    bytes = record { size = bytes.size ∙ sofar.bytes.size; bytes = λ place apart. bytes.bytes place apart ∙ sofar.bytes.bytes place apart };
    slots = same ∙ sofar.slots;
  }

pub voided-all : (table : List Entry) (gone : ℕ) (before after : Slots) (old new : List ℕ) (number count : ℕ) → AreThreadsLaid table before (length old) →
    count ≡ length table / 32 → count ≤ number
    → VoidedSoFar table gone before after old new number → (other : ℕ) → threads_by table new other ≡ option_map (voided gone) (threads_by table old other)
voided-all table gone before after old new number count laid is most sofar other =
    elim (is_thread_kind (kind_of_entry (entry_in table other))) as (λ b. is_thread_kind (kind_of_entry (entry_in table other)) ≡ b
    → threads_by table new other ≡ option_map (voided gone) (threads_by table old other)) [
      | true ↦ λ kind.
          let there = thread-entry (entry_in table other) kind in
          let multiple = laid.aligned other there in
          let inside = some-inside table other (ap (λ (e : Entry). is_some (kind_of_entry e)) there) in
          sofar.passed other there (omega (arith, multiple, inside.1, is, most, laid.whole))
      | false ↦ λ none.
          no-thread (entry_in table other) (thread_words.thread_at new other) none
          ∙ sym (ap (option_map (voided gone)) (no-thread (entry_in table other) (thread_words.thread_at old other) none))
    ] refl
