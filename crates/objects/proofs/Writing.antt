-- What writes to records, to words and to who may reply leave of threads, words and rights.
use Rattle.std.proofs.Common.{ℕ, ◌≡◌, ◌≢◌, ◌∙◌, ◌==◌, ◌&&◌, ◌+◌, inl, inr, true, false, not, if◌then◌else◌, Option, Some, None, is_some, option_map, List}
use Rattle.std.proofs.Common.{length, refl, sym, ap, arith}
use Rattle.std.specs.Prelude.{slice_index}
use Rattle.std.specs.Option.{option_map_or}
use Rattle.std.proofs.lemmas.Bool.Decides.{eqb_tells}
use Rattle.model.specs.Capabilities.Slots.{Slots}
use Rattle.model.specs.Kernel.Retype.{NewNotification, NewThread}
use Rattle.model.specs.Kernel.State.{put}
use Rattle.model.specs.Shared.Bytes.{word_at}
use Rattle.objects.proofs.Holding.{entry-there, kind-there, thread-some}
use Rattle.objects.proofs.Kept.{put-here, put-there}
use Rattle.objects.proofs.Parts.{IsPart, never-both, record-same, replier-same, same-point, same-thread, thread-same}
use Rattle.objects.specs.Changes.{voided}
use Rattle.objects.specs.Contents.{Notification}
use Rattle.objects.specs.Frames.{FitsMemory}
use Rattle.objects.specs.Laid.{SameBesideThreads}
use Rattle.objects.specs.Rights.{AreKnown, SameBesideReplier, has_right, noted, replier_at}
use Rattle.objects.specs.Tables.{Tables, contents_of, entry_in, kind_in, record_from, state_of, thread_from, thread_in}
use Rattle.objects.specs.Waiting.{has_waiting}
use Rattle.objects.specs.declared.records.Entry.{Entry}
use Rattle.objects.specs.declared.records.Entry.TheVariants as entries
use Rattle.objects.specs.thread_records.Records as thread_words
use Rattle.objects.specs.thread_records.Records.{SameBesideRecord}
use Rattle.objects.specs.declared.thread_records.records.Thread.{Thread}

pub thread-here : (o : Tables) (memory : List ℕ) (thread : ℕ) → kind_in o thread ≡ Some NewThread →
    thread_in o memory thread ≡ Some (thread_words.thread_at memory thread)
thread-here o memory thread is = ap (λ (e : Entry). thread_from e (thread_words.thread_at memory thread)) (entry-there o thread is)

module _ (o : Tables) (slots : Slots) (memory : List ℕ) (fits : FitsMemory (state_of o slots memory) memory) (a b : List ℕ) where
  -- ---- the record of one thread

  module _ (thread : ℕ) (is : kind_in o thread ≡ Some NewThread) (same : SameBesideRecord thread a b) where
    pub record-replaces : (now : Thread) → thread_words.thread_at b thread ≡ now → (other : ℕ) →
        thread_in o b other ≡ put (thread_in o a) thread (Some now) other
    record-replaces now held other = elim (eqb_tells other thread) [
      | inl here ↦
          ap (thread_in o b) here.1 ∙ thread-here o b thread is ∙ ap Some held ∙ ap (λ x. if x then Some now else thread_in o a other) (sym here.0)
      | inr apart ↦
          thread-same o a b other (λ is' place part. same.bytes place (λ part'.
          apart.1 (same-thread o slots memory fits other thread place is' is (omega (arith, part.0), omega (arith, part.1))
          (omega (arith, part'.0), omega (arith, part'.1)))))
          ∙ sym (put-there (thread_in o a) thread (Some now) other apart.1)
    ]

  -- ---- the records of any threads

  module _ (same : SameBesideThreads o.entries a b) where
    pub threads-record : (other : ℕ) → (contents_of o b).records other ≡ (contents_of o a).records other
    threads-record other = record-same o a b other (λ waits place part. same.bytes place (λ thread is part'.
        never-both o slots memory fits thread other place (kind-there o thread is) waits (omega (arith, part'.0), omega (arith, part'.1))
        (omega (arith, part.0), omega (arith, part.1))))

    pub threads-replier : (thread : ℕ) → kind_in o thread ≡ Some NewThread → (place : ℕ) → IsPart thread 268 272 place →
        slice_index b place ≡ slice_index a place
    threads-replier thread is place part = same.bytes place (λ other is' part'.
        let at = same-thread o slots memory fits thread other place is (kind-there o other is') (omega (arith, part.0), omega (arith, part.1))
        (omega (arith, part'.0), omega (arith, part'.1)) in
        absurd (omega (arith, part.0, part'.1, at)))

  -- ---- who may reply

  module _ (caller : Option ℕ) (there : (named : ℕ) → caller ≡ Some named → kind_in o named ≡ Some NewThread) (same : SameBesideReplier caller a b) where
    pub replier-thread : (other : ℕ) → thread_in o b other ≡ thread_in o a other
    replier-thread other = thread-same o a b other (λ is place part. same.bytes place (λ named found from to.
        let at = same-thread o slots memory fits other named place is (there named found) (omega (arith, part.0), omega (arith, part.1))
        (omega (arith, from), omega (arith, to)) in
        absurd (omega (arith, part.1, from, at))))

    pub replier-record : (other : ℕ) → (contents_of o b).records other ≡ (contents_of o a).records other
    replier-record other = record-same o a b other (λ waits place part. same.bytes place (λ named found from to.
        never-both o slots memory fits named other place (there named found) waits (omega (arith, from), omega (arith, to))
        (omega (arith, part.0), omega (arith, part.1))))

    pub other-replier : (thread : ℕ) → kind_in o thread ≡ Some NewThread → (caller ≡ Some thread → ⊥) → replier_at b thread ≡ replier_at a thread
    other-replier thread is apart = replier-same a b thread (λ place part. same.bytes place (λ named found from to.
        let at = same-thread o slots memory fits thread named place is (there named found) (omega (arith, part.0), omega (arith, part.1))
        (omega (arith, from), omega (arith, to)) in
        absurd (apart (found ∙ ap Some (sym at)))))

  -- ---- the word of a notification

  module _ (notification word : ℕ) (is : kind_in o notification ≡ Some NewNotification) (size : length b ≡ length a)
      (same : (place : ℕ) → (IsPart notification 8 12 place → ⊥) → slice_index b place ≡ slice_index a place)
      (holds : word_at b (notification + 8) ≡ word) where
    waits : has_waiting (kind_in o notification) ≡ true
    waits = ap has_waiting is

    pub word-thread : (other : ℕ) → thread_in o b other ≡ thread_in o a other
    word-thread other = thread-same o a b other (λ is' place part. same place (λ part'.
        never-both o slots memory fits other notification place is' waits (omega (arith, part.0), omega (arith, part.1))
        (omega (arith, part'.0), omega (arith, part'.1))))

    pub word-replier : (thread : ℕ) → kind_in o thread ≡ Some NewThread → (place : ℕ) → IsPart thread 268 272 place → slice_index b place ≡ slice_index a place
    word-replier thread is' place part = same place (λ part'.
        never-both o slots memory fits thread notification place is' waits (omega (arith, part.0), omega (arith, part.1))
        (omega (arith, part'.0), omega (arith, part'.1)))

    pub word-replaces : entry_in o.entries notification ≡ entries.Notification → (other : ℕ)
        → (contents_of o b).records other ≡ put (contents_of o a).records notification (Some (Notification word)) other
    word-replaces entry other = elim (eqb_tells other notification) [
      | inl here ↦
          ap (contents_of o b).records here.1 ∙ ap (λ (e : Entry). record_from e (word_at b (notification + 8))) entry
          ∙ ap (λ (w : ℕ). Some (Notification w)) holds
          ∙ ap (λ x. if x then Some (Notification word) else (contents_of o a).records other) (sym here.0)
      | inr apart ↦
          record-same o a b other (λ waits' place part. same place (λ part'.
          apart.1 (same-point o slots memory fits other notification place waits' waits (omega (arith, part.0), omega (arith, part.1))
          (omega (arith, part'.0), omega (arith, part'.1)))))
          ∙ sym (put-there (contents_of o a).records notification (Some (Notification word)) other apart.1)
    ]

-- ---- rights

-- a right that is there names its caller
right-named : (caller : Option ℕ) (x : ℕ) → option_map_or (λ c. c == x) caller false ≡ true → caller ≡ Some x
right-named None x is = absurd (let clash : false ≡ true = is in cc)
right-named (Some c) x is = elim (eqb_tells c x) [
  | inl here ↦ ap Some here.1
  | inr apart ↦ absurd (let clash : false ≡ true = sym apart.0 ∙ is in cc)
]

named-right : (caller : Option ℕ) (x : ℕ) → option_map_or (λ c. c == x) caller false ≡ false → caller ≡ Some x → ⊥
named-right caller x none found = elim (eqb_tells x x) [
  | inl here ↦ absurd (let clash : true ≡ false = sym here.0 ∙ sym (ap (λ (o : Option ℕ). option_map_or (λ c. c == x) o false) found) ∙ none in cc)
  | inr apart ↦ absurd (apart.1 refl)
]

-- a thread with the same caller in the place of another has no other right
pub same-rights : (old new : ℕ → Option Thread) (thread : ℕ) (held now : Thread) → old thread ≡ Some held → held.caller ≡ now.caller
    → ((other : ℕ) → new other ≡ put old thread (Some now) other) → (caller holder : ℕ) → has_right (new holder) caller ≡ true →
    has_right (old holder) caller ≡ true
same-rights old new thread held now there alike replaced caller holder right = elim (eqb_tells holder thread) [
  | inl here ↦
      ap (λ (t : Option Thread). has_right t caller) (ap old here.1 ∙ there) ∙ ap (λ (c : Option ℕ). option_map_or (λ x. x == caller) c false) alike
      ∙ sym (ap (λ (t : Option Thread). has_right t caller) (replaced holder ∙ ap (λ b. if b then Some now else old holder) here.0)) ∙ right
  | inr apart ↦ sym (ap (λ (t : Option Thread). has_right t caller) (replaced holder ∙ put-there old thread (Some now) holder apart.1)) ∙ right
]

-- where a right was taken away, it is gone, and no other came
pub void-gone : (gone : ℕ) (t : Option Thread) → has_right (option_map (voided gone) t) gone ≡ false
void-gone gone None = refl
void-gone gone (Some t) =
    elim (option_map_or (λ c. c == gone) t.caller false) as (λ b. option_map_or (λ c. c == gone) t.caller false ≡ b
    → option_map_or (λ c. c == gone) (if b then None else t.caller) false ≡ false) [
      | true ↦ λ is. refl
      | false ↦ λ is. is
    ] refl

pub void-fewer : (gone caller : ℕ) (t : Option Thread) → has_right (option_map (voided gone) t) caller ≡ true → has_right t caller ≡ true
void-fewer gone caller None right = right
void-fewer gone caller (Some t) right =
    elim (option_map_or (λ c. c == gone) t.caller false) as (λ b. option_map_or (λ c. c == caller) (if b then None else t.caller) false ≡ true
    → option_map_or (λ c. c == caller) t.caller false ≡ true) [
      | true ↦ λ is. absurd (let clash : false ≡ true = is in cc)
      | false ↦ λ is. is
    ] right

-- a thread that has no such right keeps what it has
pub void-keeps : (gone : ℕ) (t : Option Thread) → has_right t gone ≡ false → option_map (voided gone) t ≡ t
void-keeps gone None none = refl
void-keeps gone (Some t) none = ap (λ b. Some (record t { caller = if b then None else t.caller })) none

-- the thread at an offset comes to have the right to reply to a caller
module _ (o : Tables) (old new : List ℕ) (known : AreKnown (thread_in o old) old) (thread : ℕ) (now : Thread) (caller : Option ℕ)
    (there : (named : ℕ) → caller ≡ Some named → kind_in o named ≡ Some NewThread) (own : now.caller ≡ caller)
    (replaced : (other : ℕ) → thread_in o new other ≡ put (thread_in o old) thread (Some now) other)
    (note : (named : ℕ) → caller ≡ Some named → replier_at new named ≡ noted (thread_in o old) thread named (replier_at old named))
    (beside : (other : ℕ) → kind_in o other ≡ Some NewThread → (caller ≡ Some other → ⊥) → replier_at new other ≡ replier_at old other) where
  mine : (holder : ℕ) → holder ≡ thread → (x : ℕ) → has_right (thread_in o new holder) x ≡ true → caller ≡ Some x
  mine holder at x right =
      right-named caller x
      (ap (λ (k : Option ℕ). option_map_or (λ c. c == x) k false) (sym own)
      ∙ sym (ap (λ (t : Option Thread). has_right t x) (ap (thread_in o new) at ∙ replaced thread ∙ put-here (thread_in o old) thread (Some now))) ∙ right)

  theirs : (holder : ℕ) → holder ≢ thread → (x : ℕ) → has_right (thread_in o new holder) x ≡ true → has_right (thread_in o old holder) x ≡ true
  theirs holder apart x right = sym (ap (λ (t : Option Thread). has_right t x) (replaced holder ∙ put-there (thread_in o old) thread (Some now) holder apart))
      ∙ right

  called : (x holder : ℕ) → has_right (thread_in o new holder) x ≡ true → kind_in o x ≡ Some NewThread
  called x holder right = elim (eqb_tells holder thread) [
    | inl here ↦ there x (mine holder here.1 x right)
    | inr apart ↦ kind-there o x (thread-some o old x (known.there x holder (theirs holder apart.1 x right)))
  ]

  -- the one that is kept, where one was kept before
  kept-one : (x holder k r : ℕ) → has_right (thread_in o new holder) x ≡ true → replier_at old x ≡ Some r → noted (thread_in o old) thread x (Some r) ≡ Some k →
      holder ≡ k
  kept-one x holder k r right before is =
      elim (not (r == thread) && has_right (thread_in o old r) x)
      as (λ b. (not (r == thread) && has_right (thread_in o old r) x) ≡ b → (if b then None else Some thread) ≡ Some k → holder ≡ k) [
        | true ↦ λ _ clash. absurd (let e : None ≡ Some k = clash in cc)
        | false ↦ λ free now.
            let this : thread ≡ k = let e : Some thread ≡ Some k = now in cc in
            elim (eqb_tells holder thread) [
              | inl here ↦ here.1 ∙ this
              | inr apart ↦
                  let right' = theirs holder apart.1 x right in
                  let at : holder ≡ r = known.only x holder r right' before in
                  elim (eqb_tells r thread) [
                    | inl same ↦ absurd (apart.1 (at ∙ same.1))
                    | inr differs ↦
                        let has : has_right (thread_in o old r) x ≡ true = ap (λ (n : ℕ). has_right (thread_in o old n) x) (sym at) ∙ right' in
                        absurd (let clash : true ≡ false = sym (ap (λ b. not b && has_right (thread_in o old r) x) differs.0 ∙ has) ∙ free in cc)
                  ]
            ]
      ] refl is

  pub known-noted : AreKnown (thread_in o new) new
  known-noted = record {
    there = λ x holder right. ap is_some (thread-here o new x (called x holder right));
    only = λ x holder k right stands.
        elim (option_map_or (λ c. c == x) caller false) as (λ b. option_map_or (λ c. c == x) caller false ≡ b → holder ≡ k) [
          | true ↦ λ is.
              let now = sym (note x (right-named caller x is)) ∙ stands in
              elim (replier_at old x) as (λ p. replier_at old x ≡ p → noted (thread_in o old) thread x p ≡ Some k → holder ≡ k) [
                | None ↦ λ _ clash. absurd (let e : None ≡ Some k = clash in cc)
                | Some r ↦ λ before named. kept-one x holder k r right before named
              ] refl now
          | false ↦ λ none.
              let off = named-right caller x none in
              elim (eqb_tells holder thread) [
                | inl here ↦ absurd (off (mine holder here.1 x right))
                | inr apart ↦ known.only x holder k (theirs holder apart.1 x right) (sym (beside x (called x holder right) off) ∙ stands)
              ]
        ] refl;
  }
