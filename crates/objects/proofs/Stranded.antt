-- Threads that wait at objects that are gone run again, one place after another.
use Rattle.std.proofs.Common.{ℕ, zero, suc, ◌≡◌, ◌≢◌, ◌∙◌, ◌+◌, ◌*◌, ◌-◌, ◌/◌, ◌%◌, ◌^◌, ◌<◌, ◌≤◌, inl, inr, Bool, true, false, not, if◌then◌else◌, Option}
use Rattle.std.proofs.Common.{Some, None, is_some, option_map, List, ◌∷◌, filter, fold, map, refl, sym, ap, arith}
use Rattle.std.specs.Option.{option_map_or}
use Rattle.std.specs.List.{range_with_len}
use Rattle.std.proofs.lemmas.Bool.Decides.{eqb_tells}
use Rattle.model.specs.Capabilities.Slots.{Slots}
use Rattle.model.specs.Kernel.Scheduling.{full_slice, wake}
use Rattle.model.specs.Kernel.State.{Object, State, Status, Inactive, Runnable, Blocked, AwaitsReply, AwaitsHandler, ThreadObject, ThreadState, as_thread, put}
use Rattle.model.specs.Kernel.State.{slot_numbers, thread_at}
use Rattle.objects.proofs.Begun.{woken-one}
use Rattle.objects.proofs.Ends.{as-thread, none-there}
use Rattle.objects.proofs.Frames.{Unmoved, moved-to, records-then, same-records, same-state}
use Rattle.objects.proofs.Kept.{put-there}
use Rattle.objects.specs.Frames.{SameBesideRecords}
use Rattle.objects.proofs.Holding.{thread-some}
use Rattle.objects.specs.Standing.{Standing}
use Rattle.objects.specs.Tables.{Tables, contents_of, state_of, thread_in}
use Rattle.objects.specs.Contents.{Contents, contents_state, told_by, waiting_of}
use Rattle.objects.specs.thread_records.Threads.{status_of, thread_state}
use Rattle.objects.specs.declared.thread_records.records.Thread.{Thread}
use Rattle.removal_laws.specs.Finishing.{is_stranded, waits_nowhere, woken}

-- ---- who is stranded

pub stranded-at : (o : Contents) (offset : ℕ) (t : Thread) (slots : Slots) (memory : List ℕ) → o.threads offset ≡ Some t
    → is_stranded (contents_state o slots memory) offset ≡ waits_nowhere (contents_state o slots memory) (status_of t.status)
unfolding told_by
stranded-at o offset t slots memory there =
    ap (λ p. option_map_or (λ x. waits_nowhere (contents_state o slots memory) x.status) p false)
    (as-thread o (waiting_of o memory) offset ∙ ap (option_map thread_state) there)

pub stranded-nobody : (o : Contents) (offset : ℕ) (slots : Slots) (memory : List ℕ) → o.threads offset ≡ None
    → is_stranded (contents_state o slots memory) offset ≡ false
unfolding told_by
stranded-nobody o offset slots memory none =
    ap (λ p. option_map_or (λ x. waits_nowhere (contents_state o slots memory) x.status) p false)
    (as-thread o (waiting_of o memory) offset ∙ ap (option_map thread_state) none)

-- ---- one that is woken leaves the others so

some-object : (o : Option Object) (test : ThreadState → Bool) → option_map_or test (as_thread o) false ≡ true → is_some o ≡ true
some-object None test is = absurd (let clash : false ≡ true = is in cc)
some-object (Some o) test is = refl

some-put : (objects : ℕ → Option Object) (place : ℕ) (value : Object) (other : ℕ) → is_some (objects place) ≡ true
    → is_some (put objects place (Some value) other) ≡ is_some (objects other)
some-put objects place value other there = elim (eqb_tells other place) [
  | inl here ↦ ap (λ b. is_some (if b then Some value else objects other)) here.0 ∙ sym (ap (λ (n : ℕ). is_some (objects n)) here.1 ∙ there)
  | inr apart ↦ ap is_some (put-there objects place (Some value) other apart.1)
]

module _ (s : State) (runs : ℕ) (stranded : is_stranded s runs ≡ true) where
  still-there : (queue : ℕ) → is_some ((wake s runs).objects queue) ≡ is_some (s.objects queue)
  still-there queue =
      some-put s.objects runs (ThreadObject (record (thread_at s runs) { status = Runnable; slice = full_slice })) queue
      (some-object (s.objects runs) (λ t. waits_nowhere s t.status) stranded)

  still-nowhere : (status : Status) → waits_nowhere (wake s runs) status ≡ waits_nowhere s status
  still-nowhere (Blocked queue) = ap not (still-there queue)
  still-nowhere Inactive = refl
  still-nowhere Runnable = refl
  still-nowhere AwaitsReply = refl
  still-nowhere AwaitsHandler = refl

  pub still-stranded : (other : ℕ) → other ≢ runs → is_stranded (wake s runs) other ≡ is_stranded s other
  still-stranded other apart =
      ap (λ o. option_map_or (λ t. waits_nowhere (wake s runs) t.status) (as_thread o) false) (put-there s.objects runs _ other apart)
      ∙ (λ i. option_map_or (λ (t : ThreadState). still-nowhere t.status i) (as_thread (s.objects other)) false)

-- ---- place after place

-- so many places, from one on
abbrev pub places : ℕ → ℕ → List ℕ
places first count = map (λ (n : ℕ). 16 * n) (range_with_len first count)

abbrev pub swept : State → ℕ → ℕ → State
swept s first count = fold wake s (filter (is_stranded s) (places first count))

same-stranded : (s t : State) (below : ℕ) → ((x : ℕ) → below < x → is_stranded t x ≡ is_stranded s x) → (first count : ℕ) → below < 16 * first
    → filter (is_stranded s) (places first count) ≡ filter (is_stranded t) (places first count)
same-stranded s t below same first zero less = refl
same-stranded s t below same first (suc count) less =
    ap (λ b. if b then 16 * first ∷ filter (is_stranded s) (places (first + 1) count) else filter (is_stranded s) (places (first + 1) count))
    (sym (same (16 * first) less))
    ∙ ap (λ l. if is_stranded t (16 * first) then 16 * first ∷ l else l) (same-stranded s t below same (first + 1) count (omega (arith, less)))

abbrev pub woken-if : State → ℕ → State
woken-if s place = if is_stranded s place then wake s place else s

pub sweep-step : (s : State) (first count : ℕ) → swept s first (suc count) ≡ swept (woken-if s (16 * first)) (first + 1) count
sweep-step s first count =
    elim (is_stranded s (16 * first)) as (λ b. is_stranded s (16 * first) ≡ b
    → fold wake s (if b then 16 * first ∷ filter (is_stranded s) (places (first + 1) count) else filter (is_stranded s) (places (first + 1) count))
    ≡ swept (if b then wake s (16 * first) else s) (first + 1) count) [
      | true ↦ λ is.
          ap (fold wake (wake s (16 * first))) (same-stranded s (wake s (16 * first)) (16 * first)
          (λ x more. still-stranded s (16 * first) is x (λ same. absurd (omega (arith, same, more)))) (first + 1) count (omega arith))
      | false ↦ λ is. refl
    ] refl

-- places at which nobody is stranded need no step
skip : (t : State) (count first rest : ℕ) → ((place : ℕ) → first < place → place ≤ first + count → is_stranded t (16 * place) ≡ false)
    → swept t (first + 1) (count + rest) ≡ swept t (first + 1 + count) rest
skip t zero first rest none = λ i. swept t (let e : first + 1 ≡ first + 1 + 0 = omega arith in e i) (let e : 0 + rest ≡ rest = omega arith in e i)
skip t (suc count) first rest none =
    let here : is_stranded t (16 * (first + 1)) ≡ false = none (first + 1) (omega arith) (omega arith) in
    let more : suc count + rest ≡ suc (count + rest) = omega arith in
    ap (λ (n : ℕ). swept t (first + 1) n) more ∙ sweep-step t (first + 1) (count + rest)
    ∙ ap (λ b. swept (if b then wake t (16 * (first + 1)) else t) (first + 1 + 1) (count + rest)) here
    ∙ skip t count (first + 1) rest (λ place less most. none place (omega (arith, less)) (omega (arith, most)))
    ∙ ap (λ (n : ℕ). swept t n rest) (let e : first + 1 + 1 + count ≡ first + 1 + suc count = omega arith in e)

-- all places are those of all threads
pub swept-all : (o : Tables) (slots : Slots) (memory : List ℕ) (count : ℕ) → 512 * count ≡ 2 ^ o.bits
    → swept (state_of o slots memory) (32 * 0) (32 * count - 32 * 0) ≡ woken (state_of o slots memory)
unfolding state_of told_by slot_numbers
swept-all o slots memory count is =
    let all : 32 * count - 32 * 0 ≡ 2 ^ o.bits / 16 = omega (arith, is) in
    ap (λ (n : ℕ). swept (state_of o slots memory) n (32 * count - 32 * 0)) (let e : 32 * 0 ≡ 0 = omega arith in e)
    ∙ ap (λ (n : ℕ). swept (state_of o slots memory) 0 n) all

sweep-on : (s t : State) (first count : ℕ) → first < count → t ≡ woken-if s (16 * first) →
    swept t (first + 1) (count - (first + 1)) ≡ swept s first (count - first)
sweep-on s t first count less is =
    let left : suc (count - (first + 1)) ≡ count - first = omega (arith, less) in
    ap (λ (x : State). swept x (first + 1) (count - (first + 1))) is ∙ sym (sweep-step s first (count - (first + 1))) ∙ ap (λ (n : ℕ). swept s first n) left

-- where nobody is stranded but at the places of threads, one thread is one step
pub sweep-thread : (s t : State) (number count : ℕ) → number < count → t ≡ woken-if s (512 * number)
    → ((place : ℕ) → place % 512 ≢ 0 → is_stranded t place ≡ false)
    → swept t (32 * (number + 1)) (32 * count - 32 * (number + 1)) ≡ swept s (32 * number) (32 * count - 32 * number)
sweep-thread s t number count less is none =
    let rest = 32 * count - 32 * (number + 1) in
    let behind : 32 * (number + 1) ≡ 32 * number + 1 + 31 = omega arith in
    let left : 31 + rest ≡ 32 * count - (32 * number + 1) = omega (arith, less) in
    let at : 512 * number ≡ 16 * (32 * number) = omega arith in
    ap (λ (n : ℕ). swept t n rest) behind
    ∙ sym (skip t 31 (32 * number) rest (λ place more most. none (16 * place) (λ whole. absurd (omega (arith, whole, more, most)))))
    ∙ ap (λ (n : ℕ). swept t (32 * number + 1) n) left
    ∙ sweep-on s t (32 * number) (32 * count) (omega (arith, less)) (is ∙ ap (woken-if s) at)

-- who is stranded is a thread, and lies at a multiple of its size
pub stranded-apart : (o : Tables) (slots : Slots) (memory : List ℕ) → Standing o slots memory → (place : ℕ) → place % 512 ≢ 0 →
    is_stranded (state_of o slots memory) place ≡ false
unfolding state_of
stranded-apart o slots memory stands place apart =
    stranded-nobody (contents_of o memory) place slots memory
    (elim (is_some (thread_in o memory place)) as (λ b. is_some (thread_in o memory place) ≡ b → thread_in o memory place ≡ None) [
      | true ↦ λ some. absurd (apart (stands.placed.aligned place (thread-some o memory place some)))
      | false ↦ λ none. none-there (thread_in o memory place) none
    ] refl)

-- ---- the loop over all places

-- what is left to be swept leaves what sweeping all would; the objects are the same, and only bytes of records changed
pub record SweptSoFar (o n : Tables) (before after : Slots) (old new : List ℕ) (number count : ℕ) : Type 0 where
  pub left : swept (state_of n after new) (32 * number) (32 * count - 32 * number) ≡ woken (state_of o before old)
  pub unmoved : Unmoved (state_of o before old) (state_of n after new)
  pub bytes : SameBesideRecords (state_of o before old) old new
  pub slots : after ≡ before
  pub stands : Standing n after new

pub swept-first : (o : Tables) (slots : Slots) (memory : List ℕ) (count : ℕ) → 512 * count ≡ 2 ^ o.bits → Standing o slots memory →
    SweptSoFar o o slots slots memory memory 0 count
swept-first o slots memory count is stands = record {
  left = swept-all o slots memory count is;
  unmoved = same-state (state_of o slots memory);
  bytes = same-records (state_of o slots memory) memory;
  slots = refl;
  stands = stands;
}

pub swept-next : (o m n : Tables) (before mid after : Slots) (old half new : List ℕ) (number count : ℕ) → SweptSoFar o m before mid old half number count →
    number < count
    → state_of n after new ≡ woken-if (state_of m mid half) (512 * number) → SameBesideRecords (state_of m mid half) half new → after ≡ mid →
    Standing n after new
    → SweptSoFar o n before after old new (number + 1) count
swept-next o m n before mid after old half new number count sofar less is bytes same stands =
    let step = moved-to (state_of m mid half) (state_of n after new) _ is (woken-one (state_of m mid half) (512 * number)) in
    record {
      left = sweep-thread (state_of m mid half) (state_of n after new) number count less is (stranded-apart n after new stands) ∙ sofar.left;
      unmoved = record {
        kinds = λ offset. step.kinds offset ∙ sofar.unmoved.kinds offset;
        bytes = step.bytes ∙ sofar.unmoved.bytes;
        slots = step.slots ∙ sofar.unmoved.slots;
        bits = step.bits ∙ sofar.unmoved.bits;
      };
      bytes = records-then (state_of o before old) (state_of m mid half) old half new (λ offset k k_is. sym (sofar.unmoved.kinds offset) ∙ k_is) sofar.bytes
          bytes;
      slots = same ∙ sofar.slots;
      stands = stands;
    }
