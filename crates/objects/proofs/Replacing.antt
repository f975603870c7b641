-- A thread is replaced by one that sends the same.
use Rattle.std.proofs.Common.{ℕ, ◌≡◌, ◌∙◌, ◌==◌, inl, inr, Bool, true, false, if◌then◌else◌, Option, Some, None, is_some, option_map, List, [], refl, sym, ap}
use Rattle.std.specs.Prelude.{option_and_then}
use Rattle.std.specs.Option.{option_map_or}
use Rattle.std.proofs.lemmas.Bool.Decides.{eqb_tells}
use Rattle.model.specs.Capabilities.Slots.{Slots}
use Rattle.model.specs.Kernel.Kinds.{kind_at, kind_of}
use Rattle.model.specs.Kernel.Retype.{NewThread}
use Rattle.model.specs.Kernel.Scheduling.{at_tail, is_runnable, to_tail, unready}
use Rattle.model.specs.Kernel.State.{EndpointObject, Object, State, ThreadObject, ThreadState, new_thread, put, thread_at, with_thread}
use Rattle.model.specs.Kernel.ThreadCalls.{with_priority}
use Rattle.objects.proofs.Ends.{as-thread}
use Rattle.objects.proofs.Kept.{put-here, put-there}
use Rattle.objects.proofs.Lists.{receivers-by, senders-by}
use Rattle.objects.specs.Contents.{Contents, kind_in, object_from, object_in, object_of, ready_at, sending_in, contents_state, told_by, waiting_of}
use Rattle.objects.specs.thread_records.Threads.{thread_state}
use Rattle.objects.specs.Contents.{Record}
use Rattle.objects.specs.Contents.{Endpoint, Notification, CNode, Frame, PageTable, RootTable}
use Rattle.objects.specs.declared.thread_records.records.Thread.{Thread}
use Rattle.objects.proofs.Told.{state_with}

-- ---- threads that are there

-- the state's thread at an offset
pub thread-state : (o : Contents) (offset : ℕ) (slots : Slots) (memory : List ℕ)
    → thread_at (contents_state o slots memory) offset ≡ option_map_or (λ t. t) (option_map thread_state (o.threads offset)) new_thread
unfolding told_by
thread-state o offset slots memory = ap (λ t. option_map_or (λ t. t) t new_thread) (as-thread o (waiting_of o memory) offset)

pub thread-is : (o : Contents) (offset : ℕ) (t : Thread) (slots : Slots) (memory : List ℕ) → o.threads offset ≡ Some t
    → thread_at (contents_state o slots memory) offset ≡ thread_state t
thread-is o offset t slots memory is =
    thread-state o offset slots memory ∙ ap (λ found. option_map_or (λ t. t) (option_map thread_state found) new_thread) is

pub thread-kind : (o : Contents) (offset : ℕ) (t : Thread) (slots : Slots) (memory : List ℕ) → o.threads offset ≡ Some t
    → kind_at (contents_state o slots memory) offset ≡ Some NewThread
unfolding told_by
thread-kind o offset t slots memory is =
    ap (λ found. option_map kind_of (object_from found (option_map (object_of o.threads (waiting_of o memory offset)) (o.records offset)))) is

no-thread-kind : (threads : ℕ → Option Thread) (waiting : List ℕ) (r : Option Record) →
    option_map kind_of (option_map (object_of threads waiting) r) ≡ Some NewThread → false ≡ true
no-thread-kind threads waiting None is = cc
no-thread-kind threads waiting (Some Endpoint) is = cc
no-thread-kind threads waiting (Some (Notification word)) is = cc
no-thread-kind threads waiting (Some (CNode radix)) is = cc
no-thread-kind threads waiting (Some Frame) is = cc
no-thread-kind threads waiting (Some PageTable) is = cc
no-thread-kind threads waiting (Some RootTable) is = cc

pub thread-there : (o : Contents) (offset : ℕ) → kind_in o offset ≡ Some NewThread → is_some (o.threads offset) ≡ true
thread-there o offset =
    elim (o.threads offset) as (λ t. option_map kind_of (object_from t (option_map (object_of o.threads []) (o.records offset))) ≡ Some NewThread
    → is_some t ≡ true) [
      | Some t ↦ λ is. refl
      | None ↦ λ is. no-thread-kind o.threads [] (o.records offset) is
    ]

-- ---- the state with another thread

some-kind : (t : Option Thread) (p : Option Object) → is_some t ≡ true → option_map kind_of (object_from t p) ≡ Some NewThread
some-kind (Some t) p there = refl
some-kind None p there = absurd (let clash : false ≡ true = there in cc)

module _ (o : Contents) (threads : ℕ → Option Thread) (thread : ℕ) (after : Thread)
    (replaced : (other : ℕ) → threads other ≡ put (o.threads) thread (Some after) other)
    (alike : sending_in o.threads thread ≡ after.sending) where
  abbrev now : Contents
  now = record o { threads = threads }

  sends : (other : ℕ) → sending_in threads other ≡ sending_in o.threads other
  sends other = elim (eqb_tells other thread) [
    | inl here ↦
        ap (option_and_then (λ t. t.sending)) (replaced other ∙ ap (λ b. if b then Some after else o.threads other) here.0)
        ∙ sym alike ∙ ap (sending_in o.threads) (sym here.1)
    | inr apart ↦ ap (option_and_then (λ t. t.sending)) (replaced other ∙ put-there (o.threads) thread (Some after) other apart.1)
  ]

  record-still : (waiting : List ℕ) (r : Record) → object_of threads waiting r ≡ object_of o.threads waiting r
  record-still waiting Endpoint = λ i. EndpointObject (record {
    senders = senders-by (λ other. sends other i) waiting;
    receivers = receivers-by (λ other. sends other i) waiting;
  })
  record-still waiting (Notification word) = refl
  record-still waiting (CNode radix) = refl
  record-still waiting Frame = refl
  record-still waiting PageTable = refl
  record-still waiting RootTable = refl

  other-still : (waiting : List ℕ) (r : Option Record) → option_map (object_of threads waiting) r ≡ option_map (object_of o.threads waiting) r
  other-still waiting (Some r) = ap Some (record-still waiting r)
  other-still waiting None = refl

  from-put : (b : Bool) (t : Option Thread) (p : Option Object)
      → object_from (if b then Some after else t) p ≡ (if b then Some (ThreadObject (thread_state after)) else object_from t p)
  from-put true t p = refl
  from-put false t p = refl

  object-replaced : (waiting : ℕ → List ℕ) (other : ℕ) → object_in now waiting other ≡ put (object_in o waiting) thread
      (Some (ThreadObject (thread_state after))) other
  object-replaced waiting other =
      ap (λ t. object_from t (option_map (object_of threads (waiting other)) (o.records other))) (replaced other)
      ∙ from-put (other == thread) (o.threads other) _
      ∙ ap (λ p. if other == thread then Some (ThreadObject (thread_state after)) else object_from (o.threads other) p)
      (other-still (waiting other) (o.records other))

  pub replaced-with : (waiting ready : ℕ → List ℕ) (slots : Slots) (memory : List ℕ) →
      state_with now waiting ready slots memory ≡ with_thread (state_with o waiting ready slots memory) thread (thread_state after)
  replaced-with waiting ready slots memory = λ i. record (state_with o waiting ready slots memory) { objects = λ other. object-replaced waiting other i }

-- ---- the ready list

-- the ready list is the table's
pub ready-is : (o : Contents) (slots : Slots) (memory : List ℕ) → (contents_state o slots memory).ready ≡ ready_at o memory
unfolding told_by
ready-is o slots memory = refl

-- ---- priorities

pub replaced-there : (s n : State) (offset : ℕ) (t : ThreadState) → n ≡ with_thread s offset t → kind_at n offset ≡ Some NewThread
replaced-there s n offset t is = ap (λ (s : State). kind_at s offset) is ∙ ap (option_map kind_of) (put-here s.objects offset (Some (ThreadObject t)))

-- a thread that runs goes to the tail of its new priority
module _ (s : State) (thread priority : ℕ) (runs : Bool) (told : runs ≡ is_runnable (thread_at s thread).status) where
  abbrev after : ThreadState
  after = record (thread_at s thread) { priority = priority }

  abbrev prioritized : Bool → State
  prioritized b = if b then at_tail (with_thread (unready s thread) thread after) thread else with_thread s thread after

  pub tail-priority : runs ≡ true → to_tail (with_thread s thread after) thread ≡ with_priority s thread priority
  tail-priority is = sym (ap prioritized (sym told ∙ is))

  pub keep-priority : runs ≡ false → with_thread s thread after ≡ with_priority s thread priority
  keep-priority is = sym (ap prioritized (sym told ∙ is))
