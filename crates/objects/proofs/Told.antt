-- What is where, as queues ask, and who is in queues.
use Rattle.std.proofs.Common.{ℕ, ◌≡◌, ◌∙◌, ◌+◌, ◌/◌, ◌%◌, ◌^◌, ◌<◌, ◌≤◌, ◌⊎◌, inl, inr, Bool, true, false, if◌then◌else◌, Option, Some, None, IsSome, is_some}
use Rattle.std.proofs.Common.{option_map, List, [], length, refl, sym, ap, subst, arith}
use Rattle.std.specs.Prelude.{slice_index}
use Rattle.std.proofs.lemmas.Bool.{cases_lt}
use Rattle.std.proofs.Math.Pow.{pow_mono}
use Rattle.model.specs.Capabilities.Slots.{IsOpen, Slots}
use Rattle.model.specs.Kernel.Kinds.{kind_at, kind_of}
use Rattle.model.specs.Kernel.Retype.{NewObject, NewUntyped, NewThread, NewEndpoint, NewNotification, NewCNode, NewFrame, NewPageTable, NewRootTable}
use Rattle.model.specs.Kernel.State.{State, with_slots}
use Rattle.model.specs.Shared.Lists.{times_in}
use Rattle.model.specs.declared.slot_entries.Entry.{Entry}
use Rattle.queues.specs.Laws.{KeepHeads, KeepThreads}
use Rattle.queues.specs.Layout.{AreLaidOut, IsHeadAt, IsThreadAt, Places}
use Rattle.queues.specs.Queues.{QueuesStand, queue_of}
use Rattle.queues.specs.Ready.{ReadyStands, ready_of}
use Rattle.queues.proofs.Laws.{kinds_apart, ready_stays, waiting_stays}
use Rattle.objects.specs.Frames.{FitsMemory, IsInRecord}
use Rattle.objects.proofs.Linked.{AreContents, Linked}
use Rattle.objects.specs.Contents.{Contents, is_thread_kind, kind_in, object_from, object_of, places_by, places_of, ready_at, contents_state, told_by}
use Rattle.objects.specs.Contents.{told_with, waiting_of}
use Rattle.objects.specs.Waiting.{has_waiting}
use Rattle.objects.specs.Contents.{Record}
use Rattle.objects.specs.Contents.{Endpoint, Notification, CNode, Frame, PageTable, RootTable}
use Rattle.objects.specs.declared.thread_records.records.Thread.{Thread}

-- the state of tables, if these wait and are ready
abbrev pub state_with : Contents → (ℕ → List ℕ) → (ℕ → List ℕ) → Slots → List ℕ → State
state_with o waiting ready slots memory = with_slots (told_with o waiting ready memory) slots

pub told : (o : Contents) (slots : Slots) (memory : List ℕ) →
    contents_state o slots memory ≡ state_with o (waiting_of o memory) (ready_at o memory) slots memory
unfolding told_by
told o slots memory = refl

-- who is in a queue is a thread that is there, and waits where threads may
abbrev pub AreThere : State → (ℕ → List ℕ) → Type 0
AreThere s queues = (queue thread : ℕ) → 0 < times_in (queues queue) thread → kind_at s thread ≡ Some NewThread

abbrev pub WaitAtObjects : State → (ℕ → List ℕ) → Type 0
WaitAtObjects s queues = (queue thread : ℕ) → 0 < times_in (queues queue) thread → has_waiting (kind_at s queue) ≡ true

-- ---- kinds, whoever waits

pub kind-from : (threads : ℕ → Option Thread) (waiting : List ℕ) (t : Option Thread) (r : Option Record)
    → option_map kind_of (object_from t (option_map (object_of threads waiting) r)) ≡ option_map kind_of (object_from t (option_map (object_of threads []) r))
kind-from threads waiting (Some t) r = refl
kind-from threads waiting None None = refl
kind-from threads waiting None (Some Endpoint) = refl
kind-from threads waiting None (Some (Notification word)) = refl
kind-from threads waiting None (Some (CNode radix)) = refl
kind-from threads waiting None (Some Frame) = refl
kind-from threads waiting None (Some PageTable) = refl
kind-from threads waiting None (Some RootTable) = refl

pub kind-with : (o : Contents) (waiting ready : ℕ → List ℕ) (slots : Slots) (memory : List ℕ) (offset : ℕ) →
    kind_at (state_with o waiting ready slots memory) offset ≡ kind_in o offset
kind-with o waiting ready slots memory offset = kind-from o.threads (waiting offset) (o.threads offset) (o.records offset)

pub kind-state : (o : Contents) (offset : ℕ) (slots : Slots) (memory : List ℕ) → kind_at (contents_state o slots memory) offset ≡ kind_in o offset
unfolding told_by
kind-state o offset slots memory = kind-from o.threads (waiting_of o memory offset) (o.threads offset) (o.records offset)

pub same-places : (o n : Contents) → ((offset : ℕ) → kind_in n offset ≡ kind_in o offset) → places_of n ≡ places_of o
same-places o n same = λ i. places_by (λ offset. same offset i)

-- tables of the same kinds have the same queues
pub told-same : (o n : Contents) → ((offset : ℕ) → kind_in n offset ≡ kind_in o offset) → (slots : Slots) (memory : List ℕ)
    → contents_state n slots memory ≡ state_with n (waiting_of o memory) (ready_of (places_of o) n.ready memory) slots memory
unfolding told_by
told-same o n same slots memory = λ i. state_with n (queue_of (same-places o n same i) memory) (ready_of (same-places o n same i) n.ready memory) slots memory

-- ---- threads and what they wait at

pub is-thread : (k : Option NewObject) → is_thread_kind k ≡ true → k ≡ Some NewThread
is-thread (Some NewThread) is = refl
is-thread None is = absurd (let clash : false ≡ true = is in cc)
is-thread (Some NewEndpoint) is = absurd (let clash : false ≡ true = is in cc)
is-thread (Some NewNotification) is = absurd (let clash : false ≡ true = is in cc)
is-thread (Some (NewUntyped bits)) is = absurd (let clash : false ≡ true = is in cc)
is-thread (Some (NewCNode radix)) is = absurd (let clash : false ≡ true = is in cc)
is-thread (Some NewFrame) is = absurd (let clash : false ≡ true = is in cc)
is-thread (Some NewPageTable) is = absurd (let clash : false ≡ true = is in cc)
is-thread (Some NewRootTable) is = absurd (let clash : false ≡ true = is in cc)

pub has-thread : (o : Contents) (offset : ℕ) → (places_of o).threads offset ≡ true → kind_in o offset ≡ Some NewThread
has-thread o offset is = is-thread (kind_in o offset) is

pub if-head : (b : Bool) (queue head : ℕ) → (if b then Some queue else None) ≡ Some head → (b ≡ true) × (head ≡ queue)
if-head true queue head is = (refl, let e : Some queue ≡ Some head = is in let f : head ≡ queue = cc in f)
if-head false queue head is = absurd (let clash : None ≡ Some head = is in cc)

pub head-at-point : (k : Option NewObject) (queue : ℕ) → has_waiting k ≡ true → is_some (if has_waiting k then Some queue else None) ≡ true
head-at-point k queue is = ap (λ b. is_some (if b then Some queue else None)) is

pub has-head : (o : Contents) (queue head : ℕ) → (places_of o).heads queue ≡ Some head → (has_waiting (kind_in o queue) ≡ true) × (head ≡ queue)
has-head o queue head is = if-head (has_waiting (kind_in o queue)) queue head is

-- ---- the tables hold what a kind says

thread-from : (threads : ℕ → Option Thread) (t : Option Thread) (r : Option Record) →
    option_map kind_of (object_from t (option_map (object_of threads []) r)) ≡ Some NewThread → is_some t ≡ true
thread-from threads (Some t) r is = refl
thread-from threads None None is = absurd (let clash : None ≡ Some NewThread = is in cc)
thread-from threads None (Some Endpoint) is = absurd cc
thread-from threads None (Some (Notification word)) is = absurd cc
thread-from threads None (Some (CNode radix)) is = absurd cc
thread-from threads None (Some Frame) is = absurd cc
thread-from threads None (Some PageTable) is = absurd cc
thread-from threads None (Some RootTable) is = absurd cc

record-from : (threads : ℕ → Option Thread) (t : Option Thread) (r : Option Record) →
    has_waiting (option_map kind_of (object_from t (option_map (object_of threads []) r))) ≡ true → is_some r ≡ true
record-from threads (Some t) r is = absurd (let clash : false ≡ true = is in cc)
record-from threads None None is = absurd (let clash : false ≡ true = is in cc)
record-from threads None (Some r) is = refl

pub point-kind : (k : Option NewObject) → has_waiting k ≡ true → (k ≡ Some NewEndpoint) ⊎ (k ≡ Some NewNotification)
point-kind (Some NewEndpoint) is = inl refl
point-kind (Some NewNotification) is = inr refl
point-kind None is = absurd (let clash : false ≡ true = is in cc)
point-kind (Some (NewUntyped bits)) is = absurd (let clash : false ≡ true = is in cc)
point-kind (Some NewThread) is = absurd (let clash : false ≡ true = is in cc)
point-kind (Some (NewCNode radix)) is = absurd (let clash : false ≡ true = is in cc)
point-kind (Some NewFrame) is = absurd (let clash : false ≡ true = is in cc)
point-kind (Some NewPageTable) is = absurd (let clash : false ≡ true = is in cc)
point-kind (Some NewRootTable) is = absurd (let clash : false ≡ true = is in cc)

-- ---- bytes of links lie in records

unfoldable pub in-thread : (s : State) (thread place : ℕ) → kind_at s thread ≡ Some NewThread → thread + 48 ≤ place → place < thread + 512 →
    IsInRecord s.objects place
in-thread s thread place is from below = record { offset = thread; kind = NewThread; there = is; kept = refl; from = from; below = below }

pub in-point : (s : State) (queue place : ℕ) → has_waiting (kind_at s queue) ≡ true → queue ≤ place → place < queue + 16
    → (held : IsInRecord s.objects place) × (held.offset ≡ queue)
in-point s queue place waits from below = elim (point-kind (kind_at s queue) waits) [
  | inl is ↦ (record { offset = queue; kind = NewEndpoint; there = is; kept = refl; from = omega (arith, from); below = omega (arith, below) }, refl)
  | inr is ↦ (record { offset = queue; kind = NewNotification; there = is; kept = refl; from = omega (arith, from); below = omega (arith, below) }, refl)
]

-- where no open slot is, none is
pub not-open : (slots : Slots) (slot : ℕ) → (IsOpen slots slot → ⊥) → slots slot ≡ None
not-open slots slot closed = elim (slots slot) as (λ e. slots slot ≡ e → slots slot ≡ None) [
  | None ↦ λ is. is
  | Some e ↦ λ is. absurd (closed (subst (λ (x : Option Entry). IsSome x) (sym is) refl))
] refl

pub own-slots : (o : Contents) (slots : Slots) (memory : List ℕ) → (contents_state o slots memory).slots ≡ slots
unfolding told_by
own-slots o slots memory = refl

pub own-bits : (o : Contents) (slots : Slots) (memory : List ℕ) → (contents_state o slots memory).memory_bits ≡ o.bits
unfolding told_by
own-bits o slots memory = refl

module _ (o : Contents) (slots : Slots) (memory : List ℕ) (are : AreContents o) (fits : FitsMemory (contents_state o slots memory) memory) where
  abbrev s : State
  s = contents_state o slots memory

  size : length memory ≡ 2 ^ o.bits
  size = sym fits.size ∙ ap (λ (n : ℕ). 2 ^ n) (own-bits o slots memory)

  few : length memory ≤ 2 ^ 24
  few = omega (arith, size, pow_mono {i = o.bits} {j = 24} are.most_bits)

  closed : (place : ℕ) → IsInRecord s.objects place → slots (place / 16) ≡ None
  closed place held = not-open slots (place / 16)
      (λ is_open. fits.records place (subst (λ (f : Slots). IsOpen f (place / 16)) (sym (own-slots o slots memory)) is_open) held)

  module _ (thread : ℕ) (is : (places_of o).threads thread ≡ true) where
    there : is_some (o.threads thread) ≡ true
    there = thread-from o.threads (o.threads thread) (o.records thread) (has-thread o thread is)

    pub thread-multiple : thread % 512 ≡ 0
    thread-multiple = (are.threads thread there).0

    kind-there : kind_at s thread ≡ Some NewThread
    kind-there = kind-state o thread slots memory ∙ has-thread o thread is

    thread-at : IsThreadAt slots (length memory) thread
    thread-at = record {
      few = few;
      within = omega (arith, (are.threads thread there).1, size);
      outside = λ place from below. closed place (in-thread s thread place kind-there (omega (arith, from)) (omega (arith, below)));
    }

  module _ (queue : ℕ) (is : has_waiting (kind_in o queue) ≡ true) where
    some : is_some (o.records queue) ≡ true
    some = record-from o.threads (o.threads queue) (o.records queue) is

    queue-multiple : queue % 16 ≡ 0
    queue-multiple = (are.records queue some).0

    queue-inside : queue + 16 ≤ length memory
    queue-inside = omega (arith, (are.records queue some).1, size)

    waits-there : has_waiting (kind_at s queue) ≡ true
    waits-there = ap has_waiting (kind-state o queue slots memory) ∙ is

    head-at : IsHeadAt slots (length memory) queue
    head-at = record {
      few = few;
      within = omega (arith, queue-inside);
      outside = λ place from below. closed place (in-point s queue place waits-there from (omega (arith, below))).0;
    }

  -- a queue's own words are apart from the links of all threads
  beside : (queue thread : ℕ) → has_waiting (kind_in o queue) ≡ true → (places_of o).threads thread ≡ true → (queue + 8 ≤ thread + 244) ⊎ (thread + 268 ≤ queue)
  unfolding in-thread
  beside queue thread waits is = elim (cases_lt (queue + 7) (thread + 244)) [
    | inl before ↦ inl (omega (arith, before))
    | inr least ↦ elim (cases_lt queue (thread + 268)) [
      | inr behind ↦ inr behind
      | inl under ↦
          let point = in-point s queue queue (waits-there queue waits) (omega arith) (omega arith) in
          let same : point.0.offset ≡ thread = fits.alone queue point.0
          (in-thread s thread queue (kind-there thread is) (omega (arith, least, queue-multiple queue waits, thread-multiple thread is))
          (omega (arith, under))) in
          let at : queue ≡ thread = sym point.1 ∙ same in
          absurd (omega (arith, least, at))
    ]
  ]

  pub laid-out : AreLaidOut (places_of o) slots (length memory)
  laid-out = record {
    aligned = thread-multiple;
    threads = thread-at;
    named = λ queue head is. omega (arith, queue-inside queue (has-head o queue head is).0);
    heads = λ queue head is. subst (λ (n : ℕ). IsHeadAt slots (length memory) n) (sym (has-head o queue head is).1)
        (head-at queue (has-head o queue head is).0);
    apart = λ queue head other place is is' off.
        let one = has-head o queue head is in
        let two = has-head o other place is' in
        let m = queue-multiple queue one.0 in
        let m' = queue-multiple other two.0 in
        elim (cases_lt queue other) [
          | inl less ↦ inl (omega (arith, less, m, m', one.1, two.1))
          | inr least ↦ inr (omega (arith, least, off, m, m', one.1, two.1))
        ];
    beside = λ queue head thread is is'.
        let one = has-head o queue head is in
        elim (beside queue thread one.0 is') [
          | inl before ↦ inl (omega (arith, before, one.1))
          | inr behind ↦ inr (omega (arith, behind, one.1))
        ];
  }

-- ---- who is in queues

module _ (o : Contents) (slots : Slots) (memory : List ℕ) (stands : Linked o slots memory) where
  pub waiters : AreThere (contents_state o slots memory) (waiting_of o memory)
  waiters queue thread some = kind-state o thread slots memory ∙ has-thread o thread (kinds_apart.waiters (places_of o) memory stands.waiting queue thread some)

  pub waited : WaitAtObjects (contents_state o slots memory) (waiting_of o memory)
  waited queue thread some =
      let at = kinds_apart.waited (places_of o) memory stands.waiting queue thread some in
      ap has_waiting (kind-state o queue slots memory) ∙ (has-head o queue at.0 at.1).0

  pub runners : AreThere (contents_state o slots memory) (ready_at o memory)
  runners priority thread some = kind-state o thread slots memory
      ∙ has-thread o thread (kinds_apart.runners (places_of o) o.ready memory stands.ready priority thread some)

-- ---- where the bytes of records are the same, queues are

module _ (o : Contents) (slots : Slots) (old new : List ℕ) (stands : Linked o slots old) (size : length new ≡ length old)
    (records : (place : ℕ) → IsInRecord (contents_state o slots old).objects place → slice_index new place ≡ slice_index old place) where
  abbrev p : Places
  p = places_of o

  kept : (base : ℕ) → 48 ≤ base → base ≤ 256 → KeepThreads base p p old new
  kept base least most thread = inl (record {
    there = refl;
    bytes = λ is place held. records place (in-thread (contents_state o slots old) thread place (kind-state o thread slots old ∙ has-thread o thread is)
        (omega (arith, least, held.0)) (omega (arith, most, held.1)));
  })

  kept-heads : KeepHeads p p old new
  kept-heads queue = inl (record {
    there = refl;
    bytes = λ head place is held.
        let at = has-head o queue head is in
        records place (in-point (contents_state o slots old) queue place (ap has_waiting (kind-state o queue slots old) ∙ at.0) (omega (arith, held.0, at.1))
        (omega (arith, held.1, at.1))).0;
  })

  pub waiting-on : QueuesStand p new
  waiting-on = waiting_stays.stands p p old new size (kept 244 (omega arith) (omega arith)) kept-heads stands.waiting

  pub waiting-same : (queue : ℕ) → waiting_of o new queue ≡ waiting_of o old queue
  waiting-same = waiting_stays.queues p p old new size (kept 244 (omega arith) (omega arith)) kept-heads stands.waiting

  pub ready-on : ReadyStands p o.ready new
  ready-on = ready_stays.stands p p o.ready old new size (kept 256 (omega arith) (omega arith)) stands.ready

  pub ready-same : (priority : ℕ) → ready_at o new priority ≡ ready_at o old priority
  ready-same = ready_stays.queues p p o.ready old new size (kept 256 (omega arith) (omega arith)) stands.ready
