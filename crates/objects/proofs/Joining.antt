-- A thread joins a queue, after all others.
use Rattle.std.proofs.Common.{ℕ, ◌≡◌, ◌≢◌, ◌∙◌, ◌==◌, ◌+◌, inl, inr, true, false, if◌then◌else◌, Option, Some, None, option_map, List, [], ◌∷◌, ◌++◌, map, refl}
use Rattle.std.proofs.Common.{sym, ap, arith}
use Rattle.std.specs.Prelude.{option_and_then}
use Rattle.std.proofs.lemmas.Bool.{cases_lt}
use Rattle.std.proofs.lemmas.Bool.Decides.{eqb_tells, nat_tests}
use Rattle.model.specs.Capabilities.Slots.{Slots}
use Rattle.model.specs.Kernel.Kinds.{kind_at, kind_of}
use Rattle.model.specs.Kernel.Soundness.{waiting_at}
use Rattle.model.specs.Kernel.State.{EndpointObject, Object, put}
use Rattle.model.specs.Shared.Lists.{times_in}
use Rattle.objects.proofs.Kept.{put-here, put-there}
use Rattle.objects.proofs.Lists.{receivers-by, receivers-same, senders-by, senders-same}
use Rattle.objects.proofs.Vacating.{other-same}
use Rattle.objects.proofs.Linked.{Linked}
use Rattle.objects.specs.Contents.{Contents, object_from, object_in, object_of, sending_in, contents_state, told_by, waiting_of}
use Rattle.objects.specs.thread_records.Threads.{sender_of}
use Rattle.objects.specs.Waiting.{StandsNowhere, changed_at, has_waiting, joined}
use Rattle.objects.specs.Contents.{Record}
use Rattle.objects.specs.Contents.{Endpoint, Notification, CNode, Frame, PageTable, RootTable}
use Rattle.objects.specs.declared.thread_records.records.Sending.{Sending}
use Rattle.objects.specs.declared.thread_records.records.Thread.{Thread}
use Rattle.objects.proofs.Told.{state_with, waited}

-- ---- those that wait, as senders and receivers

pub times-append : (one two : List ℕ) (thread : ℕ) → times_in (one ++ two) thread ≡ times_in one thread + times_in two thread
times-append [] two thread = omega arith
times-append (x ∷ one) two thread =
    let more = times-append one two thread in
    elim (x == thread) as (λ b. (if b then times_in (one ++ two) thread + 1 else times_in (one ++ two) thread)
    ≡ (if b then times_in one thread + 1 else times_in one thread) + times_in two thread) [
      | true ↦ omega (arith, more)
      | false ↦ more
    ]

abbrev sending-threads : (ℕ → Option Sending) → List ℕ → List ℕ
sending-threads sends waiting = map (λ sender. sender.thread) (senders-by sends waiting)

pub times-parts : (sends : ℕ → Option Sending) (waiting : List ℕ) (thread : ℕ)
    → times_in (sending-threads sends waiting ++ receivers-by sends waiting) thread ≡ times_in waiting thread
times-parts sends [] thread = refl
times-parts sends (x ∷ rest) thread =
    let both = times-append (sending-threads sends rest) (receivers-by sends rest) thread in
    let behind = times-append (sending-threads sends rest) (x ∷ receivers-by sends rest) thread in
    grind (arith, nat_tests, times-parts sends rest thread, both, behind)

senders-end : (sends : ℕ → Option Sending) (waiting : List ℕ) (thread : ℕ) (sending : Sending) → sends thread ≡ Some sending
    → senders-by sends (waiting ++ thread ∷ []) ≡ senders-by sends waiting ++ sender_of thread sending ∷ []
senders-end sends [] thread sending is = grind (arith, is)
senders-end sends (x ∷ rest) thread sending is = grind (arith, senders-end sends rest thread sending is)

receivers-end : (sends : ℕ → Option Sending) (waiting : List ℕ) (thread : ℕ) (sending : Sending) → sends thread ≡ Some sending
    → receivers-by sends (waiting ++ thread ∷ []) ≡ receivers-by sends waiting
receivers-end sends [] thread sending is = grind (arith, is)
receivers-end sends (x ∷ rest) thread sending is = grind (arith, receivers-end sends rest thread sending is)

no-senders-end : (sends : ℕ → Option Sending) (waiting : List ℕ) (thread : ℕ) → sends thread ≡ None
    → senders-by sends (waiting ++ thread ∷ []) ≡ senders-by sends waiting
no-senders-end sends [] thread is = grind (arith, is)
no-senders-end sends (x ∷ rest) thread is = grind (arith, no-senders-end sends rest thread is)

more-receivers-end : (sends : ℕ → Option Sending) (waiting : List ℕ) (thread : ℕ) → sends thread ≡ None
    → receivers-by sends (waiting ++ thread ∷ []) ≡ receivers-by sends waiting ++ thread ∷ []
more-receivers-end sends [] thread is = grind (arith, is)
more-receivers-end sends (x ∷ rest) thread is = grind (arith, more-receivers-end sends rest thread is)

-- ---- it is after all others

-- where threads wait, no thread is
no-thread-waits : (t : Option Thread) (p : Option Object) → has_waiting (option_map kind_of (object_from t p)) ≡ true → t ≡ None
no-thread-waits (Some t) p is = absurd (let clash : false ≡ true = is in cc)
no-thread-waits None p is = refl

pub free-queue : (o : Contents) (slots : Slots) (memory : List ℕ) (queue : ℕ) → has_waiting (kind_at (contents_state o slots memory) queue) ≡ true →
    o.threads queue ≡ None
unfolding told_by
free-queue o slots memory queue = no-thread-waits (o.threads queue) _

-- who waits at an object is in its queue
waits-queued : (threads : ℕ → Option Thread) (waiting : List ℕ) (thread : ℕ) (t : Option Thread) (r : Option Record)
    → has_waiting (option_map kind_of (object_from t (option_map (object_of threads waiting) r))) ≡ true
    → times_in (waiting_at (object_from t (option_map (object_of threads waiting) r))) thread ≡ times_in waiting thread
waits-queued threads waiting thread None (Some Endpoint) is = times-parts (sending_in threads) waiting thread
waits-queued threads waiting thread None (Some (Notification word)) is = refl
waits-queued threads waiting thread (Some t) r is = absurd (let clash : false ≡ true = is in cc)
waits-queued threads waiting thread None None is = absurd (let clash : false ≡ true = is in cc)
waits-queued threads waiting thread None (Some (CNode radix)) is = absurd (let clash : false ≡ true = is in cc)
waits-queued threads waiting thread None (Some Frame) is = absurd (let clash : false ≡ true = is in cc)
waits-queued threads waiting thread None (Some PageTable) is = absurd (let clash : false ≡ true = is in cc)
waits-queued threads waiting thread None (Some RootTable) is = absurd (let clash : false ≡ true = is in cc)

-- so who waits at no object is in no queue
pub nowhere-queued : (o : Contents) (slots : Slots) (memory : List ℕ) (thread : ℕ) → Linked o slots memory →
    StandsNowhere (contents_state o slots memory).objects thread
    → (queue : ℕ) → times_in (waiting_of o memory queue) thread ≡ 0
unfolding told_by
nowhere-queued o slots memory thread stands apart queue = elim (cases_lt 0 (times_in (waiting_of o memory queue) thread)) [
  | inl some ↦
      let waits = waits-queued o.threads (waiting_of o memory queue) thread (o.threads queue) (o.records queue)
      (waited o slots memory stands queue thread some) in
      sym waits ∙ apart.nowhere queue
  | inr few ↦ omega (arith, few)
]

module _ (o : Contents) (threads : ℕ → Option Thread) (was_waiting waiting : ℕ → List ℕ) (queue thread : ℕ) (held : Thread) (sending : Option Sending)
    (there : o.threads thread ≡ Some held)
    (free : o.threads queue ≡ None)
    (replaced : (other : ℕ) → threads other ≡ put (o.threads) thread (Some (record held { sending = sending })) other)
    (queue-now : (other : ℕ) → waiting other ≡ put (was_waiting) queue (was_waiting queue ++ thread ∷ []) other)
    (waits-not : (other : ℕ) → times_in (was_waiting other) thread ≡ 0) where
  abbrev now : Contents
  now = record o { threads = threads }

  sends : (other : ℕ) → other ≢ thread → sending_in threads other ≡ sending_in o.threads other
  sends other apart = ap (option_and_then (λ t. t.sending)) (replaced other ∙ put-there (o.threads) thread _ other apart)

  sends-this : sending_in threads thread ≡ sending
  sends-this = ap (option_and_then (λ t. t.sending)) (replaced thread ∙ put-here (o.threads) thread _)

  abbrev before : List ℕ
  before = was_waiting queue

  old-senders : senders-by (sending_in threads) before ≡ senders-by (sending_in o.threads) before
  old-senders = senders-same (sending_in threads) (sending_in o.threads) thread before sends (waits-not queue)

  old-receivers : receivers-by (sending_in threads) before ≡ receivers-by (sending_in o.threads) before
  old-receivers = receivers-same (sending_in threads) (sending_in o.threads) thread before sends (waits-not queue)

  endpoint-joined : (s : Option Sending) → sending_in threads thread ≡ s
      → object_of threads (before ++ thread ∷ []) Endpoint ≡ joined thread s (object_of o.threads before Endpoint)
  endpoint-joined (Some s) is = λ i. EndpointObject (record {
    senders = (senders-end (sending_in threads) before thread s is ∙ ap (λ l. l ++ sender_of thread s ∷ []) old-senders) i;
    receivers = (receivers-end (sending_in threads) before thread s is ∙ old-receivers) i;
  })
  endpoint-joined None is = λ i. EndpointObject (record {
    senders = (no-senders-end (sending_in threads) before thread is ∙ old-senders) i;
    receivers = (more-receivers-end (sending_in threads) before thread is ∙ ap (λ l. l ++ thread ∷ []) old-receivers) i;
  })

  record-joined : (r : Record) → object_of threads (before ++ thread ∷ []) r ≡ joined thread sending (object_of o.threads before r)
  record-joined Endpoint = endpoint-joined sending sends-this
  record-joined (Notification word) = refl
  record-joined (CNode radix) = refl
  record-joined Frame = refl
  record-joined PageTable = refl
  record-joined RootTable = refl

  other-joined : (r : Option Record) → option_map (object_of threads (before ++ thread ∷ [])) r ≡ option_map (joined thread sending)
      (option_map (object_of o.threads before) r)
  other-joined (Some r) = ap Some (record-joined r)
  other-joined None = refl

  -- the queue's own object, that of the thread, and the others
  apart-from : queue ≢ thread
  apart-from same = let clash : None ≡ Some held = sym free ∙ ap (o.threads) same ∙ there in cc

  joined-here : object_in now waiting queue ≡ option_map (joined thread sending) (object_in o was_waiting queue)
  joined-here =
      ap (λ l. object_from (threads queue) (option_map (object_of threads l) (o.records queue))) (queue-now queue ∙ put-here (was_waiting) queue _)
      ∙ ap (λ t. object_from t (option_map (object_of threads (before ++ thread ∷ [])) (o.records queue)))
      (replaced queue ∙ put-there (o.threads) thread _ queue apart-from ∙ free)
      ∙ other-joined (o.records queue)
      ∙ ap (λ t. option_map (joined thread sending) (object_from t (option_map (object_of o.threads before) (o.records queue)))) (sym free)

  thread-same : object_in now waiting thread ≡ object_in o was_waiting thread
  thread-same =
      ap (λ t. object_from t (option_map (object_of threads (waiting thread)) (o.records thread))) (replaced thread ∙ put-here (o.threads) thread _)
      ∙ ap (λ t. object_from t (option_map (object_of o.threads (was_waiting thread)) (o.records thread))) (sym there)

  other-same-there : (other : ℕ) → other ≢ thread → other ≢ queue → object_in now waiting other ≡ object_in o was_waiting other
  other-same-there other from_thread from_queue =
      ap (λ t. object_from t (option_map (object_of threads (waiting other)) (o.records other)))
      (replaced other ∙ put-there (o.threads) thread _ other from_thread)
      ∙ ap (λ l. object_from (o.threads other) (option_map (object_of threads l) (o.records other)))
      (queue-now other ∙ put-there (was_waiting) queue _ other from_queue)
      ∙ ap (object_from (o.threads other))
      (other-same o.threads threads thread (was_waiting other) (o.records other) sends (waits-not other))

  object-joined : (other : ℕ) → object_in now waiting other ≡ put (object_in o was_waiting) queue
      (option_map (joined thread sending) (object_in o was_waiting queue)) other
  object-joined other = elim (eqb_tells other queue) [
    | inl here ↦
        ap (object_in now waiting) here.1 ∙ joined-here
        ∙ ap (λ b. if b then option_map (joined thread sending) (object_in o was_waiting queue) else object_in o was_waiting other) (sym here.0)
    | inr apart ↦
        (elim (eqb_tells other thread) [
          | inl here ↦ ap (object_in now waiting) here.1 ∙ thread-same ∙ ap (object_in o was_waiting) (sym here.1)
          | inr differs ↦ other-same-there other differs.1 apart.1
        ]) ∙ ap (λ b. if b then option_map (joined thread sending) (object_in o was_waiting queue) else object_in o was_waiting other) (sym apart.0)
  ]

  pub joined-state : (ready : ℕ → List ℕ) (slots : Slots) (memory : List ℕ) →
      state_with now waiting ready slots memory ≡ changed_at (state_with o was_waiting ready slots memory) queue (joined thread sending)
  joined-state ready slots memory = λ i. record (state_with o was_waiting ready slots memory) { objects = λ other. object-joined other i }
