-- The first of those that wait at an object leaves.
use Rattle.std.proofs.Common.{ℕ, ◌≡◌, ◌∙◌, inl, inr, if◌then◌else◌, Option, Some, None, option_map, List, ◌∷◌, drop, refl, sym, ap, arith}
use Rattle.std.proofs.lemmas.Bool.Decides.{eqb_tells}
use Rattle.model.specs.Capabilities.Slots.{Slots}
use Rattle.model.specs.Kernel.Scheduling.{head_of}
use Rattle.model.specs.Kernel.State.{EndpointObject, put}
use Rattle.objects.proofs.Lists.{head-rest, receivers-by, senders-by}
use Rattle.objects.specs.Contents.{Contents, object_from, object_in, object_of, sending_in}
use Rattle.objects.specs.thread_records.Threads.{sender_of}
use Rattle.objects.specs.Waiting.{changed_at, served}
use Rattle.objects.specs.Contents.{Record}
use Rattle.objects.specs.Contents.{Endpoint, Notification, CNode, Frame, PageTable, RootTable}
use Rattle.objects.specs.declared.thread_records.records.Sending.{Sending}
use Rattle.objects.specs.declared.thread_records.records.Thread.{Thread}
use Rattle.objects.proofs.Told.{state_with}

-- ---- the first of a list of those that wait

pub first-sends : (sends : ℕ → Option Sending) (thread : ℕ) (rest : List ℕ) (sending : Sending) → sends thread ≡ Some sending
    → senders-by sends (thread ∷ rest) ≡ sender_of thread sending ∷ senders-by sends rest
first-sends sends thread rest sending is = grind (arith, is)

first-not-receives : (sends : ℕ → Option Sending) (thread : ℕ) (rest : List ℕ) (sending : Sending) → sends thread ≡ Some sending
    → receivers-by sends (thread ∷ rest) ≡ receivers-by sends rest
first-not-receives sends thread rest sending is = grind (arith, is)

first-not-sends : (sends : ℕ → Option Sending) (thread : ℕ) (rest : List ℕ) → sends thread ≡ None
    → senders-by sends (thread ∷ rest) ≡ senders-by sends rest
first-not-sends sends thread rest is = grind (arith, is)

pub first-receives : (sends : ℕ → Option Sending) (thread : ℕ) (rest : List ℕ) → sends thread ≡ None
    → receivers-by sends (thread ∷ rest) ≡ thread ∷ receivers-by sends rest
first-receives sends thread rest is = grind (arith, is)

-- ---- the state without it

module _ (o : Contents) (was_waiting waiting : ℕ → List ℕ) (queue thread : ℕ)
    (queue-now : (other : ℕ) → waiting other ≡ put (was_waiting) queue (drop 1 (was_waiting queue)) other)
    (first : head_of (was_waiting queue) ≡ Some thread) where
  abbrev rest : List ℕ
  rest = drop 1 (was_waiting queue)

  whole : was_waiting queue ≡ thread ∷ rest
  whole = head-rest (was_waiting queue) thread first

  abbrev sending : Option Sending
  sending = sending_in o.threads thread

  endpoint-served : (s : Option Sending) → sending ≡ s → object_of o.threads rest Endpoint ≡ served s (object_of o.threads (thread ∷ rest) Endpoint)
  endpoint-served (Some s) is = λ i. EndpointObject (record {
    senders = ap (drop 1) (sym (first-sends (sending_in o.threads) thread rest s is)) i;
    receivers = sym (first-not-receives (sending_in o.threads) thread rest s is) i;
  })
  endpoint-served None is = λ i. EndpointObject (record {
    senders = sym (first-not-sends (sending_in o.threads) thread rest is) i;
    receivers = ap (drop 1) (sym (first-receives (sending_in o.threads) thread rest is)) i;
  })

  record-served : (r : Record) → object_of o.threads rest r ≡ served sending (object_of o.threads (thread ∷ rest) r)
  record-served Endpoint = endpoint-served sending refl
  record-served (Notification word) = refl
  record-served (CNode radix) = refl
  record-served Frame = refl
  record-served PageTable = refl
  record-served RootTable = refl

  other-served : (t : Option Thread) (r : Option Record)
      → object_from t (option_map (object_of o.threads rest) r) ≡ option_map (served sending)
      (object_from t (option_map (object_of o.threads (thread ∷ rest)) r))
  other-served (Some t) r = refl
  other-served None (Some r) = ap Some (record-served r)
  other-served None None = refl

  object-served : (other : ℕ) → object_in o waiting other ≡ put (object_in o was_waiting) queue (option_map (served sending) (object_in o was_waiting queue))
      other
  object-served other =
      ap (λ l. object_from (o.threads other) (option_map (object_of o.threads l) (o.records other))) (queue-now other)
      ∙ (elim (eqb_tells other queue) [
        | inl here ↦
            ap (λ b. object_from (o.threads other) (option_map (object_of o.threads (if b then rest else was_waiting other)) (o.records other))) here.0
            ∙ ap (λ n. object_from (o.threads n) (option_map (object_of o.threads rest) (o.records n))) here.1
            ∙ other-served (o.threads queue) (o.records queue)
            ∙ ap (λ l. option_map (served sending) (object_from (o.threads queue) (option_map (object_of o.threads l) (o.records queue)))) (sym whole)
            ∙ ap (λ b. if b then option_map (served sending) (object_in o was_waiting queue) else object_in o was_waiting other) (sym here.0)
        | inr apart ↦
            ap (λ b. object_from (o.threads other) (option_map (object_of o.threads (if b then rest else was_waiting other)) (o.records other))) apart.0
            ∙ ap (λ b. if b then option_map (served sending) (object_in o was_waiting queue) else object_in o was_waiting other) (sym apart.0)
      ])

  pub served-state : (ready : ℕ → List ℕ) (slots : Slots) (memory : List ℕ) →
      state_with o waiting ready slots memory ≡ changed_at (state_with o was_waiting ready slots memory) queue (served sending)
  served-state ready slots memory = λ i. record (state_with o was_waiting ready slots memory) { objects = λ other. object-served other i }
