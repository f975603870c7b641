-- A thread leaves the queues, and the objects know it no more.
use Rattle.std.proofs.Common.{ℕ, ◌≡◌, ◌∙◌, ◌==◌, Bool, not, Option, Some, None, option_map, List, refl, ap}
use Rattle.std.specs.Prelude.{filter, option_and_then}
use Rattle.model.specs.Capabilities.Slots.{Slots}
use Rattle.model.specs.Kernel.Scheduling.{leaves, without_threads}
use Rattle.model.specs.Kernel.State.{Object, EndpointObject, NotificationObject}
use Rattle.model.specs.Shared.Lists.{without}
use Rattle.objects.proofs.Lists.{receivers-by, receivers-part, senders-by, senders-part}
use Rattle.objects.specs.Changes.{voided}
use Rattle.objects.specs.Contents.{Contents, object_from, object_in, object_of, receivers_in, senders_in, sending_in}
use Rattle.objects.specs.Contents.{Record}
use Rattle.objects.specs.Contents.{Endpoint, Notification, CNode, Frame, PageTable, RootTable}
use Rattle.objects.specs.declared.thread_records.records.Thread.{Thread}
use Rattle.objects.proofs.Told.{state_with}

sends-still : (gone : ℕ) (o : Option Thread) → option_and_then (λ t. t.sending) (option_map (voided gone) o) ≡ option_and_then (λ t. t.sending) o
sends-still gone (Some t) = refl
sends-still gone None = refl

module _ (o : Contents) (threads : ℕ → Option Thread) (was_waiting waiting was_ready ready : ℕ → List ℕ) (thread : ℕ)
    (void : (other : ℕ) → threads other ≡ option_map (voided thread) (o.threads other))
    (left : (queue : ℕ) → waiting queue ≡ without thread (was_waiting queue))
    (unready : (priority : ℕ) → ready priority ≡ without thread (was_ready priority)) where
  abbrev now : Contents
  now = record o { threads = threads }

  abbrev gone : ℕ → Bool
  gone other = other == thread

  sends : (other : ℕ) → sending_in threads other ≡ sending_in o.threads other
  sends other = ap (option_and_then (λ t. t.sending)) (void other) ∙ sends-still thread (o.threads other)

  senders-left : (queue : ℕ) → senders_in threads (waiting queue)
      ≡ filter (λ sender. not (gone sender.thread)) (senders_in o.threads (was_waiting queue))
  senders-left queue =
      (λ i. senders-by (λ other. sends other i) (left queue i)) ∙ senders-part (sending_in o.threads) gone (was_waiting queue)

  receivers-left : (queue : ℕ) → receivers_in threads (waiting queue)
      ≡ filter (λ other. not (gone other)) (receivers_in o.threads (was_waiting queue))
  receivers-left queue =
      (λ i. receivers-by (λ other. sends other i) (left queue i)) ∙ receivers-part (sending_in o.threads) gone (was_waiting queue)

  record-left : (queue : ℕ) (r : Record) → object_of threads (waiting queue) r
      ≡ without_threads gone (object_of o.threads (was_waiting queue) r)
  record-left queue Endpoint = λ i. EndpointObject (record { senders = senders-left queue i; receivers = receivers-left queue i })
  record-left queue (Notification word) = λ i. NotificationObject (record { word = word; waiters = left queue i })
  record-left queue (CNode radix) = refl
  record-left queue Frame = refl
  record-left queue PageTable = refl
  record-left queue RootTable = refl

  other-left : (queue : ℕ) (r : Option Record) → option_map (object_of threads (waiting queue)) r
      ≡ option_map (without_threads gone) (option_map (object_of o.threads (was_waiting queue)) r)
  other-left queue (Some r) = ap Some (record-left queue r)
  other-left queue None = refl

  from-left : (t : Option Thread) (p q : Option Object) → p ≡ option_map (without_threads gone) q
      → object_from (option_map (voided thread) t) p ≡ option_map (without_threads gone) (object_from t q)
  from-left (Some t) p q same = refl
  from-left None p q same = same

  object-left : (offset : ℕ) → object_in now waiting offset ≡ option_map (without_threads gone) (object_in o was_waiting offset)
  object-left offset =
      ap (λ t. object_from t (option_map (object_of threads (waiting offset)) (o.records offset))) (void offset)
      ∙ from-left (o.threads offset) _ _ (other-left offset (o.records offset))

  pub left-state : (slots : Slots) (memory : List ℕ) → state_with now waiting ready slots memory ≡ leaves (state_with o was_waiting was_ready slots memory)
      thread
  left-state slots memory = λ i. record (state_with o was_waiting was_ready slots memory) {
    objects = λ offset. object-left offset i;
    ready = λ priority. unready priority i;
  }
