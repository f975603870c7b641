-- Nothing is at an offset any more.
use Rattle.std.proofs.Common.{ℕ, ◌≡◌, ◌≢◌, ◌∙◌, ◌==◌, inl, inr, false, if◌then◌else◌, Option, Some, None, option_map, List, [], refl, sym, ap}
use Rattle.std.specs.Prelude.{option_and_then, slice_index}
use Rattle.std.specs.Option.{option_map_or}
use Rattle.std.proofs.lemmas.Bool.Decides.{eqb_tells}
use Rattle.model.specs.Capabilities.Slots.{Slots}
use Rattle.model.specs.Kernel.Kinds.{frame_around}
use Rattle.model.specs.Kernel.State.{EndpointObject, put}
use Rattle.model.specs.Shared.Lists.{times_in}
use Rattle.objects.proofs.Kept.{put-here, put-there}
use Rattle.objects.proofs.Lists.{receivers-same, senders-same}
use Rattle.objects.specs.Changes.{vacated}
use Rattle.objects.specs.Contents.{Contents, byte_in, is_frame, object_from, object_in, object_of, sending_in}
use Rattle.objects.specs.Contents.{Record}
use Rattle.objects.specs.Contents.{Endpoint, Notification, CNode, Frame, PageTable, RootTable}
use Rattle.objects.specs.declared.thread_records.records.Thread.{Thread}
use Rattle.objects.proofs.Told.{state_with}

-- An object looks the same where one thread that does not wait at it changes what it sends.
pub object-same : (old new : ℕ → Option Thread) (thread : ℕ) (waiting : List ℕ) (r : Record)
    → ((other : ℕ) → other ≢ thread → sending_in new other ≡ sending_in old other) → times_in waiting thread ≡ 0 →
    object_of new waiting r ≡ object_of old waiting r
object-same old new thread waiting Endpoint same none = λ i. EndpointObject (record {
  senders = senders-same (sending_in new) (sending_in old) thread waiting same none i;
  receivers = receivers-same (sending_in new) (sending_in old) thread waiting same none i;
})
object-same old new thread waiting (Notification word) same none = refl
object-same old new thread waiting (CNode radix) same none = refl
object-same old new thread waiting Frame same none = refl
object-same old new thread waiting PageTable same none = refl
object-same old new thread waiting RootTable same none = refl

pub other-same : (old new : ℕ → Option Thread) (thread : ℕ) (waiting : List ℕ) (r : Option Record)
    → ((other : ℕ) → other ≢ thread → sending_in new other ≡ sending_in old other) → times_in waiting thread ≡ 0
    → option_map (object_of new waiting) r ≡ option_map (object_of old waiting) r
other-same old new thread waiting (Some r) same none = ap Some (object-same old new thread waiting r same none)
other-same old new thread waiting None same none = refl

module _ (o : Contents) (records : ℕ → Option Record) (threads : ℕ → Option Thread) (was_waiting waiting : ℕ → List ℕ) (offset : ℕ)
    (unrecorded : (other : ℕ) → records other ≡ put (o.records) offset None other)
    (unthreaded : (other : ℕ) → threads other ≡ put (o.threads) offset None other)
    (ended : (queue : ℕ) → waiting queue ≡ put (was_waiting) offset [] queue)
    (waits-not : (queue : ℕ) → times_in (was_waiting queue) offset ≡ 0) where
  abbrev now : Contents
  now = record o { records = records; threads = threads }

  sends : (other : ℕ) → other ≢ offset → sending_in threads other ≡ sending_in o.threads other
  sends other differs = ap (option_and_then (λ t. t.sending)) (unthreaded other ∙ put-there (o.threads) offset None other differs)

  queue-still : (queue : ℕ) → queue ≢ offset → waiting queue ≡ was_waiting queue
  queue-still queue differs = ended queue ∙ put-there (was_waiting) offset [] queue differs

  -- at the offset, and elsewhere
  nothing-here : object_in now waiting offset ≡ None
  nothing-here =
      ap (λ t. object_from t (option_map (object_of threads (waiting offset)) (records offset)))
      (unthreaded offset ∙ put-here (o.threads) offset None)
      ∙ ap (option_map (object_of threads (waiting offset))) (unrecorded offset ∙ put-here (o.records) offset None)

  same-there : (other : ℕ) → other ≢ offset → object_in now waiting other ≡ object_in o was_waiting other
  same-there other differs =
      ap (λ t. object_from t (option_map (object_of threads (waiting other)) (records other)))
      (unthreaded other ∙ put-there (o.threads) offset None other differs)
      ∙ ap (object_from (o.threads other)) (
      ap (option_map (object_of threads (waiting other))) (unrecorded other ∙ put-there (o.records) offset None other differs)
      ∙ ap (λ l. option_map (object_of threads l) (o.records other)) (queue-still other differs)
      ∙ other-same o.threads threads offset (was_waiting other) (o.records other) sends (waits-not other))

  object-vacated : (other : ℕ) → object_in now waiting other ≡ (if offset == other then None else object_in o was_waiting other)
  object-vacated other = elim (eqb_tells offset other) [
    | inl here ↦ ap (object_in now waiting) (sym here.1) ∙ nothing-here ∙ ap (λ b. if b then None else object_in o was_waiting other) (sym here.0)
    | inr differs ↦ same-there other (λ same. differs.1 (sym same)) ∙ ap (λ b. if b then None else object_in o was_waiting other) (sym differs.0)
  ]

  byte-vacated : (memory : List ℕ) (place : ℕ) → byte_in records memory place ≡ (if offset == frame_around place then None else byte_in o.records memory place)
  byte-vacated memory place = elim (eqb_tells offset (frame_around place)) [
    | inl here ↦
        let none : records (frame_around place) ≡ None =
        unrecorded (frame_around place) ∙ ap (λ (x : ℕ). put (o.records) offset None x) (sym here.1) ∙ put-here (o.records) offset None in
        ap (λ r. if option_map_or is_frame r false then Some (slice_index memory place) else None) none
        ∙ ap (λ b. if b then None else byte_in o.records memory place) (sym here.0)
    | inr differs ↦
        let same : records (frame_around place) ≡ o.records (frame_around place) =
        unrecorded (frame_around place) ∙ put-there (o.records) offset None (frame_around place) (λ is. differs.1 (sym is)) in
        ap (λ r. if option_map_or is_frame r false then Some (slice_index memory place) else None) same
        ∙ ap (λ b. if b then None else byte_in o.records memory place) (sym differs.0)
  ]

  pub vacated-state : (ready : ℕ → List ℕ) (slots : Slots) (memory : List ℕ) →
      state_with now waiting ready slots memory ≡ vacated (state_with o was_waiting ready slots memory) offset
  vacated-state ready slots memory = λ i. record (state_with o was_waiting ready slots memory) {
    objects = λ other. object-vacated other i;
    bytes = λ place. byte-vacated memory place i;
  }
