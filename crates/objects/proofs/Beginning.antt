-- A new object comes at an offset where none was.
use Rattle.std.proofs.Common.{ℕ, ◌≡◌, ◌≢◌, ◌∙◌, ◌==◌, ◌+◌, ◌<◌, ◌&&◌, inl, inr, Bool, true, false, if◌then◌else◌, Option, Some, None, option_map, List, [], ◌∷◌}
use Rattle.std.proofs.Common.{refl, sym, ap, arith}
use Rattle.std.specs.Prelude.{option_and_then, slice_index}
use Rattle.std.specs.Option.{option_map_or}
use Rattle.std.proofs.lemmas.Bool.{cases_lt, eq-eqb}
use Rattle.std.proofs.lemmas.Bool.Decides.{eqb_tells}
use Rattle.model.specs.Capabilities.Slots.{Slots}
use Rattle.model.specs.Kernel.Kinds.{frame_around, kind_at, kind_of}
use Rattle.model.specs.Kernel.Retype.{NewThread}
use Rattle.model.specs.Kernel.State.{Object, ThreadObject, new_thread, put}
use Rattle.model.specs.Shared.Lists.{times_in}
use Rattle.objects.proofs.Kept.{put-here, put-there}
use Rattle.objects.proofs.Vacating.{other-same}
use Rattle.objects.specs.Changes.{begun, is_frame_kind}
use Rattle.objects.proofs.Linked.{Linked}
use Rattle.objects.specs.Contents.{Contents, byte_in, is_frame, object_from, object_in, object_of, sending_in, contents_state, told_by, waiting_of}
use Rattle.model.specs.Kernel.ObjectTypes.{new_object}
use Rattle.objects.specs.thread_records.Threads.{thread_state}
use Rattle.objects.specs.Waiting.{has_waiting}
use Rattle.model.specs.declared.object_types.ObjectKind.{ObjectKind}
use Rattle.model.specs.declared.object_types.ObjectKind.TheVariants as kinds
use Rattle.objects.specs.Contents.{Record}
use Rattle.objects.specs.Contents.{Endpoint, Notification, CNode, Frame, PageTable, RootTable}
use Rattle.objects.specs.declared.thread_records.records.Thread.{Thread}
use Rattle.objects.proofs.Told.{state_with, waited, waiters}

-- ---- nothing is there

free-thread : (t : Option Thread) (p : Option Object) → object_from t p ≡ None → t ≡ None
free-thread (Some t) p free = absurd (let clash : Some (ThreadObject (thread_state t)) ≡ None = free in cc)
free-thread None p free = refl

free-record : (threads : ℕ → Option Thread) (waiting : List ℕ) (t : Option Thread) (r : Option Record) →
    object_from t (option_map (object_of threads waiting) r) ≡ None → r ≡ None
free-record threads waiting (Some t) r free = absurd (let clash : Some (ThreadObject (thread_state t)) ≡ None = free in cc)
free-record threads waiting None (Some r) free = absurd (let clash : Some (object_of threads waiting r) ≡ None = free in cc)
free-record threads waiting None None free = refl

nobody : (queues : ℕ → List ℕ) (queue : ℕ) → ((thread : ℕ) → 0 < times_in (queues queue) thread → ⊥) → queues queue ≡ []
nobody queues queue none = elim (queues queue) as (λ l. ((thread : ℕ) → 0 < times_in l thread → ⊥) → l ≡ []) [
  | [] ↦ λ _. refl
  | x ∷ rest ↦ λ none. absurd (none x (omega (arith, ap (λ b. if b then times_in rest x + 1 else times_in rest x) (eq-eqb x x refl))))
] none

-- what is at the offset of a new object that is no thread
abbrev pub record_of : ObjectKind → Option Record
record_of kinds.Thread = None
record_of kinds.Endpoint = Some Endpoint
record_of kinds.Notification = Some (Notification 0)
record_of (kinds.CNode radix) = Some (CNode radix)
record_of kinds.Frame = Some Frame
record_of kinds.PageTable = Some PageTable
record_of kinds.RootTable = Some RootTable

same-record : (a b : Record) → Some a ≡ Some b → a ≡ b
same-record a b same = cc

new-record : (threads : ℕ → Option Thread) (kind : ObjectKind) (r : Record) → record_of kind ≡ Some r
    → (object_of threads [] r ≡ new_object kind) × (is_frame r ≡ is_frame_kind kind)
new-record threads kinds.Thread r is = absurd (let clash : None ≡ Some r = is in cc)
new-record threads kinds.Endpoint r is = let e = same-record r Endpoint (sym is) in (ap (object_of threads []) e, ap is_frame e)
new-record threads kinds.Notification r is = let e = same-record r (Notification 0) (sym is) in (ap (object_of threads []) e, ap is_frame e)
new-record threads (kinds.CNode radix) r is = let e = same-record r (CNode radix) (sym is) in (ap (object_of threads []) e, ap is_frame e)
new-record threads kinds.Frame r is = let e = same-record r Frame (sym is) in (ap (object_of threads []) e, ap is_frame e)
new-record threads kinds.PageTable r is = let e = same-record r PageTable (sym is) in (ap (object_of threads []) e, ap is_frame e)
new-record threads kinds.RootTable r is = let e = same-record r RootTable (sym is) in (ap (object_of threads []) e, ap is_frame e)

never : {A : Type 0} (a : Bool) (x y : A) → y ≡ (if a && false then x else y)
never true x y = refl
never false x y = refl

module _ (o : Contents) (slots : Slots) (memory : List ℕ) (offset : ℕ) (stands : Linked o slots memory)
    (free : (contents_state o slots memory).objects offset ≡ None) where
  free-object : object_in o (waiting_of o memory) offset ≡ None
  unfolding told_by
  free-object = free

  -- nobody is there, and nobody waits there
  no-kind : kind_at (contents_state o slots memory) offset ≡ None
  no-kind = ap (option_map kind_of) free

  pub waits-not : (queue : ℕ) → times_in (waiting_of o memory queue) offset ≡ 0
  waits-not queue = elim (cases_lt 0 (times_in (waiting_of o memory queue) offset)) [
    | inl some ↦ absurd (let clash : None ≡ Some NewThread = sym no-kind ∙ waiters o slots memory stands queue offset some in cc)
    | inr few ↦ omega (arith, few)
  ]

  no-queue : waiting_of o memory offset ≡ []
  no-queue = nobody (waiting_of o memory) offset (λ thread some.
      absurd (let clash : false ≡ true = sym (ap has_waiting no-kind) ∙ waited o slots memory stands offset thread some in cc))

  free-in-threads : o.threads offset ≡ None
  free-in-threads = free-thread (o.threads offset) _ free-object

  free-in-records : o.records offset ≡ None
  free-in-records = free-record o.threads (waiting_of o memory offset) (o.threads offset) (o.records offset) free-object

  -- ---- a thread

  module _ (threads : ℕ → Option Thread) (new : Thread) (threaded : (other : ℕ) → threads other ≡ put (o.threads) offset (Some new) other)
      (is_new : thread_state new ≡ new_thread) where
    sends : (other : ℕ) → other ≢ offset → sending_in threads other ≡ sending_in o.threads other
    sends other apart = ap (option_and_then (λ t. t.sending)) (threaded other ∙ put-there (o.threads) offset (Some new) other apart)

    object-threaded : (other : ℕ) → object_in (record o { threads = threads }) (waiting_of o memory) other ≡ put (object_in o (waiting_of o memory)) offset
        (Some (ThreadObject new_thread)) other
    object-threaded other = elim (eqb_tells other offset) [
      | inl here ↦
          ap (λ t. object_from t (option_map (object_of threads (waiting_of o memory other)) (o.records other)))
          (threaded other ∙ ap (λ b. if b then Some new else o.threads other) here.0)
          ∙ ap (λ t. Some (ThreadObject t)) is_new ∙ ap (λ b. if b then Some (ThreadObject new_thread) else object_in o (waiting_of o memory) other)
          (sym here.0)
      | inr apart ↦
          ap (λ t. object_from t (option_map (object_of threads (waiting_of o memory other)) (o.records other)))
          (threaded other ∙ put-there (o.threads) offset (Some new) other apart.1)
          ∙ ap (object_from (o.threads other)) (other-same o.threads threads offset (waiting_of o memory other) (o.records other) sends (waits-not other))
          ∙ ap (λ b. if b then Some (ThreadObject new_thread) else object_in o (waiting_of o memory) other) (sym apart.0)
    ]

    pub begun-thread : (ready : ℕ → List ℕ) → state_with (record o { threads = threads }) (waiting_of o memory) ready slots memory
        ≡ begun (state_with o (waiting_of o memory) ready slots memory) memory kinds.Thread offset
    begun-thread ready = λ i. record (state_with o (waiting_of o memory) ready slots memory) { objects = λ other. object-threaded other i }

  -- ---- another object

  module _ (records : ℕ → Option Record) (kind : ObjectKind) (new : Record) (is : record_of kind ≡ Some new)
      (recorded : (other : ℕ) → records other ≡ put (o.records) offset (Some new) other) where
    object-recorded : (other : ℕ) → object_in (record o { records = records }) (waiting_of o memory) other ≡ put (object_in o (waiting_of o memory)) offset
        (Some (new_object kind)) other
    object-recorded other = elim (eqb_tells other offset) [
      | inl here ↦
          ap (λ t. object_from t (option_map (object_of o.threads (waiting_of o memory other)) (records other))) (ap (o.threads) here.1 ∙ free-in-threads)
          ∙ ap (option_map (object_of o.threads (waiting_of o memory other)))
          (recorded other ∙ ap (λ b. if b then Some new else o.records other) here.0)
          ∙ ap (λ l. Some (object_of o.threads l new))
          (ap (waiting_of o memory) here.1 ∙ no-queue)
          ∙ ap Some (new-record o.threads kind new is).0
          ∙ ap (λ b. if b then Some (new_object kind) else object_in o (waiting_of o memory) other) (sym here.0)
      | inr apart ↦
          ap (λ r. object_from (o.threads other) (option_map (object_of o.threads (waiting_of o memory other)) r))
          (recorded other ∙ put-there (o.records) offset (Some new) other apart.1)
          ∙ ap (λ b. if b then Some (new_object kind) else object_in o (waiting_of o memory) other) (sym apart.0)
    ]

    -- the byte of a place in what was put, or in what was there
    byte-new : (byte : ℕ) (b : Bool) → is_frame new ≡ b → (if b then Some byte else None) ≡ (if b && true then Some byte else None)
    byte-new byte true same = refl
    byte-new byte false same = refl

    byte-recorded : (place : ℕ) → byte_in records memory place
        ≡ (if is_frame_kind kind && (offset == frame_around place) then Some (slice_index memory place) else byte_in o.records memory place)
    byte-recorded place = elim (eqb_tells offset (frame_around place)) [
      | inl here ↦
          let now : records (frame_around place) ≡ Some new =
          ap (records) (sym here.1) ∙ recorded offset ∙ put-here (o.records) offset (Some new) in
          let was : o.records (frame_around place) ≡ None = ap (o.records) (sym here.1) ∙ free-in-records in
          ap (λ r. if option_map_or is_frame r false then Some (slice_index memory place) else None) now
          ∙ ap (λ b. if b then Some (slice_index memory place) else None) (new-record o.threads kind new is).1
          ∙ byte-new (slice_index memory place) (is_frame_kind kind) (new-record o.threads kind new is).1
          ∙ (λ i. if is_frame_kind kind && sym here.0 i then Some (slice_index memory place)
          else (if option_map_or is_frame (sym was i) false then Some (slice_index memory place) else None))
      | inr apart ↦
          ap (λ r. if option_map_or is_frame r false then Some (slice_index memory place) else None)
          (recorded (frame_around place) ∙ put-there (o.records) offset (Some new) (frame_around place) (λ same. apart.1 (sym same)))
          ∙ never (is_frame_kind kind) (Some (slice_index memory place)) (byte_in o.records memory place)
          ∙ ap (λ b. if is_frame_kind kind && b then Some (slice_index memory place) else byte_in o.records memory place) (sym apart.0)
    ]

    pub begun-record : (ready : ℕ → List ℕ) → state_with (record o { records = records }) (waiting_of o memory) ready slots memory
        ≡ begun (state_with o (waiting_of o memory) ready slots memory) memory kind offset
    begun-record ready = λ i. record (state_with o (waiting_of o memory) ready slots memory) {
      objects = λ other. object-recorded other i;
      bytes = λ place. byte-recorded place i;
    }
