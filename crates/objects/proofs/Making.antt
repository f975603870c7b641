-- A new object comes at an offset, in tables and bytes.
use Rattle.std.proofs.Common.{ℕ, ◌≡◌, ◌≢◌, ◌∙◌, ◌==◌, ◌+◌, ◌<◌, ◌≤◌, inl, inr, true, false, if◌then◌else◌, Option, Some, None, is_some, option_map, List}
use Rattle.std.proofs.Common.{length, refl, sym, ap, arith}
use Rattle.std.specs.Prelude.{slice_index}
use Rattle.std.specs.Option.{option_map_or}
use Rattle.std.proofs.lemmas.Bool.Decides.{eqb_tells}
use Rattle.model.specs.Capabilities.Slots.{Slots}
use Rattle.model.specs.Kernel.Kinds.{kind_of}
use Rattle.model.specs.Kernel.Retype.{NewThread}
use Rattle.model.specs.Kernel.State.{State, ThreadState, put}
use Rattle.model.specs.Shared.Bytes.{word_at}
use Rattle.objects.proofs.Beginning.{begun-record, begun-thread, record_of}
use Rattle.objects.proofs.Begun.{begun-bytes, begun-left}
use Rattle.objects.proofs.Holding.{Done, done, kind-state, kind-there, linked, thread-some}
use Rattle.objects.proofs.Kept.{put-there}
use Rattle.objects.proofs.Linked.{Linked}
use Rattle.objects.proofs.Parts.{replier-same, same-contents}
use Rattle.objects.proofs.Told.{in-point, in-thread, state_with}
use Rattle.objects.specs.Changes.{begun}
use Rattle.objects.specs.Contents as contents
use Rattle.objects.specs.Contents.{Contents, Record, Endpoint, Notification, CNode, Frame, PageTable, RootTable}
use Rattle.objects.specs.Frames.{IsInRecord, IsRoom, SameBesideObjects}
use Rattle.objects.specs.Laid.{AreThreadsPlaced, BegunAt}
use Rattle.objects.specs.Rights.{AreKnown, has_right}
use Rattle.objects.specs.Standing.{Standing}
use Rattle.objects.specs.Tables.{Tables, contents_of, entry_in, entry_of, kind_in, kind_of_entry, record_from, state_of, thread_from, thread_in}
use Rattle.model.specs.Kernel.ObjectTypes.{new_object}
use Rattle.objects.specs.Waiting.{has_waiting}
use Rattle.objects.specs.declared.records.Entry.{Entry}
use Rattle.objects.specs.declared.records.Entry.TheVariants as entries
use Rattle.model.specs.declared.object_types.ObjectKind.{ObjectKind}
use Rattle.model.specs.declared.object_types.ObjectKind.TheVariants as kinds
use Rattle.objects.specs.thread_records.Records as thread_words
use Rattle.objects.specs.declared.thread_records.records.Thread.{Thread}

nothing-entry : (e : Entry) → kind_of_entry e ≡ None → e ≡ entries.Nothing
nothing-entry entries.Nothing is = refl
nothing-entry entries.Thread is = absurd cc
nothing-entry entries.Endpoint is = absurd cc
nothing-entry entries.Notification is = absurd cc
nothing-entry (entries.CNode radix) is = absurd cc
nothing-entry entries.Frame is = absurd cc
nothing-entry entries.PageTable is = absurd cc
nothing-entry entries.RootTable is = absurd cc

module _ (o : Tables) (before after : Slots) (old new : List ℕ) (kind : ObjectKind) (offset : ℕ) (stands : Standing o before old) (same_slots : after ≡ before)
    (free : (state_of o before old).objects offset ≡ None) (room : IsRoom (state_of o before old) (kind_of (new_object kind)) offset)
    (entries_now : List Entry) (entered : (other : ℕ) → entry_in entries_now other ≡ put (entry_in o.entries) offset (entry_of kind) other)
    (bytes : BegunAt kind offset old new) (placed : AreThreadsPlaced entries_now (length new)) where
  abbrev s : State
  s = state_of o before old

  abbrev c : Contents
  c = contents_of o old

  abbrev m : Tables
  m = record o { entries = entries_now }

  abbrev e : Contents
  e = contents_of m new

  free-entry : entry_in o.entries offset ≡ entries.Nothing
  free-entry = nothing-entry (entry_in o.entries offset) (sym (kind-state o offset before old) ∙ ap (option_map kind_of) free)

  -- what is there keeps its record
  still : (place : ℕ) → IsInRecord s.objects place → slice_index new place ≡ slice_index old place
  still place held = bytes.bytes place (λ from below kept. room.records place (omega (arith, from)) below held)

  thread-byte : (thread : ℕ) → kind_in o thread ≡ Some NewThread → (place : ℕ) → thread + 48 ≤ place → place < thread + 512 →
      slice_index new place ≡ slice_index old place
  thread-byte thread is place from below = still place (in-thread s thread place (kind-state o thread before old ∙ is) from below)

  same : contents_of o new ≡ c
  same = same-contents o old new
      (λ thread is place part. thread-byte thread is place (omega (arith, part.0)) (omega (arith, part.1)))
      (λ queue waits place part.
      still place (in-point s queue place (ap has_waiting (kind-state o queue before old) ∙ waits) (omega (arith, part.0)) (omega (arith, part.1))).0)

  threads-put : (other : ℕ) → e.threads other ≡ put c.threads offset (thread_from (entry_of kind) (thread_words.thread_at new offset)) other
  threads-put other = elim (eqb_tells other offset) [
    | inl here ↦
        ap (λ (x : Entry). thread_from x (thread_words.thread_at new other))
        (entered other ∙ ap (λ b. if b then entry_of kind else entry_in o.entries other) here.0)
        ∙ ap (λ (n : ℕ). thread_from (entry_of kind) (thread_words.thread_at new n)) here.1
        ∙ sym (ap (λ b. if b then thread_from (entry_of kind) (thread_words.thread_at new offset) else c.threads other) here.0)
    | inr apart ↦
        ap (λ (x : Entry). thread_from x (thread_words.thread_at new other))
        (entered other ∙ put-there (entry_in o.entries) offset (entry_of kind) other apart.1)
        ∙ ap (λ (x : Contents). x.threads other) same
        ∙ sym (put-there c.threads offset (thread_from (entry_of kind) (thread_words.thread_at new offset)) other apart.1)
  ]

  records-put : (other : ℕ) → e.records other ≡ put c.records offset (record_from (entry_of kind) (word_at new (offset + 8))) other
  records-put other = elim (eqb_tells other offset) [
    | inl here ↦
        ap (λ (x : Entry). record_from x (word_at new (other + 8))) (entered other ∙ ap (λ b. if b then entry_of kind else entry_in o.entries other) here.0)
        ∙ ap (λ (n : ℕ). record_from (entry_of kind) (word_at new (n + 8))) here.1
        ∙ sym (ap (λ b. if b then record_from (entry_of kind) (word_at new (offset + 8)) else c.records other) here.0)
    | inr apart ↦
        ap (λ (x : Entry). record_from x (word_at new (other + 8))) (entered other ∙ put-there (entry_in o.entries) offset (entry_of kind) other apart.1)
        ∙ ap (λ (x : Contents). x.records other) same
        ∙ sym (put-there c.records offset (record_from (entry_of kind) (word_at new (offset + 8))) other apart.1)
  ]

  -- nothing put where nothing was is nothing
  put-nothing : {A : Type 0} (f : ℕ → Option A) → f offset ≡ None → (other : ℕ) → put f offset None other ≡ f other
  put-nothing {A} f none other = elim (eqb_tells other offset) [
    | inl here ↦ ap (λ b. if b then None else f other) here.0 ∙ sym (ap f here.1 ∙ none)
    | inr apart ↦ put-there f offset None other apart.1
  ]

  no-thread : c.threads offset ≡ None
  no-thread = ap (λ (x : Entry). thread_from x (thread_words.thread_at old offset)) free-entry

  no-record : c.records offset ≡ None
  no-record = ap (λ (x : Entry). record_from x (word_at old (offset + 8))) free-entry

  links : Linked c before old
  links = linked o before old stands

  abbrev Begins : Type 0
  Begins = (ready : ℕ → List ℕ) → state_with e (contents.waiting_of c old) ready before old ≡ begun (state_with c (contents.waiting_of c old) ready before old)
      old kind offset

  as-thread : kind ≡ kinds.Thread → Begins
  unfolding state_of
  as-thread is ready =
      let threads : (other : ℕ) → e.threads other ≡ put c.threads offset (Some (thread_words.thread_at new offset)) other = λ other.
      threads-put other ∙ ap (λ (k : ObjectKind). put c.threads offset (thread_from (entry_of k) (thread_words.thread_at new offset)) other) is in
      let records : (other : ℕ) → e.records other ≡ c.records other = λ other.
      records-put other ∙ ap (λ (k : ObjectKind). put c.records offset (record_from (entry_of k) (word_at new (offset + 8))) other) is
      ∙ put-nothing c.records no-record other in
      (λ i. state_with (record e { records = λ other. records other i }) (contents.waiting_of c old) ready before old)
      ∙ begun-thread c before old offset links free e.threads (thread_words.thread_at new offset) threads (bytes.thread is) ready
      ∙ ap (λ (k : ObjectKind). begun (state_with c (contents.waiting_of c old) ready before old) old k offset) (sym is)

  as-record : (r : Record) → record_of kind ≡ Some r → thread_from (entry_of kind) (thread_words.thread_at new offset) ≡ None
      → record_from (entry_of kind) (word_at new (offset + 8)) ≡ Some r → Begins
  unfolding state_of
  as-record r made none held ready =
      let threads : (other : ℕ) → e.threads other ≡ c.threads other = λ other.
      threads-put other ∙ ap (λ (t : Option Thread). put c.threads offset t other) none ∙ put-nothing c.threads no-thread other in
      let records : (other : ℕ) → e.records other ≡ put c.records offset (Some r) other = λ other.
      records-put other ∙ ap (λ (x : Option Record). put c.records offset x other) held in
      (λ i. state_with (record e { threads = λ other. threads other i }) (contents.waiting_of c old) ready before old)
      ∙ begun-record c before old offset links free e.records kind r made records ready

  abbrev fresh : ObjectKind → Option Thread
  fresh k = thread_from (entry_of k) (thread_words.thread_at new offset)

  abbrev held : ObjectKind → ℕ → Option Record
  held k word = record_from (entry_of k) word

  abbrev word : ℕ
  word = word_at new (offset + 8)

  begins : Begins
  begins = elim kind as (λ k. kind ≡ k → Begins) [
    | kinds.Thread ↦ λ is. as-thread is
    | kinds.Endpoint ↦ λ is. as-record Endpoint (ap record_of is) (ap fresh is) (ap (λ k. held k word) is)
    | kinds.Notification ↦ λ is. as-record (Notification 0) (ap record_of is) (ap fresh is)
        (ap (λ k. held k word) is ∙ ap (λ (w : ℕ). Some (Notification w))
        (bytes.word (ap (λ (k : ObjectKind). has_waiting (Some (kind_of (new_object k)))) is)))
    | kinds.CNode radix ↦ λ is. as-record (CNode radix) (ap record_of is) (ap fresh is) (ap (λ k. held k word) is)
    | kinds.Frame ↦ λ is. as-record Frame (ap record_of is) (ap fresh is) (ap (λ k. held k word) is)
    | kinds.PageTable ↦ λ is. as-record PageTable (ap record_of is) (ap fresh is) (ap (λ k. held k word) is)
    | kinds.RootTable ↦ λ is. as-record RootTable (ap record_of is) (ap fresh is) (ap (λ k. held k word) is)
  ] refl

  -- ---- rights

  no-right : (caller : ℕ) → has_right (fresh kind) caller ≡ false
  no-right caller = elim kind as (λ k. kind ≡ k → has_right (fresh kind) caller ≡ false) [
    | kinds.Thread ↦ λ is.
        ap (λ (k : ObjectKind). has_right (fresh k) caller) is
        ∙ ap (λ (t : ThreadState). option_map_or (λ x. x == caller) t.caller false) (bytes.thread is)
    | kinds.Endpoint ↦ λ is. ap (λ (k : ObjectKind). has_right (fresh k) caller) is
    | kinds.Notification ↦ λ is. ap (λ (k : ObjectKind). has_right (fresh k) caller) is
    | kinds.CNode radix ↦ λ is. ap (λ (k : ObjectKind). has_right (fresh k) caller) is
    | kinds.Frame ↦ λ is. ap (λ (k : ObjectKind). has_right (fresh k) caller) is
    | kinds.PageTable ↦ λ is. ap (λ (k : ObjectKind). has_right (fresh k) caller) is
    | kinds.RootTable ↦ λ is. ap (λ (k : ObjectKind). has_right (fresh k) caller) is
  ] refl

  was : (caller holder : ℕ) → has_right (e.threads holder) caller ≡ true → has_right (c.threads holder) caller ≡ true
  was caller holder right = elim (eqb_tells holder offset) [
    | inl here ↦
        absurd (let clash : false ≡ true =
        sym (ap (λ (t : Option Thread). has_right t caller) (threads-put holder ∙ ap (λ b. if b then fresh kind else c.threads holder) here.0)
        ∙ no-right caller) ∙ right in cc)
    | inr apart ↦ sym (ap (λ (t : Option Thread). has_right t caller) (threads-put holder ∙ put-there c.threads offset (fresh kind) holder apart.1)) ∙ right
  ]

  called : (caller holder : ℕ) → has_right (c.threads holder) caller ≡ true → entry_in o.entries caller ≡ entries.Thread
  called caller holder right = thread-some o old caller (stands.rights.there caller holder right)

  elsewhere : (caller : ℕ) → entry_in o.entries caller ≡ entries.Thread → caller ≢ offset
  elsewhere caller is at =
      let clash : entries.Nothing ≡ entries.Thread = sym free-entry ∙ ap (entry_in o.entries) (sym at) ∙ is in absurd cc

  known : AreKnown (thread_in m new) new
  known = record {
    there = λ caller holder right.
        let right' = was caller holder right in
        ap is_some (threads-put caller ∙ put-there c.threads offset (fresh kind) caller (elsewhere caller (called caller holder right')))
        ∙ stands.rights.there caller holder right';
    only = λ caller holder thread right is.
        let right' = was caller holder right in
        let there = kind-there o caller (called caller holder right') in
        stands.rights.only caller holder thread right'
        (sym (replier-same old new caller (λ place part. thread-byte caller there place (omega (arith, part.0)) (omega (arith, part.1)))) ∙ is);
  }

  pub begin-done : Done m after new (begun s old kind offset)
  unfolding state_of
  begin-done = done m after new (begun s old kind offset) placed
      (begun-left c e before after old new kind offset links same_slots free room refl begins bytes.size bytes.bytes bytes.unlinked bytes.unwaited) known

  pub begin-bytes : SameBesideObjects (state_of m after new) old new
  unfolding state_of
  begin-bytes = begun-bytes c e before after old new kind offset links same_slots free room refl begins bytes.size bytes.bytes bytes.unlinked bytes.unwaited
