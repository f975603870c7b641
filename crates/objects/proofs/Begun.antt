-- The invariant of objects is kept where objects end, wake and begin.
use Rattle.std.proofs.Common.{ℕ, ◌≡◌, ◌≢◌, ◌∙◌, ◌==◌, ◌+◌, ◌/◌, ◌^◌, ◌<◌, ◌≤◌, ◌⊎◌, ◌&&◌, inl, inr, Bool, true, false, if◌then◌else◌, Option, Some, None}
use Rattle.std.proofs.Common.{IsSome, option_map, List, length, refl, sym, ap, subst, arith}
use Rattle.std.specs.Prelude.{slice_index}
use Rattle.std.specs.Option.{option_map_or}
use Rattle.std.proofs.lemmas.Bool.Decides.{eqb_tells}
use Rattle.model.specs.Capabilities.Slots.{IsOpen, Slots}
use Rattle.model.specs.Kernel.AddressSpaces.{page_size}
use Rattle.model.specs.Kernel.Kinds.{frame_around, kind_at, kind_of}
use Rattle.model.specs.Kernel.Retype.{NewObject, NewUntyped, NewThread, NewEndpoint, NewNotification, NewCNode, NewFrame, NewPageTable, NewRootTable}
use Rattle.model.specs.Kernel.Retype.{object_bits}
use Rattle.model.specs.Kernel.Scheduling.{full_slice, wake}
use Rattle.model.specs.Kernel.State.{Object, Runnable, State, ThreadObject, EndpointObject, NotificationObject, CNodeObject, FrameObject, PageTableObject}
use Rattle.model.specs.Kernel.State.{RootTableObject, as_thread, put, thread_at}
use Rattle.model.specs.declared.slot_entries.Entry.{Entry}
use Rattle.objects.proofs.Frames.{Unmoved, kind-put, same-state}
use Rattle.objects.specs.Changes.{begun, is_frame_kind}
use Rattle.objects.specs.Frames.{FitsMemory, IsInRecord, IsRoom, SameBesideObjects, has_record, has_slots, slot_bytes}
use Rattle.objects.proofs.Following.{follows-bytes}
use Rattle.objects.proofs.Kept.{put-here, put-there}
use Rattle.objects.proofs.Stepping.{Left}
use Rattle.objects.proofs.Told.{has-head, has-thread, in-point, in-thread, kind-state, kind-with, state_with, told}
use Rattle.objects.proofs.Linked.{Linked}
use Rattle.objects.specs.Waiting.{has_waiting}
use Rattle.queues.specs.Laws.{KeepHeads, KeepThreads}
use Rattle.queues.specs.Layout.{Places}
use Rattle.queues.specs.Ready.{ReadyStands, ready_of}
use Rattle.queues.specs.Words.{end_at, end_of, link_at, link_in}
use Rattle.queues.specs.declared.words.Ends.{Ends}
use Rattle.queues.proofs.Laws.{ready_stays, waiting_stays}
use Rattle.objects.specs.Contents.{Contents, byte_in, is_thread_kind, kind_in, places_of, ready_at, contents_state, waiting_of}
use Rattle.model.specs.Kernel.ObjectTypes.{new_object}
use Rattle.model.specs.declared.object_types.ObjectKind.{ObjectKind}
use Rattle.model.specs.declared.object_types.ObjectKind.TheVariants as kinds
use Rattle.removal_laws.specs.Finishing.{is_stranded, waits_nowhere}

-- ---- threads that wake

stranded-kind : (o : Option Object) (s : State) → option_map_or (λ t. waits_nowhere s t.status) (as_thread o) false ≡ true →
    option_map kind_of o ≡ Some NewThread
stranded-kind (Some (ThreadObject t)) s is = refl
stranded-kind None s is = absurd (let clash : false ≡ true = is in cc)
stranded-kind (Some (EndpointObject e)) s is = absurd (let clash : false ≡ true = is in cc)
stranded-kind (Some (NotificationObject n)) s is = absurd (let clash : false ≡ true = is in cc)
stranded-kind (Some (CNodeObject radix)) s is = absurd (let clash : false ≡ true = is in cc)
stranded-kind (Some FrameObject) s is = absurd (let clash : false ≡ true = is in cc)
stranded-kind (Some PageTableObject) s is = absurd (let clash : false ≡ true = is in cc)
stranded-kind (Some RootTableObject) s is = absurd (let clash : false ≡ true = is in cc)

-- one that is stranded wakes
pub woken-one : (s : State) (place : ℕ) → Unmoved s (if is_stranded s place then wake s place else s)
woken-one s place = elim (is_stranded s place) as (λ b. is_stranded s place ≡ b → Unmoved s (if b then wake s place else s)) [
  | true ↦ λ is. record {
    kinds = kind-put s.objects place (ThreadObject (record (thread_at s place) { status = Runnable; slice = full_slice }))
        (stranded-kind (s.objects place) s is);
    bytes = refl;
    slots = refl;
    bits = refl;
  }
  | false ↦ λ is. same-state s
] refl

-- ---- an object begins

record-slots : (k : NewObject) → has_record k ≡ true → has_slots k ≡ false
record-slots NewThread kept = refl
record-slots NewEndpoint kept = refl
record-slots NewNotification kept = refl
record-slots (NewUntyped bits) kept = refl
record-slots (NewCNode radix) kept = absurd (let clash : false ≡ true = kept in cc)
record-slots NewFrame kept = refl
record-slots NewPageTable kept = refl
record-slots NewRootTable kept = refl

-- what a frame is, as an object
record IsPage (k : NewObject) : Type 0 where
  bits : 2 ^ object_bits k ≡ page_size
  slots : has_slots k ≡ false
  before : slot_bytes k ≡ 0
  records : has_record k ≡ false

frame-page : (k : ObjectKind) → is_frame_kind k ≡ true → IsPage (kind_of (new_object k))
frame-page kinds.Frame is = record { bits = refl; slots = refl; before = refl; records = refl }
frame-page kinds.Thread is = absurd (let clash : false ≡ true = is in cc)
frame-page kinds.Endpoint is = absurd (let clash : false ≡ true = is in cc)
frame-page kinds.Notification is = absurd (let clash : false ≡ true = is in cc)
frame-page (kinds.CNode radix) is = absurd (let clash : false ≡ true = is in cc)
frame-page kinds.PageTable is = absurd (let clash : false ≡ true = is in cc)
frame-page kinds.RootTable is = absurd (let clash : false ≡ true = is in cc)

-- whether a new frame is around a place
framed-if : (b : Bool) (place offset : ℕ) → (b && (offset == frame_around place)) ≡ true → (b ≡ true) × (offset ≤ place) × (place < offset + page_size)
framed-if false place offset is = absurd (let clash : false ≡ true = is in cc)
framed-if true place offset is = elim (eqb_tells offset (frame_around place)) [
  | inl here ↦ (refl, omega (arith, here.1), omega (arith, here.1))
  | inr apart ↦ absurd (let clash : true ≡ false = sym is ∙ apart.0 in cc)
]

module _ (s : State) (memory : List ℕ) (kind : ObjectKind) (offset : ℕ) (fits : FitsMemory s memory) (room : IsRoom s (kind_of (new_object kind)) offset) where
  abbrev k : NewObject
  k = kind_of (new_object kind)

  abbrev after : ℕ → Option Object
  after = put s.objects offset (Some (new_object kind))

  -- a record was there, or it is the new object's
  record-after : (place : ℕ) (held : IsInRecord after place)
      → ((was : IsInRecord s.objects place) × (was.offset ≡ held.offset))
      ⊎ ((has_record k ≡ true) × (offset + slot_bytes k ≤ place) × (place < offset + 2 ^ object_bits k) × (held.offset ≡ offset))
  record-after place held = elim (eqb_tells held.offset offset) [
    | inl here ↦
        let same : Some k ≡ Some held.kind = sym (ap (λ (b : Bool). option_map kind_of (if b then Some (new_object kind) else s.objects held.offset)) here.0)
        ∙ held.there in
        let is : held.kind ≡ k = cc in
        let from = held.from in
        let below = held.below in
        let slots : slot_bytes held.kind ≡ slot_bytes k = ap slot_bytes is in
        let size : 2 ^ object_bits held.kind ≡ 2 ^ object_bits k = ap (λ (n : NewObject). 2 ^ object_bits n) is in
        let at = here.1 in
        inr (sym (ap has_record is) ∙ held.kept, omega (arith, from, slots, at), omega (arith, below, size, at), at)
    | inr apart ↦ inl (
      record {
        offset = held.offset;
        kind = held.kind;
        there = sym (ap (λ (b : Bool). option_map kind_of (if b then Some (new_object kind) else s.objects held.offset)) apart.0) ∙ held.there;
        kept = held.kept;
        from = held.from;
        below = held.below;
      },
      refl,
    )
  ]

  closed : (place : ℕ) → IsOpen s.slots (place / 16) → s.slots (place / 16) ≡ None → ⊥
  closed place is_open none = let clash : false ≡ true = subst (λ (e : Option Entry). IsSome e) none is_open in absurd cc

  pub bytes-after : (place : ℕ) → ((is_frame_kind kind && (offset == frame_around place)) ≡ true → ⊥) → s.bytes place ≡ None →
      (begun s memory kind offset).bytes place ≡ None
  bytes-after place apart none =
      elim (is_frame_kind kind && (offset == frame_around place)) as (λ b. (is_frame_kind kind && (offset == frame_around place)) ≡ b
      → (if b then Some (slice_index memory place) else s.bytes place) ≡ None) [
        | true ↦ λ is. absurd (apart is)
        | false ↦ λ is. none
      ] refl

  pub begun-fits : FitsMemory (begun s memory kind offset) memory
  begun-fits = record {
    size = fits.size;
    frames = λ place is_open. bytes-after place (λ is.
        let framed = framed-if (is_frame_kind kind) place offset is in
        let page = frame-page kind framed.0 in
        let bits = page.bits in
        let before = page.before in
        let low = framed.1 in
        let high = framed.2 in
        closed place is_open (room.slots place (omega (arith, before, low)) (omega (arith, bits, high)) page.slots)) (fits.frames place is_open);
    records = λ place is_open held. elim (record-after place held) [
      | inl was ↦ fits.records place is_open was.0
      | inr new ↦ closed place is_open (room.slots place new.1 new.2 (record-slots k new.0))
    ];
    apart = λ place held. elim (record-after place held) [
      | inl was ↦ bytes-after place (λ is.
          let framed = framed-if (is_frame_kind kind) place offset is in
          let bits = (frame-page kind framed.0).bits in
          let high = framed.2 in
          room.records place framed.1 (omega (arith, bits, high)) was.0) (fits.apart place was.0)
      | inr new ↦
          let from = new.1 in
          bytes-after place (λ is.
          let framed = framed-if (is_frame_kind kind) place offset is in
          let clash : true ≡ false = sym new.0 ∙ (frame-page kind framed.0).records in absurd cc) (room.frames place (omega (arith, from)) new.2)
    ];
    alone = λ place one two. elim (record-after place one) [
      | inl was ↦ elim (record-after place two) [
        | inl was' ↦ sym was.1 ∙ fits.alone place was.0 was'.0 ∙ was'.1
        | inr new ↦ let from = new.1 in absurd (room.records place (omega (arith, from)) new.2 was.0)
      ]
      | inr new ↦ elim (record-after place two) [
        | inl was' ↦ let from = new.1 in absurd (room.records place (omega (arith, from)) new.2 was'.0)
        | inr new' ↦ new.3 ∙ sym new'.3
      ]
    ];
  }

-- ---- the invariant of objects is kept

module _ (o n : Contents) (before after : Slots) (old new : List ℕ) (kind : ObjectKind) (offset : ℕ) (stands : Linked o before old)
    (same_slots : after ≡ before)
    (free : (contents_state o before old).objects offset ≡ None) (room : IsRoom (contents_state o before old) (kind_of (new_object kind)) offset)
    (same_ready : n.ready ≡ o.ready)
    (begins : (ready : ℕ → List ℕ) → state_with n (waiting_of o old) ready before old ≡ begun (state_with o (waiting_of o old) ready before old) old kind
    offset)
    (size : length new ≡ length old)
    (same : (place : ℕ) → (offset + slot_bytes (kind_of (new_object kind)) ≤ place → place < offset + 2 ^ object_bits (kind_of (new_object kind))
    → has_record (kind_of (new_object kind)) ≡ true → ⊥) → slice_index new place ≡ slice_index old place)
    (unlinked : is_thread_kind (Some (kind_of (new_object kind))) ≡ true → (link_at 244 new offset 0 ≡ None) × (link_at 256 new offset 0 ≡ None))
    (unwaited : has_waiting (Some (kind_of (new_object kind))) ≡ true → (i : ℕ) → i < 2 → end_at new offset i ≡ None) where
  abbrev u : State
  u = contents_state o before old

  abbrev q : NewObject
  q = kind_of (new_object kind)

  abbrev t : State
  t = begun u old kind offset

  abbrev p : Places
  p = places_of o

  kinds-now : (other : ℕ) → kind_in n other ≡ kind_at t other
  kinds-now other =
      sym (kind-with n (waiting_of o old) (ready_at o old) before old other) ∙ ap (λ (x : State). kind_at x other) (begins (ready_at o old))
      ∙ ap (λ (x : State). kind_at (begun x old kind offset) other) (sym (told o before old))

  kind-other : (other : ℕ) → other ≢ offset → kind_in n other ≡ kind_in o other
  kind-other other differs = kinds-now other ∙ ap (option_map kind_of) (put-there u.objects offset (Some (new_object kind)) other differs)
      ∙ kind-state o other before old

  kind-new : kind_in n offset ≡ Some q
  kind-new = kinds-now offset ∙ ap (option_map kind_of) (put-here u.objects offset (Some (new_object kind)))

  kind-old : kind_in o offset ≡ None
  kind-old = sym (kind-state o offset before old) ∙ ap (option_map kind_of) free

  -- bytes of other records are the same
  same-record : (place : ℕ) → IsInRecord u.objects place → slice_index new place ≡ slice_index old place
  same-record place held = same place (λ from below kept. room.records place (omega (arith, from)) below held)

  if-none : (b : Bool) (x : Option ℕ) → (b ≡ true → x ≡ None) → (if b then x else None) ≡ None
  if-none true x none = none refl
  if-none false x none = refl

  keep : (base : ℕ) → 48 ≤ base → base ≤ 256 → (is_thread_kind (Some q) ≡ true → link_at base new offset 0 ≡ None) → KeepThreads base p (places_of n) old new
  keep base least most none thread = elim (eqb_tells thread offset) [
    | inl here ↦ inr (record {
      was = ap (link_in base p.threads old 0) here.1 ∙ ap (λ (k : Option NewObject). if is_thread_kind k then link_at base old offset 0 else None) kind-old;
      now = ap (link_in base (places_of n).threads new 0) here.1
          ∙ ap (λ (k : Option NewObject). if is_thread_kind k then link_at base new offset 0 else None) kind-new
          ∙ if-none (is_thread_kind (Some q)) (link_at base new offset 0) none;
    })
    | inr apart ↦ inl (record {
      there = ap is_thread_kind (kind-other thread apart.1);
      bytes = λ is place held.
          same-record place (in-thread u thread place (kind-state o thread before old ∙ has-thread o thread is) (omega (arith, least, held.0))
          (omega (arith, most, held.1)));
    })
  ]

  keep-waits : KeepThreads 244 p (places_of n) old new
  keep-waits = keep 244 (omega arith) (omega arith) (λ is. (unlinked is).0)

  keep-runs : KeepThreads 256 p (places_of n) old new
  keep-runs = keep 256 (omega arith) (omega arith) (λ is. (unlinked is).1)

  no-end : (b : Bool) (i : ℕ) → (b ≡ true → end_at new offset i ≡ None) → end_of new i (if b then Some offset else None) ≡ None
  no-end true i none = none refl
  no-end false i none = refl

  keep-heads : KeepHeads p (places_of n) old new
  keep-heads queue = elim (eqb_tells queue offset) [
    | inl here ↦ inr (record {
      was = λ i low. ap (λ (x : ℕ). end_of old i (p.heads x)) here.1
          ∙ ap (λ (x : Option NewObject). end_of old i (if has_waiting x then Some offset else None)) kind-old;
      now = λ i low. ap (λ (x : ℕ). end_of new i ((places_of n).heads x)) here.1
          ∙ ap (λ (x : Option NewObject). end_of new i (if has_waiting x then Some offset else None)) kind-new
          ∙ no-end (has_waiting (Some q)) i (λ is. unwaited is i low);
    })
    | inr apart ↦ inl (record {
      there = ap (λ (x : Option NewObject). if has_waiting x then Some queue else None) (kind-other queue apart.1);
      bytes = λ head place is held.
          let at = has-head o queue head is in
          same-record place (in-point u queue place (ap has_waiting (kind-state o queue before old) ∙ at.0) (omega (arith, held.0, at.1))
          (omega (arith, held.1, at.1))).0;
    })
  ]

  waits_now : (queue : ℕ) → waiting_of n new queue ≡ waiting_of o old queue
  waits_now = waiting_stays.queues p (places_of n) old new size keep-waits keep-heads stands.waiting

  ready-was : ReadyStands p n.ready old
  ready-was = subst (λ (e : List Ends). ReadyStands p e old) (sym same_ready) stands.ready

  runs_now : (priority : ℕ) → ready_at n new priority ≡ ready_at o old priority
  runs_now priority = ready_stays.queues p (places_of n) n.ready old new size keep-runs ready-was priority
      ∙ ap (λ (e : List Ends). ready_of p e old priority) same_ready

  now-with : state_with n (waiting_of n new) (ready_at n new) before old ≡ t
  now-with =
      (λ i. state_with n (λ queue. waits_now queue i) (λ priority. runs_now priority i) before old) ∙ begins (ready_at o old)
      ∙ ap (λ (x : State). begun x old kind offset) (sym (told o before old))

  -- what is written is in no frame
  frames-same : (place byte : ℕ) → byte_in n.records old place ≡ Some byte → slice_index new place ≡ slice_index old place
  frames-same place byte some = same place (λ from below kept.
      let none : t.bytes place ≡ None = bytes-after u old kind offset stands.fits room place (λ is.
      let framed = framed-if (is_frame_kind kind) place offset is in
      let clash : true ≡ false = sym kept ∙ (frame-page kind framed.0).records in absurd cc) (room.frames place (omega (arith, from)) below) in
      let clash : None ≡ Some byte = sym none ∙ sym (ap (λ (x : State). x.bytes place) now-with) ∙ some in absurd cc)

  now-state : contents_state n after new ≡ t
  now-state = follows-bytes n before old new after frames-same ∙ ap (λ (f : Slots). state_with n (waiting_of n new) (ready_at n new) f old) same_slots
      ∙ now-with

  pub begun-left : Left n after new t
  begun-left =
      let fits = begun-fits u old kind offset stands.fits room in
      record {
        state = now-state;
        stands = record {
          fits = subst (λ (x : State). FitsMemory x new) (sym now-state)
              (record { size = fits.size ∙ sym size; frames = fits.frames; records = fits.records; apart = fits.apart; alone = fits.alone });
          waiting = waiting_stays.stands p (places_of n) old new size keep-waits keep-heads stands.waiting;
          ready = ready_stays.stands p (places_of n) n.ready old new size keep-runs ready-was;
        };
      }

  pub begun-bytes : SameBesideObjects (contents_state n after new) old new
  begun-bytes = record {
    size = size;
    bytes = λ place outside. same place (λ from below kept.
        elim (outside offset q (ap (λ (x : State). kind_at x offset) now-state ∙ ap (option_map kind_of) (put-here u.objects offset (Some (new_object kind))))
        kept) [
          | inl earlier ↦ absurd (omega (arith, from, earlier))
          | inr behind ↦ absurd (omega (arith, below, behind))
        ]);
  }
