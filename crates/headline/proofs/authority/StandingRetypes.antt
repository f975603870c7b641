-- A Retype that the rules allow stays within authority, where a thread's slots hold what is noted: new objects lie in the unused part of a
-- pool of its own, where nothing was, and their capabilities are in empty slots of its own.
use Rattle.std.proofs.Common.{ℕ, zero, suc, ◌≡◌, ◌≢◌, ◌∙◌, ◌==◌, ◌+◌, ◌-◌, ◌*◌, ◌/◌, ◌%◌, ◌^◌, ◌<◌, ◌≤◌, ◌&&◌, ◌||◌, inl, inr, Bool, true, false, if◌then◌else◌}
use Rattle.std.proofs.Common.{Option, Some, None, option_map, Ok, List, [], map, refl, sym, ap, subst, arith}
use Rattle.std.specs.List.{list_any, range_with_len}
use Rattle.std.specs.Option.{option_map_or}
use Rattle.std.proofs.lemmas.Bool.{and_parts, eq-eqb, eqb-true, not-false}
use Rattle.soundness.proofs.Laws.{empty-capability, some-place}
use Rattle.typestate.specs.Calls.{call_on}
use Rattle.headline.specs.invocations.Mirrors.{Mirrors}
use Rattle.headline.specs.invocations.Performed.{MayInvoke}
use Rattle.model.specs.declared.capabilities.Cap.{Cap}
use Rattle.model.specs.declared.capabilities.Cap.TheVariants.{Empty, Untyped}
use Rattle.model.specs.declared.invocations.Invocation.TheVariants.{OnUntyped}
use Rattle.model.specs.declared.invocations.RetypeCall.{RetypeCall}
use Rattle.model.specs.declared.invocations.UntypedMemory.{UntypedMemory}
use Rattle.model.specs.declared.slot_entries.Entry.{Entry}
use Rattle.model.specs.Acceptance.Authority.{ByteChange, comes_with_frame, Granted, appeared, Holds, IsOwnSlot, IsUntypedAround, NewParent, own as own_parent}
use Rattle.model.specs.Acceptance.Authority.{ObjectChange, appears, RightChange, kept, SliceChange, same_slice, UsedChange, uses, WithinAuthority, without_use}
use Rattle.model.specs.Acceptance.CallRules.{may_make}
use Rattle.model.specs.Acceptance.NotedKernel.{noted_root}
use Rattle.model.specs.Acceptance.NotedStates.{NotedSlot}
use Rattle.model.specs.Acceptance.ThreadInvariants.{tcb_of}
use Rattle.model.specs.Capabilities.CapabilityKinds.{frame_mapping, table_mapping}
use Rattle.model.specs.Capabilities.Slots.{capability_at, is_full, is_empty, is_within, parent_at}
use Rattle.model.specs.Images.Described.{Numbered}
use Rattle.model.specs.Images.Image.{Image}
use Rattle.model.specs.Kernel.Invocations.{perform}
use Rattle.model.specs.Kernel.Kinds.{Names, frame_around, kind_at, kind_of}
use Rattle.model.specs.Kernel.Retype.{NewObject, NewUntyped, NewThread, NewEndpoint, NewNotification, NewCNode, NewFrame, NewPageTable, NewRootTable}
use Rattle.model.specs.Kernel.Retype.{NewObjects}
use Rattle.model.specs.Kernel.Retype.{first_capability, is_frame, object, object_bits, place_of_new, size_of, some_new}
use Rattle.model.specs.Kernel.Soundness.{awaits_answer}
use Rattle.model.specs.Kernel.State.{State, Object, ThreadObject, EndpointObject, NotificationObject, ThreadState, as_thread, new_thread}
use Rattle.model.specs.Kernel.Steps.{named_slot}
use Rattle.model.specs.Shared.Lists.{without}
use Rattle.headline.proofs.facts.Laws.{at-place}
use Rattle.headline.proofs.invocations.NewKinds.{IsMade, may-made}
use Rattle.headline.proofs.invocations.NewMemory.{not-there, place-behind, within-parts}
use Rattle.headline.proofs.invocations.NewSlots.{as_before, as_new, as_pool, index-of}
use Rattle.headline.proofs.invocations.RetypeParts.{Asked, counted, made_of, objects_of, retype-found, window_of}
use Rattle.headline.proofs.invocations.RetypeSlots.{Making, Place, before-same, held_by, in-window, new-held, new-parent, parent_by, place-of, pool-held}
use Rattle.headline.proofs.invocations.RetypeSlots.{pool-parent}
use Rattle.headline.proofs.invocations.RetypeWell.{lies, making as making_of, stays, unused}
use Rattle.headline.proofs.authority.FurtherUsed.{used-further}
use Rattle.headline.proofs.authority.MadeEndpoints.{outside-window}
use Rattle.headline.proofs.authority.PlainSteps.{append-none, between, one-used}
use Rattle.headline.proofs.authority.PoolsKept.{PoolsIn}

-- ---- numbers

map-some : (test : ℕ → Bool) (f : ℕ → ℕ) (from count i : ℕ) → i < count → test (f (from + i)) ≡ true → list_any test (map f (range_with_len from count)) ≡ true
map-some test f from zero i less is = absurd (omega (arith, less))
map-some test f from (suc n) zero less is =
    ap (λ (b : Bool). b || list_any test (map f (range_with_len (from + 1) n))) (subst (λ (k : ℕ). test (f k) ≡ true) (omega arith) is)
map-some test f from (suc n) (suc i) less is =
    ap (λ (b : Bool). test (f from) || b) (map-some test f (from + 1) n i (omega (arith, less)) (subst (λ (k : ℕ). test (f k) ≡ true) (omega arith) is))
    ∙ elim (test (f from)) as (λ (b : Bool). (b || true) ≡ true) [ true ↦ refl | false ↦ refl ]

-- the frame around a byte of frames that lie one after another
record InFrame (first count place : ℕ) : Type 0 where
  pub less : (place - first) / 4096 < count
  pub around : first + (place - first) / 4096 * 4096 ≡ place - place % 4096

in-frame : (first count place : ℕ) → first % 4096 ≡ 0 → first ≤ place → place < first + count * 4096 → InFrame first count place
in-frame first count place whole low high = record { less = omega (arith, whole, low, high); around = omega (arith, whole, low, high) }

-- ---- new objects and their first capabilities

first-no_table : (kind : NewObject) (offset : ℕ) → table_mapping (first_capability kind offset) ≡ None
first-no_table (NewUntyped bits) offset = refl
first-no_table NewThread offset = refl
first-no_table NewEndpoint offset = refl
first-no_table NewNotification offset = refl
first-no_table (NewCNode radix) offset = refl
first-no_table NewFrame offset = refl
first-no_table NewPageTable offset = refl
first-no_table NewRootTable offset = refl

-- what is an object has its type, and its first capability names it
record IsThere (kind : NewObject) : Type 0 where
  pub kind_is : option_map kind_of (object kind) ≡ Some kind
  pub names : (offset : ℕ) → Names kind offset (first_capability kind offset)

is-there : (kind : NewObject) (new : Object) → object kind ≡ Some new → IsThere kind
is-there (NewUntyped bits) new there = absurd (let clash : ◌≡◌ {A = Option Object} None (Some new) = there in cc)
is-there NewThread new there = record { kind_is = refl; names = λ offset. refl }
is-there NewEndpoint new there = record { kind_is = refl; names = λ offset. refl }
is-there NewNotification new there = record { kind_is = refl; names = λ offset. refl }
is-there (NewCNode radix) new there = record { kind_is = refl; names = λ offset. refl }
is-there NewFrame new there = record { kind_is = refl; names = λ offset. refl }
is-there NewPageTable new there = record { kind_is = refl; names = λ offset. refl }
is-there NewRootTable new there = record { kind_is = refl; names = λ offset. refl }

frame-is : (kind : NewObject) → is_frame kind ≡ true → kind ≡ NewFrame
frame-is NewFrame is = refl
frame-is (NewUntyped bits) is = absurd (let clash : false ≡ true = is in cc)
frame-is NewThread is = absurd (let clash : false ≡ true = is in cc)
frame-is NewEndpoint is = absurd (let clash : false ≡ true = is in cc)
frame-is NewNotification is = absurd (let clash : false ≡ true = is in cc)
frame-is (NewCNode radix) is = absurd (let clash : false ≡ true = is in cc)
frame-is NewPageTable is = absurd (let clash : false ≡ true = is in cc)
frame-is NewRootTable is = absurd (let clash : false ≡ true = is in cc)

-- ---- what a Retype leaves

module _ (image : Image) (t : Numbered) (s : State) (slots : List NotedSlot) (mirrors : Mirrors image t s slots) (own : ThreadState)
    (is : s.objects (tcb_of image t) ≡ Some (ThreadObject own)) (pool : ℕ) (mine : IsOwnSlot image t.thread pool) (memory : UntypedMemory) (asked : RetypeCall)
    (holds : capability_at s.slots pool ≡ Untyped memory.offset memory.bits memory.watermark) (called : named_slot s (tcb_of image t) ≡ Ok pool)
    (of : Asked s.slots (noted_root image t.thread) pool memory asked) (made : IsMade of.kind) where
  abbrev self : ℕ
  self = tcb_of image t

  abbrev making : Making image t s
  making = making_of image t s slots mirrors pool mine memory asked holds of made

  abbrev after : State
  after = made_of s pool memory asked of.kind of.cnode of.place

  abbrev new : NewObjects
  new = objects_of memory asked of.kind of.place

  abbrev window : ℕ
  window = window_of asked of.cnode

  abbrev place : ℕ → ℕ
  place i = place_of_new new i

  there : IsThere of.kind
  there = is-there of.kind made.new made.there

  kept-object : (offset : ℕ) (o : Object) → s.objects offset ≡ Some o → after.objects offset ≡ Some o
  kept-object offset o was = stays image t s slots mirrors pool mine memory asked holds of made offset o was

  -- ---- one of the new objects

  module _ (i : ℕ) (less : i < asked.count) where
    at-place-of : some_new new (λ at. at == place i) ≡ true
    at-place-of = map-some (λ at. at == place i) (place_of_new new) 0 asked.count i less
        (subst (λ (k : ℕ). (place k == place i) ≡ true) (let same : i ≡ 0 + i = omega arith in same) (eq-eqb (place i) (place i) refl))

    none-before : s.objects (place i) ≡ None
    none-before = elim (s.objects (place i)) as (λ (o : Option Object). s.objects (place i) ≡ o → o ≡ None) [
      | None ↦ λ _. refl
      | Some o ↦ λ was. absurd (not-there s memory.offset memory.bits memory.watermark
          (unused image t s slots mirrors pool mine memory asked holds of made) new of.place.1
          (lies image t s slots mirrors pool mine memory asked holds of made) (place i) (kind_of o) (ap (option_map kind_of) was)
          (place-behind s memory.offset memory.bits memory.watermark (unused image t s slots mirrors pool mine memory asked holds of made) new of.place.1
          (lies image t s slots mirrors pool mine memory asked holds of made) i less))
    ] refl

    object-now : after.objects (place i) ≡ object of.kind
    object-now =
        ap (λ (b : Bool). if b then option_map_or (λ (o : Object). Some o) (object of.kind) (s.objects (place i)) else s.objects (place i)) at-place-of
        ∙ ap (λ (x : Option Object). option_map_or (λ (o : Object). Some o) x (s.objects (place i))) made.there ∙ sym made.there

    kind-now : kind_at after (place i) ≡ Some of.kind
    kind-now = ap (option_map kind_of) object-now ∙ IsThere.kind_is there

    around-it : Holds image t.thread s (IsUntypedAround (place i) (2 ^ object_bits of.kind))
    around-it =
        let lies_there = place-behind s memory.offset memory.bits memory.watermark (unused image t s slots mirrors pool mine memory asked holds of made) new
        of.place.1 (lies image t s slots mirrors pool mine memory asked holds of made) i less in
        let from = lies_there.from in
        record {
          slot = pool;
          own = mine;
          such = record {
            offset = memory.offset;
            bits = memory.bits;
            watermark = memory.watermark;
            is = holds;
            begins = omega (arith, from);
            ends = lies_there.to;
          };
        }

  objects-change : (offset : ℕ) → kind_at s offset ≢ kind_at after offset → ObjectChange image t.thread s after offset
  objects-change offset differs = by-found (some_new new (λ at. at == offset)) refl
    where
      by-found : (b : Bool) → some_new new (λ at. at == offset) ≡ b → ObjectChange image t.thread s after offset
      by-found false none = absurd (differs (ap (option_map kind_of)
          (sym (ap (λ (b : Bool). if b then option_map_or (λ (o : Object). Some o) (object of.kind) (s.objects offset) else s.objects offset) none))))
      by-found true found =
          let one = some-place new (λ at. at == offset) found in
          subst (λ (o : ℕ). ObjectChange image t.thread s after o) (eqb-true (place one.0) offset one.2)
          (appears of.kind (none-before one.0 one.1) (object-now one.0 one.1) (around-it one.0 one.1))

  bytes-change : (byte : ℕ) → s.bytes byte ≢ after.bytes byte → ByteChange image t.thread s after byte
  bytes-change byte differs = by-test (is_frame of.kind && is_within new.first (asked.count * size_of new) byte) refl
    where
      in-new : is_frame of.kind ≡ true → is_within new.first (asked.count * size_of new) byte ≡ true → after.bytes byte ≡ Some 0
          → ByteChange image t.thread s after byte
      in-new frame inside zeroed =
          let kind : of.kind ≡ NewFrame = frame-is of.kind frame in
          let size : size_of new ≡ 4096 = ap (λ (k : NewObject). 2 ^ object_bits k) kind in
          let parts = within-parts new.first (asked.count * size_of new) byte inside in
          let aligned = (lies image t s slots mirrors pool mine memory asked holds of made).aligned 0 in
          let whole : (new.first + 0 * 4096) % 4096 ≡ 0 = subst (λ (n : ℕ). (new.first + 0 * n) % n ≡ 0) size aligned in
          let high : byte < new.first + asked.count * 4096 = subst (λ (n : ℕ). byte < new.first + asked.count * n) size parts.1 in
          let at = in-frame new.first asked.count byte (omega (arith, whole)) parts.0 high in
          let i = (byte - new.first) / 4096 in
          let here : place i ≡ frame_around byte = ap (λ (n : ℕ). new.first + i * n) size ∙ at.around in
          comes_with_frame
          (λ was. let none : ◌≡◌ {A = Option NewObject} None (Some NewFrame) = sym (ap (option_map kind_of) (none-before i at.less)) ∙ ap (kind_at s) here
          ∙ was in
          absurd cc)
          (ap (kind_at after) (sym here) ∙ kind-now i at.less ∙ ap (λ (k : NewObject). Some k) kind) zeroed

      by-test : (b : Bool) → (is_frame of.kind && is_within new.first (asked.count * size_of new) byte) ≡ b → ByteChange image t.thread s after byte
      by-test false none = absurd (differs (sym (ap (λ (b : Bool). if b then Some 0 else s.bytes byte) none)))
      by-test true both =
          let parts = and_parts (is_frame of.kind) (is_within new.first (asked.count * size_of new) byte) both in
          in-new parts.0 parts.1 (ap (λ (b : Bool). if b then Some 0 else s.bytes byte) both)

  -- ---- slots

  by-place : (P : ℕ → Type 0) → ((x : ℕ) → is_within window asked.count x ≡ true → P x) → ((x : ℕ) → is_within window asked.count x ≡ false → x ≡ pool → P x)
      → ((x : ℕ) → after.slots x ≡ s.slots x → P x) → (x : ℕ) → P x
  by-place P fresh old rest x = by (place-of image t s making x)
    where
      by : Place image t s making x → P x
      by (as_new inside) = fresh x inside
      by (as_pool outside same) = old x outside same
      by (as_before outside apart) = rest x (before-same image t s making s.slots x outside apart)

  empty : (x : ℕ) → is_within window asked.count x ≡ true → capability_at s.slots x ≡ Empty
  empty x inside =
      empty-capability (capability_at s.slots x)
      (elim (is_full s.slots x) as (λ (b : Bool). is_full s.slots x ≡ b → is_empty (capability_at s.slots x) ≡ true) [
        | true ↦ λ full. absurd (let clash : true ≡ false = sym inside ∙ outside-window s.slots window asked.count x of.free full in cc)
        | false ↦ λ none. not-false (is_empty (capability_at s.slots x)) none
      ] refl)

  new-is : (x : ℕ) → is_within window asked.count x ≡ true → capability_at after.slots x ≡ first_capability of.kind (place (x - window))
  new-is x inside = new-held image t s making s.slots x inside

  pool-is : (x : ℕ) → is_within window asked.count x ≡ false → x ≡ pool → capability_at after.slots x ≡ Untyped memory.offset memory.bits of.place.1
  pool-is x outside same = pool-held image t s making s.slots x outside same

  pool-was : (x : ℕ) → x ≡ pool → capability_at s.slots x ≡ Untyped memory.offset memory.bits memory.watermark
  pool-was x same = ap (capability_at s.slots) same ∙ holds

  no-frame : (x : ℕ) → frame_mapping (capability_at s.slots x) ≡ frame_mapping (capability_at after.slots x)
  no-frame = by-place (λ x. frame_mapping (capability_at s.slots x) ≡ frame_mapping (capability_at after.slots x))
      (λ x inside. ap frame_mapping (empty x inside) ∙ sym (ap frame_mapping (new-is x inside) ∙ made.unmapped (place (x - window))))
      (λ x outside same. ap frame_mapping (pool-was x same) ∙ sym (ap frame_mapping (pool-is x outside same)))
      (λ x same. ap (λ (o : Option Entry). frame_mapping (held_by o)) (sym same))

  no-table : (x : ℕ) → table_mapping (capability_at s.slots x) ≡ table_mapping (capability_at after.slots x)
  no-table = by-place (λ x. table_mapping (capability_at s.slots x) ≡ table_mapping (capability_at after.slots x))
      (λ x inside. ap table_mapping (empty x inside) ∙ sym (ap table_mapping (new-is x inside) ∙ first-no_table of.kind (place (x - window))))
      (λ x outside same. ap table_mapping (pool-was x same) ∙ sym (ap table_mapping (pool-is x outside same)))
      (λ x same. ap (λ (o : Option Entry). table_mapping (held_by o)) (sym same))

  own-slots : (x : ℕ) → s.slots x ≢ after.slots x → IsOwnSlot image t.thread x
  own-slots = by-place (λ x. s.slots x ≢ after.slots x → IsOwnSlot image t.thread x) (λ x inside differs. in-window image t s making slots mirrors x inside)
      (λ x outside same differs. subst (IsOwnSlot image t.thread) (sym same) mine) (λ x same differs. absurd (differs (sym same)))

  granted : (x : ℕ) → without_use (capability_at s.slots x) ≢ without_use (capability_at after.slots x) → capability_at after.slots x ≢ Empty
      → Granted image t.thread s after (capability_at after.slots x)
  granted = by-place (λ x. without_use (capability_at s.slots x) ≢ without_use (capability_at after.slots x) → capability_at after.slots x ≢ Empty →
      Granted image t.thread s after (capability_at after.slots x))
      (λ x inside differs some.
      let i = x - window in
      let less = (index-of window asked.count x inside).1 in
      subst (λ (c : Cap). Granted image t.thread s after c) (sym (new-is x inside))
      (appeared (first_capability of.kind (place i)) of.kind (place i) (IsThere.names there (place i)) (none-before i less) (kind-now i less)
      (around-it i less)))
      (λ x outside same differs some. absurd (differs (ap without_use (pool-was x same) ∙ sym (ap without_use (pool-is x outside same)))))
      (λ x same differs some. absurd (differs (ap (λ (o : Option Entry). without_use (held_by o)) (sym same))))

  parents-change : (x : ℕ) → parent_at s.slots x ≢ parent_at after.slots x → NewParent image t.thread s after x (parent_at after.slots x)
  parents-change = by-place (λ x. parent_at s.slots x ≢ parent_at after.slots x → NewParent image t.thread s after x (parent_at after.slots x))
      (λ x inside differs. own_parent pool mine (new-parent image t s making s.slots x inside))
      (λ x outside same differs. absurd (differs (sym (pool-parent image t s making s.slots x outside same))))
      (λ x same differs. absurd (differs (ap parent_by (sym same))))

  used-change : (x o b old now : ℕ) → capability_at s.slots x ≡ Untyped o b old → capability_at after.slots x ≡ Untyped o b now → old ≢ now
      → UsedChange image t.thread s after x old now
  used-change = by-place (λ x. (o b old now : ℕ) → capability_at s.slots x ≡ Untyped o b old → capability_at after.slots x ≡ Untyped o b now → old ≢ now →
      UsedChange image t.thread s after x old now)
      (λ x inside o b old now before behind differs. let clash : Empty ≡ Untyped o b old = sym (empty x inside) ∙ before in absurd cc)
      (λ x outside same o b old now before behind differs.
      let e : Untyped memory.offset memory.bits memory.watermark ≡ Untyped o b old = sym (pool-was x same) ∙ before in
      let was : memory.watermark ≡ old = cc in
      let f : Untyped memory.offset memory.bits of.place.1 ≡ Untyped o b now = sym (pool-is x outside same) ∙ behind in
      let left : of.place.1 ≡ now = cc in
      let further : memory.watermark < of.place.1 =
      used-further memory.bits memory.watermark (object_bits of.kind) asked.count of.place.0 of.place.1 of.placed (counted asked of.cnode.radix of.fits).some in
      uses (called ∙ ap (λ (n : ℕ). Ok n) (sym same)) (subst (λ (n : ℕ). n < now) was (subst (λ (n : ℕ). memory.watermark < n) left further)))
      (λ x same o b old now before behind differs. absurd (one-used (capability_at s.slots x) o b old now before (ap held_by (sym same) ∙ behind) differs))

  -- ---- the thread

  still : after.objects self ≡ Some (ThreadObject own)
  still = kept-object self (ThreadObject own) is

  caller-stays : (caller : ℕ) → own.caller ≡ Some caller → after.objects caller ≡ s.objects caller
  caller-stays caller right = elim (s.objects caller) as (λ (o : Option Object). s.objects caller ≡ o → after.objects caller ≡ o) [
    | Some o ↦ λ was. kept-object caller o was
    | None ↦ λ none.
        let awaits = mirrors.all.sound.threads.callers self caller (ap (λ (u : ThreadState). u.caller) (at-place s self own is) ∙ right) in
        absurd (let clash : true ≡ false =
        sym awaits ∙ ap (λ (o : Option Object). awaits_answer (option_map_or (λ (u : ThreadState). u) (as_thread o) new_thread).status) none in cc)
  ] refl

  pub made-within : WithinAuthority image t.thread s (made_of s pool memory asked of.kind of.cnode of.place)
  made-within = record {
    memory_bits = refl;
    boot_radix = refl;
    bytes = bytes-change;
    objects = objects-change;
    slots = own-slots;
    frame_mappings = λ x mapping differs either. absurd (differs (no-frame x));
    table_mappings = λ x mapping differs either. absurd (differs (no-table x));
    mapped = λ x mapping fresh now. absurd (fresh (no-frame x ∙ now));
    capabilities = granted;
    endpoints = λ offset old now before behind differs.
        let e : Some (EndpointObject old) ≡ Some (EndpointObject now) = sym (kept-object offset (EndpointObject old) before) ∙ behind in
        let f : old ≡ now = cc in absurd (differs f);
    notifications = λ offset old now before behind differs.
        let e : Some (NotificationObject old) ≡ Some (NotificationObject now) = sym (kept-object offset (NotificationObject old) before) ∙ behind in
        let f : old ≡ now = cc in absurd (differs f);
    parents = parents-change;
    used = used-change;
    priority = between (λ (old now : ThreadState). now.priority ≡ old.priority) (s.objects self) (after.objects self) own own is still refl;
    slice = between (SliceChange s after self) (s.objects self) (after.objects self) own own is still (same_slice refl);
    fault_address = between (λ (old now : ThreadState). now.fault_address ≡ old.fault_address) (s.objects self) (after.objects self) own own is still refl;
    right = between (λ (old now : ThreadState). RightChange image t.thread s after old.caller now.caller) (s.objects self) (after.objects self) own own is still
        (kept refl caller-stays);
    threads = λ other old now apart before behind differs.
        let e : Some (ThreadObject old) ≡ Some (ThreadObject now) = sym (kept-object other (ThreadObject old) before) ∙ behind in
        let f : old ≡ now = cc in absurd (differs f);
    lines = λ number either. elim either [ inl differs ↦ absurd (differs refl) | inr differs ↦ absurd (differs refl) ];
    ready = λ priority. record {
      added = [];
      list = append-none (without self (s.ready priority));
      woken = λ thread added. absurd (omega (arith, added.1));
      once = λ thread. omega arith;
      own = omega arith;
    };
  }

  -- each of the thread's untyped memories stays, with a watermark
  pub made-pools : PoolsIn image t s.slots (made_of s pool memory asked of.kind of.cnode of.place).slots
  made-pools x o b old own_slot was =
      by-place (λ y. capability_at s.slots y ≡ Untyped o b old → (now : ℕ) × (capability_at after.slots y ≡ Untyped o b now))
      (λ y inside before. absurd (let clash : Empty ≡ Untyped o b old = sym (empty y inside) ∙ before in cc))
      (λ y outside same before.
      let e : Untyped memory.offset memory.bits memory.watermark ≡ Untyped o b old = sym (pool-was y same) ∙ before in
      let one : memory.offset ≡ o = cc in
      let two : memory.bits ≡ b = cc in
      (of.place.1, pool-is y outside same ∙ (λ i. Untyped (one i) (two i) of.place.1)))
      (λ y same before. (old, ap held_by same ∙ before)) x was

pub retypes-within : (image : Image) (t : Numbered) (s : State) (slots : List NotedSlot) → Mirrors image t s slots → (own : ThreadState)
    → s.objects (tcb_of image t) ≡ Some (ThreadObject own) → (pool : ℕ) (memory : UntypedMemory) (asked : RetypeCall)
    → MayInvoke image t s slots pool (OnUntyped memory asked) → named_slot s (tcb_of image t) ≡ Ok pool → (after : State)
    → perform s (call_on image t.thread pool (capability_at s.slots pool)) (OnUntyped memory asked) ≡ Ok after → WithinAuthority image t.thread s after
retypes-within image t s slots mirrors own is pool memory asked may called after performed =
    let found = retype-found s after (noted_root image t.thread) pool memory asked performed in
    let made = may-made found.of.kind (ap may_make (sym found.of.kind_is) ∙ may.may) in
    subst (λ (x : State). WithinAuthority image t.thread s x) found.is
    (made-within image t s slots mirrors own is pool may.own memory asked may.on called found.of made)

pub retypes-keep : (image : Image) (t : Numbered) (s : State) (slots : List NotedSlot) → Mirrors image t s slots → (own : ThreadState)
    → s.objects (tcb_of image t) ≡ Some (ThreadObject own) → (pool : ℕ) (memory : UntypedMemory) (asked : RetypeCall)
    → MayInvoke image t s slots pool (OnUntyped memory asked) → named_slot s (tcb_of image t) ≡ Ok pool → (after : State)
    → perform s (call_on image t.thread pool (capability_at s.slots pool)) (OnUntyped memory asked) ≡ Ok after → PoolsIn image t s.slots after.slots
retypes-keep image t s slots mirrors own is pool memory asked may called after performed =
    let found = retype-found s after (noted_root image t.thread) pool memory asked performed in
    let made = may-made found.of.kind (ap may_make (sym found.of.kind_is) ∙ may.may) in
    subst (λ (x : State). PoolsIn image t s.slots x.slots) found.is
    (made-pools image t s slots mirrors own is pool may.own memory asked may.on called found.of made)
