-- A removal of a thread's own slots stays within authority, where a thread's slots hold what is noted: no thread ends and nobody is woken,
-- what hung below a removed slot hangs where that one did, and untyped memory that loses its last child is unused again.
use Rattle.std.proofs.Common.{ℕ, ◌≡◌, ◌≢◌, ◌∙◌, ◌-◌, ◌%◌, ◌&&◌, ◌⊎◌, inl, inr, Bool, true, false, not, if◌then◌else◌, Option, Some, None, option_map}
use Rattle.std.proofs.Common.{List, [], ◌∷◌, filter, refl, sym, ap, subst, arith}
use Rattle.std.specs.Prelude.{IsSome}
use Rattle.std.specs.List.{list_any}
use Rattle.std.specs.Option.{option_map_or}
use Rattle.std.proofs.lemmas.Bool.{and_parts, eq-eqb, false≢true}
use Rattle.std.proofs.lemmas.Option.{none-some}
use Rattle.soundness.proofs.Laws.{empty-capability, full-near}
use Rattle.removal_laws.proofs.Laws.{found-at}
use Rattle.typestate.proofs.Laws.{reset}
use Rattle.headline.specs.authority.OwnMaps.{MapsOwn}
use Rattle.headline.specs.authority.Scenarios.{EndsInside}
use Rattle.headline.specs.invocations.Answered.{DerivesFromSome}
use Rattle.headline.specs.invocations.Mirrors.{Mirrors}
use Rattle.model.specs.declared.capabilities.Cap.{Cap}
use Rattle.model.specs.declared.capabilities.Cap.TheVariants.{Empty, Untyped, Endpoint, Notification, CNode, Frame, PageTable, Tcb, RootTable, InterruptControl}
use Rattle.model.specs.declared.capabilities.Cap.TheVariants.{InterruptHandler}
use Rattle.model.specs.declared.capabilities.FrameMapping.{FrameMapping}
use Rattle.model.specs.declared.slot_entries.Entry.{Entry}
use Rattle.model.specs.Acceptance.Authority.{ByteChange, goes_with_frame, Granted, IsOwnSlot, NewParent, emptied as emptied_slot, of_own}
use Rattle.model.specs.Acceptance.Authority.{ObjectChange, ends as ends_object, RightChange, kept, SliceChange, same_slice, UsedChange, freed, WithinAuthority}
use Rattle.model.specs.Acceptance.Authority.{without_use}
use Rattle.model.specs.Acceptance.NotedStates.{NotedSlot}
use Rattle.model.specs.Acceptance.ThreadInvariants.{root_table_of, tcb_of}
use Rattle.model.specs.Capabilities.CapabilityKinds.{frame_mapping, is_untyped, table_mapping}
use Rattle.model.specs.Capabilities.Slots.{IsFull, capability_at, is_empty, is_full, parent_at}
use Rattle.model.specs.Images.Described.{Numbered}
use Rattle.model.specs.Images.Image.{Image}
use Rattle.model.specs.Kernel.AddressSpaces.{page_size}
use Rattle.model.specs.Kernel.Kinds.{kind_at, kind_of}
use Rattle.model.specs.Kernel.Removal.{SlotSet, emptied, ends, is_ending_thread, is_some_slot, loses_last_child, new_parent}
use Rattle.model.specs.Kernel.Removal.{with_bindings}
use Rattle.model.specs.Kernel.Retype.{NewObject, NewFrame}
use Rattle.model.specs.Kernel.Soundness.{awaits_answer}
use Rattle.model.specs.Kernel.State.{State, Object, ThreadObject, EndpointObject, NotificationObject, ThreadState, as_thread, new_thread, slots_of}
use Rattle.model.specs.Shared.Lists.{times_in, without}
use Rattle.headline.proofs.facts.Laws.{at-place}
use Rattle.headline.proofs.invocations.BlockSlots.{own-or-other}
use Rattle.headline.proofs.invocations.DerivedSlots.{derives-from-some}
use Rattle.headline.proofs.invocations.EmptiedSlots.{parent-left}
use Rattle.headline.proofs.invocations.HangsLeft.{HangsThere, direct, through, boot-away, hangs-there, stays-with}
use Rattle.headline.proofs.invocations.Heirs.{NoBoot, bound-no-boot, emptied-hang}
use Rattle.headline.proofs.invocations.OtherSlotsLeft.{other-kept}
use Rattle.headline.proofs.invocations.RealRemoval.{set-or-empty}
use Rattle.headline.proofs.invocations.RemovalChanges.{cap-left, mapping-there}
use Rattle.headline.proofs.invocations.RemovalSides.{other-out, own_set}
use Rattle.headline.proofs.invocations.ThreadsRemain.{no-thread-ends, objects-left, thread-stays}
use Rattle.headline.proofs.authority.PlainSteps.{append-none, between}
use Rattle.headline.proofs.authority.PoolsKept.{PoolsIn}
use Rattle.headline.proofs.authority.StandingInvocations.{own-no_table}
use Rattle.headline.proofs.authority.Stored.{capability_of, parent_of}
use Rattle.headline.proofs.authority.Ticks.{thread-object}

-- ---- what becomes of a capability that stays

reset-table : (b : Bool) (c : Cap) → table_mapping (reset b c) ≡ table_mapping c
reset-table b Empty = refl
reset-table b (Untyped _ _ _) = refl
reset-table b (Endpoint _ _ _) = refl
reset-table b (Notification _ _ _) = refl
reset-table b (CNode _ _ _) = refl
reset-table b (Frame _ _ _) = refl
reset-table b (PageTable _ _) = refl
reset-table b (Tcb _) = refl
reset-table b (RootTable _) = refl
reset-table b InterruptControl = refl
reset-table b (InterruptHandler _) = refl

reset-use : (b : Bool) (c : Cap) → without_use (reset b c) ≡ without_use c
reset-use b Empty = refl
reset-use b (Untyped _ _ _) = refl
reset-use b (Endpoint _ _ _) = refl
reset-use b (Notification _ _ _) = refl
reset-use b (CNode _ _ _) = refl
reset-use b (Frame _ _ _) = refl
reset-use b (PageTable _ _) = refl
reset-use b (Tcb _) = refl
reset-use b (RootTable _) = refl
reset-use b InterruptControl = refl
reset-use b (InterruptHandler _) = refl

-- untyped memory has the watermark that it had, or 0 where it lost its last child
reset-mark : (b : Bool) (c : Cap) (offset bits old now : ℕ) → c ≡ Untyped offset bits old → reset b c ≡ Untyped offset bits now
    → (old ≡ now) ⊎ ((b ≡ true) × (now ≡ 0))
reset-mark b c offset bits old now was is =
    elim b as (λ (x : Bool). b ≡ x → (if x then 0 else old) ≡ now → (old ≡ now) ⊎ ((b ≡ true) × (now ≡ 0))) [
      | true ↦ λ lost same. inr (lost, sym same)
      | false ↦ λ _ same. inl same
    ] refl (let e : Untyped offset bits (if b then 0 else old) ≡ Untyped offset bits now = sym (ap (reset b) was) ∙ is in cc)

filter-whole : (test : ℕ → Bool) → ((n : ℕ) → test n ≡ true) → (l : List ℕ) → filter test l ≡ l
filter-whole test all [] = refl
filter-whole test all (n ∷ l) =
    ap (λ (b : Bool). if b then n ∷ filter test l else filter test l) (all n) ∙ ap (λ (rest : List ℕ). n ∷ rest) (filter-whole test all l)

negated : (b : Bool) → not b ≡ true → b ≡ false
negated true is = sym is
negated false is = refl

present : (value : ℕ) → IsSome (Some value)
present value = refl

module _ (image : Image) (t : Numbered) (s : State) (slots : List NotedSlot) (m : Mirrors image t s slots) (own : ThreadState)
    (is : s.objects (tcb_of image t) ≡ Some (ThreadObject own)) (set : SlotSet) (inside : (slot : ℕ) → set slot ≡ true → own_set image t slot ≡ true)
    (pools : (slot : ℕ) → set slot ≡ true → is_untyped (capability_at s.slots slot) ≡ false) (maps : MapsOwn image t s)
    (lies : EndsInside image t.thread s set) where
  abbrev all : SlotSet
  all = with_bindings s set

  abbrev after : State
  after = emptied s all

  abbrev self : ℕ
  self = tcb_of image t

  abbrev stays_as : ℕ → Cap
  stays_as slot = reset (loses_last_child s all slot) (capability_at s.slots slot)

  held : (slot : ℕ) → capability_at after.slots slot ≡ (if all slot then Empty else stays_as slot)
  held slot = cap-left image t s slots m set set inside inside (λ x mine. refl) pools slot

  -- ---- objects and bytes

  objects-are : (offset : ℕ) → after.objects offset ≡ (if ends s all offset then None else s.objects offset)
  objects-are offset = objects-left image t s slots m set inside offset

  was : (offset : ℕ) (o : Object) → after.objects offset ≡ Some o → s.objects offset ≡ Some o
  was offset o now = by-end (ends s all offset) (sym (objects-are offset) ∙ now)
    where
      by-end : (b : Bool) → (if b then None else s.objects offset) ≡ Some o → s.objects offset ≡ Some o
      by-end true clash = absurd (none-some o clash)
      by-end false there = there

  objects-change : (offset : ℕ) → kind_at s offset ≢ kind_at after offset → ObjectChange image t.thread s after offset
  objects-change offset differs = by-end (ends s all offset) refl (kind_at s offset) refl
    where
      by-end : (b : Bool) → ends s all offset ≡ b → (k : Option NewObject) → kind_at s offset ≡ k → ObjectChange image t.thread s after offset
      by-end false stays k there =
          absurd (differs (sym (ap (option_map kind_of) (objects-are offset ∙ ap (λ (b : Bool). if b then None else s.objects offset) stays))))
      by-end true gone None none =
          absurd (differs (none ∙ sym (ap (option_map kind_of) (objects-are offset ∙ ap (λ (b : Bool). if b then None else s.objects offset) gone))))
      by-end true gone (Some kind) there =
          ends_object kind there (objects-are offset ∙ ap (λ (b : Bool). if b then None else s.objects offset) gone) (lies offset kind gone there)

  abbrev frame_at : ℕ → ℕ
  frame_at byte = byte - byte % page_size

  bytes-change : (byte : ℕ) → s.bytes byte ≢ after.bytes byte → ByteChange image t.thread s after byte
  bytes-change byte differs = by-end (ends s all (frame_at byte)) refl (s.bytes byte) refl
    where
      by-end : (b : Bool) → ends s all (frame_at byte) ≡ b → (v : Option ℕ) → s.bytes byte ≡ v → ByteChange image t.thread s after byte
      by-end false stays v there = absurd (differs (sym (ap (λ (b : Bool). if b then None else s.bytes byte) stays)))
      by-end true gone None none = absurd (differs (none ∙ sym (ap (λ (b : Bool). if b then None else s.bytes byte) gone)))
      by-end true gone (Some value) there =
          goes_with_frame ((m.all.sound.memory.bytes byte).0 (subst (λ (o : Option ℕ). IsSome o) (sym there) (present value)))
          (λ now. none-some NewFrame
          (sym (ap (option_map kind_of) (objects-are (frame_at byte) ∙ ap (λ (b : Bool). if b then None else s.objects (frame_at byte)) gone)) ∙ now))
          (ap (λ (b : Bool). if b then None else s.bytes byte) gone)

  -- ---- slots

  own-slots : (slot : ℕ) → s.slots slot ≢ after.slots slot → IsOwnSlot image t.thread slot
  own-slots slot differs = elim (own-or-other image t slot) [
    | inl mine ↦ mine
    | inr other ↦ absurd (differs (sym (other-kept image t s slots m set inside pools slot (other-out image t slot other))))
  ]

  frames-change : (slot : ℕ) (mapping : FrameMapping) → frame_mapping (capability_at s.slots slot) ≢ frame_mapping (capability_at after.slots slot)
      → (frame_mapping (capability_at s.slots slot) ≡ Some mapping) ⊎ (frame_mapping (capability_at after.slots slot) ≡ Some mapping)
      → mapping.root ≡ root_table_of image t
  frames-change slot mapping differs either =
      let mine = own-slots slot (λ same. differs (ap (λ (o : Option Entry). frame_mapping (capability_of o)) same)) in
      elim either [
        | inl before ↦ maps slot mapping mine before
        | inr now ↦ maps slot mapping mine
            (mapping-there image t s slots m set set inside inside (λ x mine. refl) pools slot mapping now)
      ]

  no-table : (slot : ℕ) → table_mapping (capability_at s.slots slot) ≡ table_mapping (capability_at after.slots slot)
  no-table slot = elim (own-or-other image t slot) [
    | inr other ↦ ap (λ (o : Option Entry). table_mapping (capability_of o))
        (sym (other-kept image t s slots m set inside pools slot (other-out image t slot other)))
    | inl mine ↦
        let none : table_mapping (capability_at s.slots slot) ≡ None = own-no_table image t.thread (capability_at s.slots slot) (m.home slot mine) in
        none ∙ sym (ap table_mapping (held slot) ∙ elim (all slot) as (λ (b : Bool). table_mapping (if b then Empty else stays_as slot) ≡ None) [
          | true ↦ refl
          | false ↦ reset-table (loses_last_child s all slot) (capability_at s.slots slot) ∙ none
        ])
  ]

  granted : (slot : ℕ) → without_use (capability_at s.slots slot) ≢ without_use (capability_at after.slots slot) → capability_at after.slots slot ≢ Empty
      → Granted image t.thread s after (capability_at after.slots slot)
  granted slot differs some =
      elim (all slot) as (λ (b : Bool). all slot ≡ b → Granted image t.thread s after (capability_at after.slots slot)) [
        | true ↦ λ gone. absurd (some (held slot ∙ ap (λ (b : Bool). if b then Empty else stays_as slot) gone))
        | false ↦ λ stays. absurd (differs (sym (ap without_use (held slot ∙ ap (λ (b : Bool). if b then Empty else stays_as slot) stays)
            ∙ reset-use (loses_last_child s all slot) (capability_at s.slots slot))))
      ] refl

  -- ---- parents

  no-boot : NoBoot s set
  no-boot slot boot = elim (set slot) as (λ (b : Bool). set slot ≡ b → b ≡ false) [
    | true ↦ λ here. absurd (false≢true (sym (boot-away image t s slots m set inside pools slot boot) ∙ inside slot here))
    | false ↦ λ _. refl
  ] refl

  -- each full slot of the thread's derives from something still
  hung : DerivesFromSome image t after
  hung slot mine full =
      emptied-hang s m.all.sound.slots.derivation (λ x. IsOwnSlot image t.thread x) (derives-from-some image t s slots m) m.near all
      (bound-no-boot s set no-boot) slot mine full

  hangs-as : (slot parent : ℕ) → HangsThere image t s slots m set inside pools slot parent → parent_at s.slots slot ≢ Some parent
      → NewParent image t.thread s after slot (Some parent)
  hangs-as slot parent (direct up) differs = absurd (differs up)
  hangs-as slot parent (through p z up mine here above) differs =
      of_own z (inside z here) (m.all.sound.slots.derivation.child_full z parent above) above

  parents-change : (slot : ℕ) → parent_at s.slots slot ≢ parent_at after.slots slot → NewParent image t.thread s after slot (parent_at after.slots slot)
  parents-change slot differs = by-parent (parent_at after.slots slot) refl
    where
      none-there : parent_at after.slots slot ≡ None → is_full after.slots slot ≡ true → IsOwnSlot image t.thread slot → ⊥
      none-there none full mine = let above = hung slot mine full in none-some above.0 (sym none ∙ above.1)

      by-parent : (p : Option ℕ) → parent_at after.slots slot ≡ p → NewParent image t.thread s after slot p
      by-parent (Some parent) now =
          hangs-as slot parent (hangs-there image t s slots m set inside pools slot parent now) (λ same. differs (same ∙ sym now))
      by-parent None none =
          let mine = own-slots slot (λ same. differs (ap parent_of same)) in
          elim (is_empty (capability_at after.slots slot))
          as (λ (b : Bool). is_empty (capability_at after.slots slot) ≡ b → NewParent image t.thread s after slot None) [
            | true ↦ λ bare. emptied_slot (empty-capability (capability_at after.slots slot) bare) refl
            | false ↦ λ full. absurd (none-there none (ap not full) mine)
          ] refl

  -- ---- watermarks

  used-change : (slot offset bits old now : ℕ) → capability_at s.slots slot ≡ Untyped offset bits old → capability_at after.slots slot ≡ Untyped offset bits now
      → old ≢ now → UsedChange image t.thread s after slot old now
  used-change slot offset bits old now before behind differs =
      elim (all slot) as (λ (b : Bool). all slot ≡ b → UsedChange image t.thread s after slot old now) [
        | true ↦ λ gone. absurd (let clash : Empty ≡ Untyped offset bits now =
            sym (held slot ∙ ap (λ (b : Bool). if b then Empty else stays_as slot) gone) ∙ behind in cc)
        | false ↦ λ stays. elim (reset-mark (loses_last_child s all slot) (capability_at s.slots slot) offset bits old now before
            (sym (held slot ∙ ap (λ (b : Bool). if b then Empty else stays_as slot) stays) ∙ behind)) [
              | inl same ↦ absurd (differs same)
              | inr (lost, none) ↦ freed none (λ child up. none-below child lost up)
            ]
      ] refl
    where
      up-there : (child : ℕ) → HangsThere image t s slots m set inside pools child slot → (p : ℕ) × (parent_at s.slots child ≡ Some p)
      up-there child (direct up) = (slot, up)
      up-there child (through p z up mine here above) = (p, up)

      none-below : (child : ℕ) → loses_last_child s all slot ≡ true → parent_at after.slots child ≡ Some slot → ⊥
      none-below child lost up =
          let stays : all child ≡ false = stays-with image t s slots m set inside pools child slot up in
          let new : new_parent s all child ≡ Some slot =
          sym (parent-left s all child ∙ ap (λ (b : Bool). if b then None else new_parent s all child) stays) ∙ up in
          let hangs = up-there child (hangs-there image t s slots m set inside pools child slot up) in
          let full : IsFull s.slots child = m.all.sound.slots.derivation.child_full child hangs.0 hangs.1 in
          let near = full-near s m.all.sound.shape m.all.sound.slots m.all.sound.memory child full in
          let parts = and_parts (list_any (λ other. all other && is_some_slot slot (parent_at s.slots other)) (slots_of s)) _ lost in
          let found = found-at s.memory_bits child (λ other. not (all other) && is_some_slot slot (new_parent s all other)) near
          (ap (λ (b : Bool). not b && is_some_slot slot (new_parent s all child)) stays ∙ ap (λ (p : Option ℕ). is_some_slot slot p) new
          ∙ eq-eqb slot slot refl) in
          false≢true (sym (negated _ parts.1) ∙ found)

  -- ---- the thread

  thread-still : (offset : ℕ) (u : ThreadState) → s.objects offset ≡ Some (ThreadObject u) → after.objects offset ≡ Some (ThreadObject u)
  thread-still offset u there =
      objects-are offset ∙ ap (λ (b : Bool). if b then None else s.objects offset) (thread-stays image t s slots m set inside offset u there) ∙ there

  caller-stays : (caller : ℕ) → own.caller ≡ Some caller → after.objects caller ≡ s.objects caller
  caller-stays caller right =
      let awaits = m.all.sound.threads.callers self caller (ap (λ (u : ThreadState). u.caller) (at-place s self own is) ∙ right) in
      elim (as_thread (s.objects caller)) as (λ (o : Option ThreadState). as_thread (s.objects caller) ≡ o → after.objects caller ≡ s.objects caller) [
        | Some u ↦ λ there. let was_there = thread-object (s.objects caller) u there in thread-still caller u was_there ∙ sym was_there
        | None ↦ λ none. absurd (let clash : true ≡ false =
            sym awaits ∙ ap (λ (o : Option ThreadState). awaits_answer (option_map_or (λ (u : ThreadState). u) o new_thread).status) none in cc)
      ] refl

  still : after.objects self ≡ Some (ThreadObject own)
  still = thread-still self own is

  ready-same : (priority : ℕ) → after.ready priority ≡ s.ready priority
  ready-same priority =
      filter-whole (λ thread. not (is_ending_thread s all thread)) (λ thread. ap not (no-thread-ends image t s slots m set inside thread)) (s.ready priority)

  pub emptied-within : WithinAuthority image t.thread s (emptied s (with_bindings s set))
  emptied-within = record {
    memory_bits = refl;
    boot_radix = refl;
    bytes = bytes-change;
    objects = objects-change;
    slots = own-slots;
    frame_mappings = frames-change;
    table_mappings = λ slot mapping differs either. absurd (differs (no-table slot));
    mapped = λ slot mapping fresh now.
        absurd (fresh (mapping-there image t s slots m set set inside inside (λ x mine. refl) pools slot mapping now));
    capabilities = granted;
    endpoints = λ offset old now before behind differs.
        let e : Some (EndpointObject now) ≡ Some (EndpointObject old) = sym (was offset (EndpointObject now) behind) ∙ before in
        let f : old ≡ now = cc in absurd (differs f);
    notifications = λ offset old now before behind differs.
        let e : Some (NotificationObject now) ≡ Some (NotificationObject old) = sym (was offset (NotificationObject now) behind) ∙ before in
        let f : old ≡ now = cc in absurd (differs f);
    parents = parents-change;
    used = used-change;
    priority = between (λ (old now : ThreadState). now.priority ≡ old.priority) (s.objects self) (after.objects self) own own is still refl;
    slice = between (SliceChange s after self) (s.objects self) (after.objects self) own own is still (same_slice refl);
    fault_address = between (λ (old now : ThreadState). now.fault_address ≡ old.fault_address) (s.objects self) (after.objects self) own own is still refl;
    right = between (λ (old now : ThreadState). RightChange image t.thread s after old.caller now.caller) (s.objects self) (after.objects self) own own is still
        (kept refl caller-stays);
    threads = λ other old now apart before behind differs.
        let e : Some (ThreadObject now) ≡ Some (ThreadObject old) = sym (was other (ThreadObject now) behind) ∙ before in
        let f : old ≡ now = cc in absurd (differs f);
    lines = λ number either. elim either [ inl differs ↦ absurd (differs refl) | inr differs ↦ absurd (differs refl) ];
    ready = λ priority.
        let same = ready-same priority in
        let count : times_in (after.ready priority) self ≡ times_in (s.ready priority) self = ap (λ (l : List ℕ). times_in l self) same in
        record {
          added = [];
          list = ap (without self) same ∙ append-none (without self (s.ready priority));
          woken = λ thread added. absurd (omega (arith, added.1));
          once = λ thread. omega arith;
          own = omega (arith, count);
        };
  }

  -- ---- untyped memory

  not-gone : (slot offset bits old : ℕ) → capability_at s.slots slot ≡ Untyped offset bits old → all slot ≡ true → ⊥
  not-gone slot offset bits old before gone = elim (set-or-empty image t s slots m set inside slot gone) [
    | inl here ↦ false≢true (sym (pools slot here) ∙ ap is_untyped before)
    | inr none ↦ let clash : Empty ≡ Untyped offset bits old = sym none ∙ before in cc
  ]

  -- each of the thread's untyped memories stays, with a watermark
  pub left-pools : PoolsIn image t s.slots (emptied s (with_bindings s set)).slots
  left-pools slot offset bits old mine before =
      elim (all slot) as (λ (b : Bool). all slot ≡ b → (now : ℕ) × (capability_at after.slots slot ≡ Untyped offset bits now)) [
        | true ↦ λ gone. absurd (not-gone slot offset bits old before gone)
        | false ↦ λ stays. (
          (if loses_last_child s all slot then 0 else old),
          held slot ∙ ap (λ (b : Bool). if b then Empty else stays_as slot) stays ∙ ap (reset (loses_last_child s all slot)) before,
        )
      ] refl
