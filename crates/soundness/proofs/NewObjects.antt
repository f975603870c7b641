-- New objects in untyped memory: what is where afterwards.
use Rattle.std.proofs.Common.{ℕ, zero, suc, ◌≡◌, ◌≢◌, ◌∙◌, ◌==◌, ◌&&◌, ◌+◌, ◌-◌, ◌*◌, ◌/◌, ◌%◌, ◌^◌, ◌<◌, ◌≤◌, ◌⊎◌, inl, inr, Bool, true, false, not, is_some}
use Rattle.std.proofs.Common.{IsSome, if◌then◌else◌, pow_pos, List, [], Option, Some, None, option_map, refl, sym, ap, subst, arith}
use Rattle.std.specs.Option.{option_map_or}
use Rattle.std.specs.Prelude.{All, ◌↔◌}
use Rattle.std.proofs.lemmas.Bool.{and_from, and_parts, cases_lt, eq-eqb, eqb-true}
use Rattle.std.proofs.lemmas.List.Elements.{All-nil}
use Rattle.std.proofs.lemmas.Bool.Decides.{eqb_tells}
use Rattle.std.proofs.Math.Pow.{pow_mono}
use Rattle.model.proofs.Ancestors.{full-open}
use Rattle.model.proofs.Depths.{Parents, depth-mono, depth-none, depth-some}
use Rattle.model.specs.Capabilities.CapabilityWords.{IsCapability}
use Rattle.model.proofs.SlotChanges.{bounds-within, capability_of, entry-other, entry-same, parent_of, within-bounds}
use Rattle.model.specs.declared.capabilities.Cap.{Cap}
use Rattle.model.specs.declared.capabilities.Cap.TheVariants.{Empty, PageTable, Untyped}
use Rattle.model.specs.declared.capabilities.FrameMapping.{FrameMapping}
use Rattle.model.specs.declared.capabilities.TableMapping.{TableMapping}
use Rattle.model.specs.Capabilities.CapabilityKinds.{frame_mapping, table_mapping}
use Rattle.model.specs.Kernel.AddressSpaces.{is_page, is_region, is_region_taken, maps_region, region_pages}
use Rattle.model.specs.Shared.Lists.{times_in}
use Rattle.soundness.proofs.Carried.{full-near, full-unless, held-at, held-by, some-passes}
use Rattle.soundness.proofs.Moving.{StandsAs, own_of, stands-same}
use Rattle.model.specs.declared.slot_entries.Entry.{Entry}
use Rattle.model.specs.Capabilities.Slots.{Descendant, child, deeper, IsDerivation, IsFull, IsOpen, Slots, capability_at, depth_of, depth_within, empty_entry}
use Rattle.model.specs.Capabilities.Slots.{is_empty, is_full, is_within, parent_at, recapped}
use Rattle.model.specs.Kernel.Kinds.{AreApart, Names, Piece, frame_around, kind_at, kind_of, object_named, piece_of, used_of}
use Rattle.model.specs.Kernel.Removal.{slot_count}
use Rattle.model.specs.Kernel.Retype.{NewObject, NewUntyped, NewThread, NewEndpoint, NewNotification, NewCNode, NewFrame, NewPageTable, NewRootTable}
use Rattle.model.specs.Kernel.Retype.{NewObjects, first_capability, is_frame, is_large_enough, is_small_enough, object, object_bits, place_of_new, some_new}
use Rattle.model.specs.Kernel.Retype.{with_first_capabilities, with_new, with_new_bytes, with_new_objects, with_new_slots}
use Rattle.model.specs.Kernel.Soundness.{HasShape, HasSlot, of_boot_area, of_object, IsSound, MappingsAreSound, MemoryIsSound, SlotsAreSound, ThreadIsSound}
use Rattle.model.specs.Kernel.Soundness.{ThreadsAreSound, waiting_at, Lies, apart, same, within, around, SenderIsSound}
use Rattle.model.specs.Kernel.State.{State, Object, ThreadObject, EndpointObject, NotificationObject, EndpointState, NotificationState, ThreadState}
use Rattle.model.specs.Kernel.State.{boot_area_end, slot_of, with_slots}
use Rattle.soundness.proofs.NewKinds.{born, first-fresh, first-named, first-piece, first-table, first-valid, frame-kind, named-first, new-fine, new-kind}
use Rattle.soundness.proofs.NewKinds.{new-slots, new_piece}
use Rattle.soundness.proofs.NewPlaces.{IsLaid, next-within, place-some, some-place}
use Rattle.soundness.proofs.Pieces.{slots-fit, slots_of_kind}
use Rattle.soundness.proofs.Places.{IsPlain, MayHold, StandsIn, full-may_hold, plain-may_hold, plain-open, slot-stands, stands-slot}
use Rattle.soundness.proofs.Rest.{thread-kind}
use Rattle.soundness.proofs.UnusedMemory.{Against, lies-against, object-elsewhere, unused-inside}

-- What is known before new objects come: where the untyped memory is, where the objects are to lie, and that their capabilities
-- have room in slots of a CNode.
pub record Retypes (s : State) (slot offset bits watermark : ℕ) (kind : NewObject) (first count mark window : ℕ) : Type 0 where
  pub memory : capability_at s.slots slot ≡ Untyped offset bits watermark
  pub laid : IsLaid offset bits watermark (object_bits kind) count first mark
  pub large : is_large_enough kind ≡ true
  pub small : is_small_enough kind ≡ true
  pub plain : (j : ℕ) → j < count → IsPlain s (window + j)
  pub free : (j : ℕ) → j < count → is_full s.slots (window + j) ≡ false
  pub room : depth_of s.slots slot < 255

-- slots that are no parents can have other parents, and the others keep their depths
pub depth-leaves : (n : ℕ) (old now : Parents) (leaf : ℕ → Bool) → ((x : ℕ) → leaf x ≡ false → now x ≡ old x) → ((x p : ℕ) → old x ≡ Some p → leaf p ≡ false)
    → (x : ℕ) → leaf x ≡ false → depth_within n now x ≡ depth_within n old x
unfolding depth_within
depth-leaves zero old now leaf same_parents no_parent x other = refl
depth-leaves (suc n) old now leaf same_parents no_parent x other =
    elim (old x) as (λ o. old x ≡ o → depth_within (suc n) now x ≡ depth_within (suc n) old x) [
      | None ↦ λ is. depth-none (suc n) now x (same_parents x other ∙ is) ∙ sym (depth-none (suc n) old x is)
      | Some p ↦ λ is.
          depth-some n now x p (same_parents x other ∙ is) ∙ ap (λ (d : ℕ). d + 1) (depth-leaves n old now leaf same_parents no_parent p (no_parent x p is))
          ∙ sym (depth-some n old x p is)
    ] refl

-- what has slots is an object
slotted-kind : (kind : NewObject) → 1 ≤ slots_of_kind kind → option_map kind_of (object kind) ≡ Some kind
slotted-kind (NewUntyped bits) some = absurd (omega (arith, some))
slotted-kind NewThread some = refl
slotted-kind NewEndpoint some = refl
slotted-kind NewNotification some = refl
slotted-kind (NewCNode radix) some = refl
slotted-kind NewFrame some = refl
slotted-kind NewPageTable some = refl
slotted-kind NewRootTable some = refl

-- the frame of a place among frames that lie one after another
frame-index : (first count p : ℕ) → first % 2 ^ 12 ≡ 0 → first ≤ p → p < first + count * 2 ^ 12
    → ((p - first) / 2 ^ 12 < count) × (first + (p - first) / 2 ^ 12 * 2 ^ 12 ≡ p - p % 2 ^ 12)
frame-index first count p aligned low high = (omega (arith, aligned, low, high), omega (arith, aligned, low, high))

frame-within : (first count i p : ℕ) → i < count → first + i * 2 ^ 12 ≡ p - p % 2 ^ 12 → (first ≤ p) × (p < first + count * 2 ^ 12)
frame-within first count i p less at = (omega (arith, at), omega (arith, at, less))

-- where a slot is afterwards
pub data PlaceOf (new : NewObjects) (before after : Slots) (slot window : ℕ) (used : Cap) (x : ℕ) : Type 0 where
  in_window : (j : ℕ) → j < new.count → x ≡ window + j →
      after x ≡ Some (record { capability = first_capability new.kind (place_of_new new j); parent = Some slot })
      → PlaceOf new before after slot window used x
  in_new : (i : ℕ) → i < new.count → place_of_new new i / 16 ≤ x → x < place_of_new new i / 16 + slots_of_kind new.kind → after x ≡ Some empty_entry
      → PlaceOf new before after slot window used x
  at_slot : x ≡ slot → after x ≡ Some (record { capability = used; parent = parent_at before slot }) → PlaceOf new before after slot window used x
  elsewhere : x ≢ slot → after x ≡ before x → PlaceOf new before after slot window used x

module _ (s : State) (sound : IsSound s) (slot offset bits watermark : ℕ) (kind : NewObject) (first count mark window : ℕ)
    (known : Retypes s slot offset bits watermark kind first count mark window) where
  abbrev new : NewObjects
  new = record { kind = kind; first = first; count = count }

  abbrev place : ℕ → ℕ
  place i = first + i * 2 ^ object_bits kind

  abbrev changed : Slots
  changed = recapped s.slots slot (Untyped offset bits mark)

  abbrev after : Slots
  after = with_first_capabilities new window slot (with_new_slots new changed)

  abbrev whole_piece : Piece
  whole_piece = record { first = offset; size = 2 ^ bits }

  -- an object lies in the free part of the memory
  pub place-inside : (i : ℕ) → i < count → (offset + watermark ≤ place i) × (place i + 2 ^ object_bits kind ≤ offset + mark) × (mark ≤ 2 ^ bits)
  place-inside i less =
      let next = next-within i count (2 ^ object_bits kind) less in
      let low = known.laid.behind in
      let ends = known.laid.ends in
      (omega (arith, low), omega (arith, next, ends), known.laid.fits)

  -- ---- what lies against the memory

  pub slot-inside : (boot_area_end s.boot_radix ≤ offset) × (offset + 2 ^ bits ≤ 2 ^ s.memory_bits)
  slot-inside = unused-inside s sound slot offset bits watermark known.memory

  pub against : (y : ℕ) (p : Piece) → y ≢ slot → piece_of (capability_at s.slots y) ≡ Some p → Against s slot offset bits watermark y p
  against = lies-against s sound slot offset bits watermark known.memory

  -- an object of before lies elsewhere
  pub object-apart : (o : ℕ) (k : NewObject) → kind_at s o ≡ Some k → (o + 2 ^ object_bits k ≤ offset + watermark) ⊎ (offset + 2 ^ bits ≤ o)
  object-apart = object-elsewhere s sound slot offset bits watermark known.memory

  no-object : (i : ℕ) (o : Option Object) → i < count → s.objects (place i) ≡ o → o ≡ None
  no-object i None less is = refl
  no-object i (Some x) less is =
      let inside = place-inside i less in
      let low = inside.0 in
      let high = inside.1 in
      let fits = inside.2 in
      let one = pow_pos (object_bits kind) in
      let other = pow_pos (object_bits (kind_of x)) in
      elim (object-apart (place i) (kind_of x) (ap (option_map kind_of) is)) [
        | inl before ↦ absurd (omega (arith, before, low, other))
        | inr behind ↦ absurd (omega (arith, behind, high, fits, one))
      ]

  pub none-there : (i : ℕ) → i < count → s.objects (place i) ≡ None
  none-there i less = no-object i (s.objects (place i)) less refl

  -- no slot is there yet
  pub not-there : (i x : ℕ) → i < count → place i / 16 ≤ x → x < place i / 16 + slots_of_kind kind → HasSlot s x → ⊥
  not-there i x less low high (of_boot_area below) =
      let inside = (place-inside i less).0 in
      let start = slot-inside.0 in
      omega (arith, below, inside, start, low)
  not-there i x less low high (of_object o is) =
      let stands = slot-stands s o x is in
      let inside = place-inside i less in
      let at_least = inside.0 in
      let at_most = inside.1 in
      let fits = inside.2 in
      let mine = slots-fit kind in
      let its = slots-fit stands.kind in
      let from = stands.low in
      let to = stands.high in
      elim (object-apart o stands.kind stands.is) [
        | inl before ↦ omega (arith, before, at_least, its, to, low)
        | inr behind ↦ omega (arith, behind, at_most, fits, mine, high, from)
      ]

  pub closed-there : (i x : ℕ) → i < count → place i / 16 ≤ x → x < place i / 16 + slots_of_kind kind → IsOpen s.slots x → ⊥
  closed-there i x less low high open_there = not-there i x less low high ((sound.slots.there x).0 open_there)

  -- ---- the slots

  after-window : (j : ℕ) → j < count → after (window + j) ≡ Some (record { capability = first_capability kind (place j); parent = Some slot })
  after-window j less =
      let entry = λ (n : ℕ). let e : Option Entry = Some (record { capability = first_capability kind (place_of_new new n); parent = Some slot }) in e in
      ap (λ (b : Bool). if b then entry (window + j - window) else with_new_slots new changed (window + j))
      (bounds-within window count (window + j) (omega arith) (omega (arith, less)))
      ∙ ap entry (omega arith)

  outside-window : (x : ℕ) → is_within window count x ≡ false → after x ≡ with_new_slots new changed x
  outside-window x outside =
      let entry : Option Entry = Some (record { capability = first_capability kind (place_of_new new (x - window)); parent = Some slot }) in
      ap (λ (b : Bool). if b then entry else with_new_slots new changed x) outside

  not-in-window : (x : ℕ) → ((j : ℕ) → j < count → x ≡ window + j → ⊥) → is_within window count x ≡ false
  not-in-window x none =
      elim (is_within window count x) as (λ b. is_within window count x ≡ b → b ≡ false) [
        | true ↦ λ inside.
            let bounds = within-bounds window count x inside in
            let low = bounds.0 in
            let high = bounds.1 in
            absurd (none (x - window) (omega (arith, low, high)) (omega (arith, low)))
        | false ↦ λ _. refl
      ] refl

  changed-here : changed slot ≡ Some (record { capability = Untyped offset bits mark; parent = parent_at s.slots slot })
  changed-here = entry-same s.slots slot (Some (record { capability = Untyped offset bits mark; parent = parent_at s.slots slot }))

  changed-other : (x : ℕ) → x ≢ slot → changed x ≡ s.slots x
  changed-other x other = entry-other s.slots slot (Some (record { capability = Untyped offset bits mark; parent = parent_at s.slots slot })) x other

  in-new : (x : ℕ) → some_new new (λ at. is_within (slot_of at 0) (slot_count (object kind)) x) ≡ true
      → with_new_slots new changed x ≡ Some empty_entry
  in-new x is = ap (λ (b : Bool). if b then Some empty_entry else changed x) is

  out-new : (x : ℕ) → some_new new (λ at. is_within (slot_of at 0) (slot_count (object kind)) x) ≡ false → with_new_slots new changed x ≡ changed x
  out-new x is = ap (λ (b : Bool). if b then Some empty_entry else changed x) is

  pub place-of : (x : ℕ) → PlaceOf new s.slots after slot window (Untyped offset bits mark) x
  place-of x =
      elim (is_within window count x) as (λ b. is_within window count x ≡ b → PlaceOf new s.slots after slot window (Untyped offset bits mark) x) [
        | true ↦ λ inside.
            let bounds = within-bounds window count x inside in
            let low = bounds.0 in
            let high = bounds.1 in
            let less : x - window < count = omega (arith, low, high) in
            let at : x ≡ window + (x - window) = omega (arith, low) in
            in_window (x - window) less at (ap after at ∙ after-window (x - window) less)
        | false ↦ λ outside.
            elim (some_new new (λ at. is_within (slot_of at 0) (slot_count (object kind)) x))
            as (λ b. some_new new (λ at. is_within (slot_of at 0) (slot_count (object kind)) x) ≡ b
            → PlaceOf new s.slots after slot window (Untyped offset bits mark) x) [
              | true ↦ λ is.
                  let found = some-place new (λ at. is_within (slot_of at 0) (slot_count (object kind)) x) is in
                  let bounds = within-bounds (slot_of (place found.0) 0) (slot_count (object kind)) x found.2 in
                  let low = bounds.0 in
                  let high = bounds.1 in
                  let size = new-slots kind in
                  in_new found.0 found.1 (omega (arith, low)) (omega (arith, high, size)) (outside-window x outside ∙ in-new x is)
              | false ↦ λ is. elim (eqb_tells x slot) [
                | inl here ↦ at_slot here.1 (outside-window x outside ∙ out-new x is ∙ ap changed here.1 ∙ changed-here)
                | inr other ↦ elsewhere other.1 (outside-window x outside ∙ out-new x is ∙ changed-other x other.1)
              ]
            ] refl
      ] refl

  -- ---- what becomes of slots that were full, or open

  window-not_full : (j x : ℕ) → j < count → x ≡ window + j → IsFull s.slots x → ⊥
  window-not_full j x less at full = let clash : true ≡ false = sym full ∙ ap (is_full s.slots) at ∙ known.free j less in cc

  pub full-stays : (x : ℕ) → IsFull s.slots x → (x ≡ slot) ⊎ ((x ≢ slot) × (after x ≡ s.slots x))
  full-stays x full = elim (place-of x) [
    | in_window j less at is ↦ absurd (window-not_full j x less at full)
    | in_new i less low high is ↦ absurd (closed-there i x less low high (full-open s.slots x full))
    | at_slot here is ↦ inl here
    | elsewhere other is ↦ inr (other, is)
  ]

  pub slot-full : IsFull s.slots slot
  slot-full = ap (λ (c : Cap). not (is_empty c)) known.memory

  pub after-slot : after slot ≡ Some (record { capability = Untyped offset bits mark; parent = parent_at s.slots slot })
  after-slot = elim (place-of slot) [
    | in_window j less at is ↦ absurd (window-not_full j slot less at slot-full)
    | in_new i less low high is ↦ absurd (closed-there i slot less low high (full-open s.slots slot slot-full))
    | at_slot here is ↦ is
    | elsewhere other is ↦ absurd (other refl)
  ]

  pub window-after : (j : ℕ) → j < count → after (window + j) ≡ Some (record { capability = first_capability kind (place j); parent = Some slot })
  window-after = after-window

  -- an open slot stays open
  pub open-stays : (x : ℕ) → IsOpen s.slots x → IsOpen after x
  open-stays x was = elim (place-of x) [
    | in_window j less at is ↦ ap is_some is
    | in_new i less low high is ↦ ap is_some is
    | at_slot here is ↦ ap is_some is
    | elsewhere other is ↦ ap is_some is ∙ was
  ]

  -- the slots of a new object are open
  pub new-open : (i x : ℕ) → i < count → place i / 16 ≤ x → x < place i / 16 + slots_of_kind kind → after x ≡ Some empty_entry
  new-open i x less low high = elim (place-of x) [
    | in_window j fewer at is ↦
        absurd (closed-there i x less low high (subst (IsOpen s.slots) (sym at) (plain-open s sound.slots (window + j) (known.plain j fewer))))
    | in_new k fewer from to is ↦ is
    | at_slot here is ↦ absurd (closed-there i x less low high (subst (IsOpen s.slots) (sym here) (full-open s.slots slot slot-full)))
    | elsewhere other is ↦
        outside-window x (not-in-window x (λ j fewer at. closed-there i x less low high
        (subst (IsOpen s.slots) (sym at) (plain-open s sound.slots (window + j) (known.plain j fewer)))))
        ∙ in-new x (place-some new (λ at. is_within (slot_of at 0) (slot_count (object kind)) x) i less
        (let size = new-slots kind in bounds-within (slot_of (place i) 0) (slot_count (object kind)) x (omega (arith, low)) (omega (arith, high, size))))
  ]

  -- ---- the objects

  abbrev objects : ℕ → Option Object
  objects = with_new_objects new s.objects

  abbrev NewAt : ℕ → Type 0
  NewAt o = (i : ℕ) × (i < count) × (place i ≡ o)

  pub new-at : (o : ℕ) → NewAt o ⊎ ((NewAt o → ⊥) × (objects o ≡ s.objects o))
  new-at o = elim (some_new new (λ at. at == o)) as (λ b. some_new new (λ at. at == o) ≡ b → NewAt o ⊎ ((NewAt o → ⊥) × (objects o ≡ s.objects o))) [
    | true ↦ λ is. let found = some-place new (λ at. at == o) is in inl (found.0, found.1, eqb-true (place found.0) o found.2)
    | false ↦ λ is. inr (
      (λ found. let clash : true ≡ false = sym (place-some new (λ at. at == o) found.0 found.1 (eq-eqb (place found.0) o found.2)) ∙ is in cc),
      ap (λ (b : Bool). if b then option_map_or Some (object kind) (s.objects o) else s.objects o) is,
    )
  ] refl

  only-new : (o : Option Object) → option_map_or Some o None ≡ o
  only-new None = refl
  only-new (Some x) = refl

  pub objects-new : (i : ℕ) → i < count → objects (place i) ≡ object kind
  objects-new i less =
      ap (λ (b : Bool). if b then option_map_or Some (object kind) (s.objects (place i)) else s.objects (place i))
      (place-some new (λ at. at == place i) i less (eq-eqb (place i) (place i) refl))
      ∙ ap (λ (o : Option Object). option_map_or Some (object kind) o) (none-there i less)
      ∙ only-new (object kind)

  -- what holds of the new objects and of those of before
  pub objects-by : (P : ℕ → Option Object → Type 0) → ((i : ℕ) → i < count → P (place i) (object kind)) → ((o : ℕ) → (NewAt o → ⊥) → P o (s.objects o))
      → (o : ℕ) → P o (objects o)
  objects-by P fresh stays o = elim (new-at o) [
    | inl found ↦ subst (λ (o : ℕ). P o (objects o)) found.2 (subst (P (place found.0)) (sym (objects-new found.0 found.1)) (fresh found.0 found.1))
    | inr old ↦ subst (P o) (sym old.1) (stays o old.0)
  ]

  -- ---- what the slots hold

  slot-valid : IsCapability (Untyped offset bits mark)
  slot-valid = let was : IsCapability (Untyped offset bits watermark) = subst IsCapability known.memory (sound.slots.derivation.valid slot) in
      (was.0, was.1, was.2, known.laid.fits)

  place-less : (i : ℕ) → i < count → place i < 2 ^ 24
  place-less i less =
      let inside = place-inside i less in
      let high = inside.1 in
      let fits = inside.2 in
      let end = slot-inside.1 in
      let one = pow_pos (object_bits kind) in
      let most : 2 ^ s.memory_bits ≤ 2 ^ 24 = pow_mono sound.shape.most_bits in
      omega (arith, high, fits, end, one, most)

  valid-after : (x : ℕ) → IsCapability (capability_at after x)
  valid-after x = elim (place-of x) [
    | in_window j less at is ↦
        subst (λ (o : Option Entry). IsCapability (capability_of o)) (sym is)
        (first-valid kind (place j) known.large known.small (known.laid.aligned j) (place-less j less))
    | in_new i less low high is ↦ subst (λ (o : Option Entry). IsCapability (capability_of o)) (sym is) tt
    | at_slot here is ↦ subst (λ (o : Option Entry). IsCapability (capability_of o)) (sym is) slot-valid
    | elsewhere other is ↦ subst (λ (o : Option Entry). IsCapability (capability_of o)) (sym is) (sound.slots.derivation.valid x)
  ]

  full-after : (x : ℕ) → IsFull s.slots x → IsFull after x
  full-after x full = elim (full-stays x full) [
    | inl here ↦ ap (is_full after) here ∙ ap (λ (o : Option Entry). not (is_empty (capability_of o))) after-slot
    | inr old ↦ ap (λ (o : Option Entry). not (is_empty (capability_of o))) old.1 ∙ full
  ]

  closed-parent : (x : ℕ) (o : Option Entry) → s.slots x ≡ o → (IsOpen s.slots x → ⊥) → parent_at s.slots x ≡ None
  closed-parent x None is none = ap parent_of is
  closed-parent x (Some held) is none = absurd (none (ap is_some is))

  parent-else : (x : ℕ) → is_within window count x ≡ false → parent_at after x ≡ parent_at s.slots x
  parent-else x outside = elim (place-of x) [
    | in_window j less at is ↦ absurd (let clash : false ≡ true = sym outside ∙ bounds-within window count x (omega (arith, at)) (omega (arith, at, less)) in
        cc)
    | in_new i less low high is ↦ ap parent_of is ∙ sym (closed-parent x (s.slots x) refl (closed-there i x less low high))
    | at_slot here is ↦ ap parent_of is ∙ ap (parent_at s.slots) (sym here)
    | elsewhere other is ↦ ap parent_of is
  ]

  both-full : (x p : ℕ) → parent_at after x ≡ Some p → IsFull after x × IsFull after p
  both-full x p is_parent = elim (place-of x) [
    | in_window j less at is ↦
        let e : slot ≡ p = (let f : Some slot ≡ Some p = ap parent_of (sym is) ∙ is_parent in cc) in (
          ap (λ (o : Option Entry). not (is_empty (capability_of o))) is ∙ ap not (first-fresh kind (place j)).empty,
          subst (IsFull after) e (full-after slot slot-full),
        )
    | in_new i less low high is ↦ let clash : None ≡ Some p = ap parent_of (sym is) ∙ is_parent in absurd cc
    | at_slot here is ↦
        let was : parent_at s.slots slot ≡ Some p = ap parent_of (sym is) ∙ is_parent in
        (subst (IsFull after) (sym here) (full-after slot slot-full), full-after p (sound.slots.derivation.parent_full slot p was))
    | elsewhere other is ↦
        let was : parent_at s.slots x ≡ Some p = ap parent_of (sym is) ∙ is_parent in
        (full-after x (sound.slots.derivation.child_full x p was), full-after p (sound.slots.derivation.parent_full x p was))
  ]

  full-outside : (p : ℕ) → IsFull s.slots p → is_within window count p ≡ false
  full-outside p full = not-in-window p (λ j less at. window-not_full j p less at full)

  depths-stay : (n x : ℕ) → is_within window count x ≡ false → depth_within n (parent_at after) x ≡ depth_within n (parent_at s.slots) x
  depths-stay n =
      depth-leaves n (parent_at s.slots) (parent_at after) (is_within window count) parent-else
      (λ x p is. full-outside p (sound.slots.derivation.parent_full x p is))

  shallow-after : (x : ℕ) (b : Bool) → is_within window count x ≡ b → depth_of after x ≤ 255
  shallow-after x false outside = let same = depths-stay 256 x outside in let was = sound.slots.derivation.shallow x in omega (arith, same, was)
  shallow-after x true inside =
      let bounds = within-bounds window count x inside in
      let low = bounds.0 in
      let high = bounds.1 in
      let at : x ≡ window + (x - window) = omega (arith, low) in
      let is : parent_at after x ≡ Some slot = ap (parent_at after) at ∙ ap parent_of (window-after (x - window) (omega (arith, low, high))) in
      let one = depth-some 255 (parent_at after) x slot is in
      let same = depths-stay 255 slot (full-outside slot slot-full) in
      let more = (depth-mono 255 (parent_at s.slots) slot).0 in
      let room = known.room in
      omega (arith, one, same, more, room)

  pub derivation-after : IsDerivation after
  derivation-after = record {
    valid = valid-after;
    child_full = λ x p is. (both-full x p is).0;
    parent_full = λ x p is. (both-full x p is).1;
    shallow = λ x. shallow-after x (is_within window count x) refl;
  }

  -- ---- the state

  abbrev state : State
  state = record s { slots = after; objects = objects; bytes = with_new_bytes new s.bytes }

  pub kind-still : (o : ℕ) (k : NewObject) → kind_at s o ≡ Some k → kind_at state o ≡ Some k
  kind-still o k is = elim (new-at o) [
    | inl found ↦ let clash : None ≡ Some k = ap (option_map kind_of) (sym (none-there found.0 found.1)) ∙ ap (kind_at s) found.2 ∙ is in absurd cc
    | inr old ↦ ap (option_map kind_of) old.1 ∙ is
  ]

  abbrev KindWas : ℕ → NewObject → Type 0
  KindWas o k = (kind_at s o ≡ Some k) ⊎ ((i : ℕ) × (i < count) × (place i ≡ o) × (option_map kind_of (object kind) ≡ Some k))

  pub kind-was : (o : ℕ) (k : NewObject) → kind_at state o ≡ Some k → KindWas o k
  kind-was o k is = elim (new-at o) [
    | inl found ↦ inr (found.0, found.1, found.2, ap (option_map kind_of) (sym (objects-new found.0 found.1)) ∙ ap (kind_at state) found.2 ∙ is)
    | inr old ↦ inl (ap (option_map kind_of) (sym old.1) ∙ is)
  ]

  stands-still : (o x : ℕ) → StandsIn s o x → StandsIn state o x
  stands-still o x stands = record { kind = stands.kind; is = kind-still o stands.kind stands.is; low = stands.low; high = stands.high }

  has-still : (x : ℕ) → HasSlot s x → HasSlot state x
  has-still x (of_boot_area less) = of_boot_area less
  has-still x (of_object o is) = of_object o (stands-slot state o x (stands-still o x (slot-stands s o x is)))

  open-has : (x : ℕ) → IsOpen after x → HasSlot state x
  open-has x opened = elim (place-of x) [
    | in_window j less at is ↦
        has-still x ((sound.slots.there x).0 (subst (IsOpen s.slots) (sym at) (plain-open s sound.slots (window + j) (known.plain j less))))
    | in_new i less low high is ↦
        of_object (place i) (stands-slot state (place i) x (record {
          kind = kind;
          is = ap (option_map kind_of) (objects-new i less) ∙ slotted-kind kind (omega (arith, low, high));
          low = low;
          high = high;
        }))
    | at_slot here is ↦ has-still x ((sound.slots.there x).0 (subst (IsOpen s.slots) (sym here) (full-open s.slots slot slot-full)))
    | elsewhere other is ↦ has-still x ((sound.slots.there x).0 (ap is_some (sym is) ∙ opened))
  ]

  has-open : (x : ℕ) → HasSlot state x → IsOpen after x
  has-open x (of_boot_area less) = open-stays x ((sound.slots.there x).1 (of_boot_area less))
  has-open x (of_object o is) =
      let stands = slot-stands state o x is in
      let low = stands.low in
      let high = stands.high in
      elim (kind-was o stands.kind stands.is) [
        | inl was ↦ open-stays x ((sound.slots.there x).1 (of_object o (stands-slot s o x (record { kind = stands.kind; is = was; low = low; high = high }))))
        | inr found ↦
            let same_kind : kind ≡ stands.kind = new-kind kind stands.kind found.3 in
            let from : place found.0 / 16 ≤ x = subst (λ (o : ℕ). o / 16 ≤ x) (sym found.2) low in
            let to : x < place found.0 / 16 + slots_of_kind stands.kind = subst (λ (o : ℕ). x < o / 16 + slots_of_kind stands.kind) (sym found.2) high in
            ap is_some (new-open found.0 x found.1 from (subst (λ (k : NewObject). x < place found.0 / 16 + slots_of_kind k) (sym same_kind) to))
      ]

  -- a slot that was open holds what it might hold before
  may-after : (x : ℕ) (c : Cap) → IsOpen s.slots x → MayHold s x c → MayHold state x c
  may-after x c was may =
      let new_thread : (thread index : ℕ) → index < 3 → (i : ℕ) → i < count → place i ≡ thread → option_map kind_of (object kind) ≡ Some NewThread →
      x ≡ thread / 16 + index → ⊥ = λ thread index few i less at is here.
      (let same_kind : kind ≡ NewThread = new-kind kind NewThread is in
      let three : slots_of_kind kind ≡ 3 = ap slots_of_kind same_kind in
      let sixteenth : place i / 16 ≡ thread / 16 = ap (λ (o : ℕ). o / 16) at in
      closed-there i x less (omega (arith, here, sixteenth)) (omega (arith, here, sixteenth, three, few)) was) in
      record {
        cspace = λ thread t is at. elim (kind-was thread NewThread (ap (option_map kind_of) is)) [
          | inl old ↦ let own = thread-kind (s.objects thread) old in may.cspace thread own.0 own.1 at
          | inr found ↦ absurd (new_thread thread 0 (omega arith) found.0 found.1 found.2 found.3 at)
        ];
        vspace = λ thread t is at. elim (kind-was thread NewThread (ap (option_map kind_of) is)) [
          | inl old ↦ let own = thread-kind (s.objects thread) old in may.vspace thread own.0 own.1 at
          | inr found ↦ absurd (new_thread thread 1 (omega arith) found.0 found.1 found.2 found.3 at)
        ];
        buffer = λ thread t is at. elim (kind-was thread NewThread (ap (option_map kind_of) is)) [
          | inl old ↦ let own = thread-kind (s.objects thread) old in may.buffer thread own.0 own.1 at
          | inr found ↦ absurd (new_thread thread 2 (omega arith) found.0 found.1 found.2 found.3 at)
        ];
        line = may.line;
      }

  slot-may : MayHold s slot (Untyped offset bits mark)
  slot-may =
      let may : MayHold s slot (Untyped offset bits watermark) = subst (MayHold s slot) known.memory (full-may_hold s sound.slots slot slot-full) in
      record { cspace = may.cspace; vspace = may.vspace; buffer = may.buffer; line = may.line }

  may-hold : (x : ℕ) → IsFull after x → MayHold state x (capability_at after x)
  may-hold x full = elim (place-of x) [
    | in_window j less at is ↦
        subst (λ (x : ℕ). MayHold state x (capability_at after x)) (sym at)
        (may-after (window + j) (capability_at after (window + j)) (plain-open s sound.slots (window + j) (known.plain j less))
        (plain-may_hold s sound.memory (window + j) (capability_at after (window + j)) (known.plain j less)))
    | in_new i less low high is ↦ let clash : false ≡ true = ap (λ (o : Option Entry). not (is_empty (capability_of o))) (sym is) ∙ full in absurd cc
    | at_slot here is ↦
        subst (λ (x : ℕ). MayHold state x (capability_at after x)) (sym here)
        (subst (λ (o : Option Entry). MayHold state slot (capability_of o)) (sym after-slot)
        (may-after slot (Untyped offset bits mark) (full-open s.slots slot slot-full) slot-may))
    | elsewhere other is ↦
        let same_capability : capability_at after x ≡ capability_at s.slots x = ap capability_of is in
        let was : IsFull s.slots x = subst (λ (c : Cap). not (is_empty c) ≡ true) same_capability full in
        subst (MayHold state x) (sym same_capability) (may-after x (capability_at s.slots x) (full-open s.slots x was) (full-may_hold s sound.slots x was))
  ]

  pub slots-after : SlotsAreSound state
  slots-after = record {
    derivation = derivation-after;
    there = λ x. (open-has x, has-open x);
    cspace = λ thread t is full. (may-hold _ full).cspace thread t is refl;
    vspace = λ thread t is full. (may-hold _ full).vspace thread t is refl;
    buffer = λ thread t is full. (may-hold _ full).buffer thread t is refl;
    bindings = λ number less full. (may-hold _ full).line number less refl;
  }

  -- ---- memory

  -- what a slot that was no capability of a new object names, it named before
  abbrev Old : ℕ → Type 0
  Old x = (x ≢ slot) × (capability_at after x ≡ capability_at s.slots x)

  -- the three kinds of capabilities
  data Holds (x : ℕ) : Type 0 where
    fresh : (j : ℕ) → j < count → x ≡ window + j → capability_at after x ≡ first_capability kind (place j) → Holds x
    memory : x ≡ slot → capability_at after x ≡ Untyped offset bits mark → Holds x
    nothing : capability_at after x ≡ Empty → Holds x
    old : x ≢ slot → capability_at after x ≡ capability_at s.slots x → Holds x

  holds : (x : ℕ) → Holds x
  holds x = elim (place-of x) [
    | in_window j less at is ↦ fresh j less at (ap capability_of is)
    | in_new i less low high is ↦ nothing (ap capability_of is)
    | at_slot here is ↦ memory here (ap capability_of is)
    | elsewhere other is ↦ old other (ap capability_of is)
  ]

  parent-stays : (x up : ℕ) → parent_at s.slots x ≡ Some up → parent_at after x ≡ Some up
  parent-stays x up is = parent-else x (full-outside x (sound.slots.derivation.child_full x up is)) ∙ is

  descends-stays : (root x : ℕ) → Descendant s.slots root x → Descendant after root x
  descends-stays root x (child _ is) = child x (parent-stays x root is)
  descends-stays root x (deeper _ up is below) = deeper x up (parent-stays x up is) (descends-stays root up below)

  -- new objects lie apart
  new-apart : (i j : ℕ) → i < count → j < count → i ≢ j → AreApart (new_piece kind (place i)) (new_piece kind (place j))
  new-apart i j less fewer differ = elim (cases_lt i j) [
    | inl before ↦ let next = next-within i j (2 ^ object_bits kind) before in inl (omega (arith, next))
    | inr behind ↦ let next = next-within j i (2 ^ object_bits kind) (omega (arith, behind, differ)) in inr (omega (arith, next))
  ]

  new-differ : (i j : ℕ) → i < count → j < count → place i ≡ place j → i ≡ j
  new-differ i j less fewer at = elim (eqb_tells i j) [
    | inl here ↦ here.1
    | inr differ ↦
        let one = pow_pos (object_bits kind) in
        elim (new-apart i j less fewer differ.1) [
          | inl before ↦ absurd (omega (arith, before, at, one))
          | inr behind ↦ absurd (omega (arith, behind, at, one))
        ]
  ]

  lies-flip : (a b : ℕ) (p q : Piece) → Lies after a b p q → Lies after b a q p
  lies-flip a b p q (apart is) = apart (elim is [ inl before ↦ inr before | inr behind ↦ inl behind ])
  lies-flip a b p q (same k o one other) = same k o other one
  lies-flip a b p q (within used is inside below) = around used is inside below
  lies-flip a b p q (around used is inside below) = within used is inside below

  -- a new object against what its untyped memory and others hold
  lies-memory : (i : ℕ) → i < count → Lies after (window + i) slot (new_piece kind (place i)) whole_piece
  lies-memory i less =
      let inside = place-inside i less in
      let low = inside.0 in
      let high = inside.1 in
      within (record { first = offset; size = mark }) (ap (λ (o : Option Entry). used_of (capability_of o)) after-slot) (omega (arith, low), high)
      (child (window + i) (ap parent_of (window-after i less)))

  lies-old : (i b : ℕ) (q : Piece) → i < count → b ≢ slot → capability_at after b ≡ capability_at s.slots b
      → piece_of (capability_at s.slots b) ≡ Some q
      → Lies after (window + i) b (new_piece kind (place i)) q
  lies-old i b q less other same_capability is =
      let inside = place-inside i less in
      let low = inside.0 in
      let high = inside.1 in
      let fits = inside.2 in
      elim (against b q other is) [
        | inl far ↦ elim far [
          | inl before ↦ apart (inr (omega (arith, before, low)))
          | inr behind ↦ apart (inl (omega (arith, behind, high, fits)))
        ]
        | inr near ↦
            let start = near.2.0 in
            let end = near.2.1 in
            within near.0 (ap used_of same_capability ∙ near.1) (omega (arith, start, low), omega (arith, end, high, fits))
            (deeper (window + i) slot (ap parent_of (window-after i less)) (descends-stays b slot near.3))
      ]

  -- the untyped memory against what lay against it
  lies-slot : (b : ℕ) (q : Piece) → capability_at after b ≡ capability_at s.slots b → Lies s.slots slot b whole_piece q
      → Lies after slot b whole_piece q
  lies-slot b q same_capability (apart is) = apart is
  lies-slot b q same_capability (same k o one other) =
      let e : ◌≡◌ {A = Option (NewObject × ℕ)} None (Some (k, o)) = sym (ap object_named known.memory) ∙ one in absurd cc
  lies-slot b q same_capability (within used is inside below) = within used (ap used_of same_capability ∙ is) inside (descends-stays b slot below)
  lies-slot b q same_capability (around used is inside below) =
      let e : Some (record { first = offset; size = watermark }) ≡ Some used = sym (ap used_of known.memory) ∙ is in
      let same_part : record { first = offset; size = watermark } ≡ used = cc e in
      let low : offset ≤ q.first = subst (λ (u : Piece). u.first ≤ q.first) (sym same_part) inside.0 in
      let high : q.first + q.size ≤ offset + watermark = subst (λ (u : Piece). q.first + q.size ≤ u.first + u.size) (sym same_part) inside.1 in
      let grown = known.laid.behind in
      let ends = known.laid.ends in
      around (record { first = offset; size = mark }) (ap (λ (o : Option Entry). used_of (capability_of o)) after-slot) (low, omega (arith, high, grown, ends))
      (descends-stays slot b below)

  lies-both : (a b : ℕ) (p q : Piece) → capability_at after a ≡ capability_at s.slots a → capability_at after b ≡ capability_at s.slots b
      → Lies s.slots a b p q → Lies after a b p q
  lies-both a b p q one other (apart is) = apart is
  lies-both a b p q one other (same k o first_named second_named) = same k o (ap object_named one ∙ first_named) (ap object_named other ∙ second_named)
  lies-both a b p q one other (within used is inside below) = within used (ap used_of other ∙ is) inside (descends-stays b a below)
  lies-both a b p q one other (around used is inside below) = around used (ap used_of one ∙ is) inside (descends-stays a b below)

  no-piece : (x : ℕ) (p : Piece) → capability_at after x ≡ Empty → piece_of (capability_at after x) ≡ Some p → ⊥
  no-piece x p empty is = let e : None ≡ Some p = ap piece_of (sym empty) ∙ is in cc

  fresh-piece : (x j : ℕ) (p : Piece) → capability_at after x ≡ first_capability kind (place j) → piece_of (capability_at after x) ≡ Some p
      → new_piece kind (place j) ≡ p
  fresh-piece x j p is piece = let e : Some (new_piece kind (place j)) ≡ Some p = sym (first-piece kind (place j)) ∙ ap piece_of (sym is) ∙ piece in cc e

  slot-piece : (x : ℕ) (p : Piece) → capability_at after x ≡ Untyped offset bits mark → piece_of (capability_at after x) ≡ Some p → whole_piece ≡ p
  slot-piece x p is piece = let e : Some whole_piece ≡ Some p = ap piece_of (sym is) ∙ piece in cc e

  lies-fresh : (a b j : ℕ) (p q : Piece) → a ≢ b → j < count → a ≡ window + j → new_piece kind (place j) ≡ p
      → piece_of (capability_at after b) ≡ Some q → Lies after a b p q
  lies-fresh a b j p q differ less at is_piece other =
      subst (λ (a : ℕ). Lies after a b p q) (sym at) (subst (λ (p : Piece). Lies after (window + j) b p q) is_piece (elim (holds b) [
        | fresh k fewer there is ↦
            subst (λ (q : Piece). Lies after (window + j) b (new_piece kind (place j)) q) (fresh-piece b k q is other)
            (apart (new-apart j k less fewer (λ e. differ (at ∙ ap (λ (n : ℕ). window + n) e ∙ sym there))))
        | memory here is ↦
            subst (λ (b : ℕ). Lies after (window + j) b (new_piece kind (place j)) q) (sym here)
            (subst (λ (q : Piece). Lies after (window + j) slot (new_piece kind (place j)) q) (slot-piece b q is other) (lies-memory j less))
        | nothing empty ↦ absurd (no-piece b q empty other)
        | old apart_slot is ↦ lies-old j b q less apart_slot is (ap piece_of (sym is) ∙ other)
      ]))

  lies-untyped : (b : ℕ) (q : Piece) → b ≢ slot → Holds b → piece_of (capability_at after b) ≡ Some q → Lies after slot b whole_piece q
  lies-untyped b q other (fresh j less at is) piece = lies-flip b slot q whole_piece
      (lies-fresh b slot j q whole_piece other less at (fresh-piece b j q is piece) (ap (λ (o : Option Entry). piece_of (capability_of o)) after-slot))
  lies-untyped b q other (memory here is) piece = absurd (other here)
  lies-untyped b q other (nothing empty) piece = absurd (no-piece b q empty piece)
  lies-untyped b q other (old apart_slot is) piece =
      lies-slot b q is (sound.memory.lies slot b whole_piece q (λ e. other (sym e)) (ap piece_of known.memory) (ap piece_of (sym is) ∙ piece))

  lies-after : (a b : ℕ) (p q : Piece) → a ≢ b → Holds a → Holds b → piece_of (capability_at after a) ≡ Some p
      → piece_of (capability_at after b) ≡ Some q → Lies after a b p q
  lies-after a b p q differ (fresh j less at is) there one other = lies-fresh a b j p q differ less at (fresh-piece a j p is one) other
  lies-after a b p q differ (memory here is) there one other =
      subst (λ (a : ℕ). Lies after a b p q) (sym here)
      (subst (λ (p : Piece). Lies after slot b p q) (slot-piece a p is one) (lies-untyped b q (λ e. differ (here ∙ sym e)) there other))
  lies-after a b p q differ (nothing empty) there one other = absurd (no-piece a p empty one)
  lies-after a b p q differ (old apart_slot is) (fresh k fewer at too) one other =
      lies-flip b a q p (lies-fresh b a k q p (λ e. differ (sym e)) fewer at (fresh-piece b k q too other) one)
  lies-after a b p q differ (old apart_slot is) (memory here too) one other =
      subst (λ (b : ℕ). Lies after a b p q) (sym here)
      (subst (λ (q : Piece). Lies after a slot p q) (slot-piece b q too other)
      (lies-flip slot a whole_piece p (lies-untyped a p apart_slot (old apart_slot is) one)))
  lies-after a b p q differ (old apart_slot is) (nothing empty) one other = absurd (no-piece b q empty other)
  lies-after a b p q differ (old apart_slot is) (old also too) one other =
      lies-both a b p q is too (sound.memory.lies a b p q differ (ap piece_of (sym is) ∙ one) (ap piece_of (sym too) ∙ other))

  inside-after : (x : ℕ) (p : Piece) → Holds x → piece_of (capability_at after x) ≡ Some p
      → (boot_area_end s.boot_radix ≤ p.first) × (p.first + p.size ≤ 2 ^ s.memory_bits)
  inside-after x p (fresh j less at is) piece =
      let inside = place-inside j less in
      let low = inside.0 in
      let high = inside.1 in
      let fits = inside.2 in
      let start = slot-inside.0 in
      let end = slot-inside.1 in
      let both : (boot_area_end s.boot_radix ≤ place j) × (place j + 2 ^ object_bits kind ≤ 2 ^ s.memory_bits) =
      (omega (arith, low, start), omega (arith, high, fits, end)) in
      subst (λ (p : Piece). (boot_area_end s.boot_radix ≤ p.first) × (p.first + p.size ≤ 2 ^ s.memory_bits)) (fresh-piece x j p is piece) both
  inside-after x p (memory here is) piece =
      subst (λ (p : Piece). (boot_area_end s.boot_radix ≤ p.first) × (p.first + p.size ≤ 2 ^ s.memory_bits)) (slot-piece x p is piece) slot-inside
  inside-after x p (nothing empty) piece = absurd (no-piece x p empty piece)
  inside-after x p (old other is) piece = sound.memory.inside x p (ap piece_of (sym is) ∙ piece)

  named-after : (x : ℕ) (k : NewObject) (o : ℕ) → Holds x → Names k o (capability_at after x) → kind_at state o ≡ Some k
  named-after x k o (fresh j less at is) names =
      let named = first-named kind (place j) (k, o) (ap object_named (sym is) ∙ names) in
      let same_kind : kind ≡ k = ap (λ (n : NewObject × ℕ). n.0) named.same in
      let same_place : place j ≡ o = ap (λ (n : NewObject × ℕ). n.1) named.same in
      ap (kind_at state) (sym same_place) ∙ ap (option_map kind_of) (objects-new j less) ∙ named.there ∙ ap (λ (k : NewObject). Some k) same_kind
  named-after x k o (memory here is) names = let e : ◌≡◌ {A = Option (NewObject × ℕ)} None (Some (k, o)) = ap object_named (sym is) ∙ names in absurd cc
  named-after x k o (nothing empty) names = let e : ◌≡◌ {A = Option (NewObject × ℕ)} None (Some (k, o)) = ap object_named (sym empty) ∙ names in absurd cc
  named-after x k o (old other is) names = kind-still o k (sound.memory.named x k o (ap object_named (sym is) ∙ names))

  live-after : (o : ℕ) (k : NewObject) → KindWas o k → (x : ℕ) × Names k o (capability_at after x)
  live-after o k (inl was) =
      let name = sound.memory.live o k was in
      let full = full-unless (capability_at s.slots name.0) object_named (k, o) refl name.1 in
      elim (full-stays name.0 full) [
        | inl here ↦
            let e : ◌≡◌ {A = Option (NewObject × ℕ)} None (Some (k, o)) = sym (ap object_named known.memory)
            ∙ ap (λ (y : ℕ). object_named (capability_at s.slots y)) (sym here) ∙ name.1 in
            absurd cc
        | inr stays ↦ (name.0, ap (λ (e : Option Entry). object_named (capability_of e)) stays.1 ∙ name.1)
      ]
  live-after o k (inr found) = (
    window + found.0,
    ap (λ (e : Option Entry). object_named (capability_of e)) (window-after found.0 found.1) ∙ named-first kind k (place found.0) found.3
        ∙ ap (λ (o : ℕ). Some (k, o)) found.2,
  )

  -- ---- bytes

  abbrev bytes : ℕ → Option ℕ
  bytes = with_new_bytes new s.bytes

  abbrev is_new_byte : ℕ → Bool
  is_new_byte p = is_frame kind && is_within first (count * 2 ^ object_bits kind) p

  frame-kind_at : (p : ℕ) → is_new_byte p ≡ true → kind_at state (frame_around p) ≡ Some NewFrame
  frame-kind_at p is =
      let parts = and_parts (is_frame kind) (is_within first (count * 2 ^ object_bits kind) p) is in
      let page : kind ≡ NewFrame = frame-kind kind parts.0 in
      let bounds = within-bounds first (count * 2 ^ object_bits kind) p parts.1 in
      let low = bounds.0 in
      let high : p < first + count * 2 ^ 12 = subst (λ (k : NewObject). p < first + count * 2 ^ object_bits k) page bounds.1 in
      let aligned : (first + 0 * 2 ^ 12) % 2 ^ 12 ≡ 0 = subst (λ (k : NewObject). (first + 0 * 2 ^ object_bits k) % 2 ^ object_bits k ≡ 0) page
      (known.laid.aligned 0) in
      let index = frame-index first count p (omega (arith, aligned)) low high in
      let at : place ((p - first) / 2 ^ 12) ≡ frame_around p = ap (λ (k : NewObject). first + (p - first) / 2 ^ 12 * 2 ^ object_bits k) page ∙ index.1 in
      ap (kind_at state) (sym at) ∙ ap (option_map kind_of) (objects-new ((p - first) / 2 ^ 12) index.0)
      ∙ ap (λ (k : NewObject). option_map kind_of (object k)) page

  bytes-there : (p : ℕ) (b : Bool) → is_new_byte p ≡ b → IsSome (if b then Some 0 else s.bytes p) ↔ (kind_at state (frame_around p) ≡ Some NewFrame)
  bytes-there p true is = ((λ _. frame-kind_at p is), (λ _. refl))
  bytes-there p false is = (
    (λ some. kind-still (frame_around p) NewFrame ((sound.memory.bytes p).0 some)),
    (λ framed. elim (kind-was (frame_around p) NewFrame framed) [
      | inl was ↦ (sound.memory.bytes p).1 was
      | inr found ↦
          let page : kind ≡ NewFrame = new-kind kind NewFrame found.3 in
          let at : first + found.0 * 2 ^ 12 ≡ frame_around p = ap (λ (k : NewObject). first + found.0 * 2 ^ object_bits k) (sym page) ∙ found.2 in
          let bounds = frame-within first count found.0 p found.1 at in
          let low = bounds.0 in
          let high = bounds.1 in
          let size : 2 ^ object_bits kind ≡ 2 ^ 12 = ap (λ (k : NewObject). 2 ^ object_bits k) page in
          let inside : is_within first (count * 2 ^ object_bits kind) p ≡ true =
          ap (λ (n : ℕ). is_within first (count * n) p) size ∙ bounds-within first (count * 2 ^ 12) p low high in
          let new_one : is_new_byte p ≡ true = and_from (is_frame kind) (is_within first (count * 2 ^ object_bits kind) p) (ap is_frame page) inside in
          absurd (let clash : false ≡ true = sym is ∙ new_one in cc)
    ]),
  )

  bytes-small : (p byte : ℕ) (b : Bool) → (if b then Some 0 else s.bytes p) ≡ Some byte → byte < 2 ^ 8
  bytes-small p byte true is = let e : 0 ≡ byte = cc is in omega (arith, e)
  bytes-small p byte false is = sound.memory.small p byte is

  pub memory-after : MemoryIsSound state
  memory-after = record {
    inside = λ x p is. inside-after x p (holds x) is;
    lies = λ a b p q differ one other. lies-after a b p q differ (holds a) (holds b) one other;
    named = λ x k o is. named-after x k o (holds x) is;
    live = λ o k is. live-after o k (kind-was o k is);
    bytes = λ p. bytes-there p (is_new_byte p) refl;
    small = λ p byte is. bytes-small p byte (is_new_byte p) is;
  }

  -- ---- mappings

  frame-was : (x : ℕ) (m : FrameMapping) → Holds x → frame_mapping (capability_at after x) ≡ Some m → frame_mapping (capability_at s.slots x) ≡ Some m
  frame-was x m (fresh j less at is) maps = let e : None ≡ Some m = sym (first-fresh kind (place j)).frame ∙ ap frame_mapping (sym is) ∙ maps in absurd cc
  frame-was x m (memory here is) maps = let e : None ≡ Some m = ap frame_mapping (sym is) ∙ maps in absurd cc
  frame-was x m (nothing empty) maps = let e : None ≡ Some m = ap frame_mapping (sym empty) ∙ maps in absurd cc
  frame-was x m (old other is) maps = ap frame_mapping (sym is) ∙ maps

  table-was : (x : ℕ) (m : TableMapping) → Holds x → table_mapping (capability_at after x) ≡ Some m → table_mapping (capability_at s.slots x) ≡ Some m
  table-was x m (fresh j less at is) maps = let e : None ≡ Some m = sym (first-fresh kind (place j)).table ∙ ap table_mapping (sym is) ∙ maps in absurd cc
  table-was x m (memory here is) maps = let e : None ≡ Some m = ap table_mapping (sym is) ∙ maps in absurd cc
  table-was x m (nothing empty) maps = let e : None ≡ Some m = ap table_mapping (sym empty) ∙ maps in absurd cc
  table-was x m (old other is) maps = ap table_mapping (sym is) ∙ maps

  taken-after : (root region : ℕ) → ((x : ℕ) → IsFull after x → x < 2 ^ s.memory_bits / 16) → is_region_taken s root region ≡ true
      → is_region_taken state root region ≡ true
  taken-after root region near is =
      let was = held-by s (maps_region root region) is in
      let mapping = some-passes (table_mapping (capability_at s.slots was.0)) (is_region root region) was.1 in
      let full = full-unless (capability_at s.slots was.0) table_mapping mapping.0 refl mapping.1 in
      elim (full-stays was.0 full) [
        | inl here ↦
            let e : None ≡ Some mapping.0 = sym (ap table_mapping known.memory) ∙ ap (λ (y : ℕ). table_mapping (capability_at s.slots y)) (sym here)
            ∙ mapping.1 in absurd cc
        | inr stays ↦
            held-at state (maps_region root region) was.0 (near was.0 (full-after was.0 full))
            (ap (λ (e : Option Entry). maps_region root region (capability_of e)) stays.1 ∙ was.1)
      ]

  -- a page table is new, or it was there
  abbrev TableWas : ℕ → ℕ → Option TableMapping → Type 0
  TableWas x o m = ((j : ℕ) × (j < count) × (x ≡ window + j) × (place j ≡ o)) ⊎ (capability_at s.slots x ≡ PageTable o m)

  page_table-was : (x o : ℕ) (m : Option TableMapping) → Holds x → capability_at after x ≡ PageTable o m → TableWas x o m
  page_table-was x o m (fresh j less at is) held_table = inl (j, less, at, first-table kind (place j) o m (sym is ∙ held_table))
  page_table-was x o m (memory here is) held_table = let e : Untyped offset bits mark ≡ PageTable o m = sym is ∙ held_table in absurd cc
  page_table-was x o m (nothing empty) held_table = let e : Empty ≡ PageTable o m = sym empty ∙ held_table in absurd cc
  page_table-was x o m (old other is) held_table = inr (sym is ∙ held_table)

  no-old_table : (x o j : ℕ) (m : Option TableMapping) → j < count → place j ≡ o → capability_at s.slots x ≡ PageTable o m → ⊥
  no-old_table x o j m less at is =
      let named : kind_at s o ≡ Some NewPageTable = sound.memory.named x NewPageTable o (ap object_named is) in
      let e : None ≡ Some NewPageTable = ap (option_map kind_of) (sym (none-there j less)) ∙ ap (kind_at s) at ∙ named in cc

  one-table : (a b o : ℕ) (m n : Option TableMapping) → TableWas a o m → TableWas b o n → a ≡ b
  one-table a b o m n (inl one) (inl other) = one.2 ∙ ap (λ (j : ℕ). window + j) (new-differ one.0 other.0 one.1 other.1 (one.3 ∙ sym other.3)) ∙ sym other.2
  one-table a b o m n (inl one) (inr other) = absurd (no-old_table b o one.0 n one.1 one.3 other)
  one-table a b o m n (inr one) (inl other) = absurd (no-old_table a o other.0 m other.1 other.3 one)
  one-table a b o m n (inr one) (inr other) = sound.mappings.one_table a b o m n one other

  pub mappings-after : ((x : ℕ) → IsFull after x → x < 2 ^ s.memory_bits / 16) → MappingsAreSound state
  mappings-after near = record {
    frame_root = λ x m is. kind-still m.root NewRootTable (sound.mappings.frame_root x m (frame-was x m (holds x) is));
    frame_table = λ x m is. taken-after m.root (m.page / region_pages) near (sound.mappings.frame_table x m (frame-was x m (holds x) is));
    table_root = λ x m is. kind-still m.root NewRootTable (sound.mappings.table_root x m (table-was x m (holds x) is));
    one_page = λ a b root page one other.
        let k = some-passes (frame_mapping (capability_at after a)) (is_page root page) one in
        let n = some-passes (frame_mapping (capability_at after b)) (is_page root page) other in
        sound.mappings.one_page a b root page
        (ap (λ (o : Option FrameMapping). option_map_or (is_page root page) o false) (frame-was a k.0 (holds a) k.1) ∙ k.2)
        (ap (λ (o : Option FrameMapping). option_map_or (is_page root page) o false) (frame-was b n.0 (holds b) n.1) ∙ n.2);
    one_region = λ a b root region one other.
        let k = some-passes (table_mapping (capability_at after a)) (is_region root region) one in
        let n = some-passes (table_mapping (capability_at after b)) (is_region root region) other in
        sound.mappings.one_region a b root region
        (ap (λ (o : Option TableMapping). option_map_or (is_region root region) o false) (table-was a k.0 (holds a) k.1) ∙ k.2)
        (ap (λ (o : Option TableMapping). option_map_or (is_region root region) o false) (table-was b n.0 (holds b) n.1) ∙ n.2);
    one_table = λ a b o m n one other. one-table a b o m n (page_table-was a o m (holds a) one) (page_table-was b o n (holds b) other);
  }

  -- ---- threads

  stands-after : (o : ℕ) → StandsAs (objects o) (s.objects o)
  stands-after =
      objects-by (λ o after. StandsAs after (s.objects o)) (λ i less. subst (StandsAs (object kind)) (sym (none-there i less)) (born kind).stands)
      (λ o _. stands-same (s.objects o))

  waiting-after : (o : ℕ) → waiting_at (objects o) ≡ waiting_at (s.objects o)
  waiting-after = objects-by (λ o after. waiting_at after ≡ waiting_at (s.objects o)) (λ i less. (born kind).waiting ∙ sym (ap waiting_at (none-there i less)))
      (λ _ _. refl)

  caller-after : (o : ℕ) → (own_of (objects o)).caller ≡ (own_of (s.objects o)).caller
  caller-after =
      objects-by (λ o after. (own_of after).caller ≡ (own_of (s.objects o)).caller)
      (λ i less. (born kind).caller ∙ sym (ap (λ (o : Option Object). (own_of o).caller) (none-there i less))) (λ _ _. refl)

  pub threads-after : ThreadsAreSound state
  threads-after = record {
    threads = objects-by (λ thread after. (t : ThreadState) → after ≡ Some (ThreadObject t) → ThreadIsSound t)
        (λ i less t is. subst ThreadIsSound ((born kind).threads t is) new-fine)
        (λ thread _. sound.threads.threads thread);
    ready = λ thread priority. sound.threads.ready thread priority ∙ sym ((stands-after thread).runs priority);
    queued = λ thread queue. ap (λ (l : List ℕ). times_in l thread) (waiting-after queue) ∙ sound.threads.queued thread queue
        ∙ sym ((stands-after thread).waits queue);
    one_sided = objects-by (λ o after. (e : EndpointState) → after ≡ Some (EndpointObject e) → (e.senders ≡ []) ⊎ (e.receivers ≡ []))
        (λ i less e is. subst (λ (e : EndpointState). (e.senders ≡ []) ⊎ (e.receivers ≡ [])) ((born kind).endpoints e is) (inl refl))
        (λ o _. sound.threads.one_sided o);
    senders = objects-by (λ o after. (e : EndpointState) → after ≡ Some (EndpointObject e) → All SenderIsSound e.senders)
        (λ i less e is. subst (λ (e : EndpointState). All SenderIsSound e.senders) ((born kind).endpoints e is) (All-nil SenderIsSound))
        (λ o _. sound.threads.senders o);
    words = objects-by (λ o after. (n : NotificationState) → after ≡ Some (NotificationObject n) → n.word < 2 ^ 28)
        (λ i less n is. subst (λ (n : NotificationState). n.word < 2 ^ 28) ((born kind).notifications n is) (omega arith)) (λ o _. sound.threads.words o);
    idle = objects-by (λ o after. (n : NotificationState) → after ≡ Some (NotificationObject n) → (n.waiters ≡ []) ⊎ (n.word ≡ 0))
        (λ i less n is. subst (λ (n : NotificationState). (n.waiters ≡ []) ⊎ (n.word ≡ 0)) ((born kind).notifications n is) (inl refl))
        (λ o _. sound.threads.idle o);
    callers = λ thread caller is. (stands-after caller).awaits ∙ sound.threads.callers thread caller (sym (caller-after thread) ∙ is);
    one_right = λ a b caller one other. sound.threads.one_right a b caller (sym (caller-after a) ∙ one) (sym (caller-after b) ∙ other);
  }

  pub retyped-whole : IsSound (with_new (with_slots s (recapped s.slots slot (Untyped offset bits mark))) (record { kind = kind; first = first; count = count })
      window slot)
  retyped-whole =
      let shape : HasShape state = record {
        least_bits = sound.shape.least_bits;
        most_bits = sound.shape.most_bits;
        least_radix = sound.shape.least_radix;
        most_radix = sound.shape.most_radix;
        room = sound.shape.room;
      } in
      record {
        shape = shape;
        slots = slots-after;
        memory = memory-after;
        mappings = mappings-after (λ x full. full-near state shape slots-after memory-after x full);
        threads = threads-after;
      }
