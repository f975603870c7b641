-- One object more: what it leaves of the other slots, and what it makes of objects and bytes.
use Rattle.std.proofs.Common.{ℕ, zero, suc, ◌≡◌, ◌≢◌, ◌∙◌, ◌==◌, ◌+◌, ◌*◌, ◌^◌, ◌<◌, ◌||◌, ◌&&◌, inl, inr, Bool, true, false, not, cond, if◌then◌else◌, map}
use Rattle.std.proofs.Common.{filter, take, List, [], ◌∷◌, Option, Some, None, refl, sym, ap, arith}
use Rattle.std.specs.Prelude.{option_and_then, slice_get}
use Rattle.std.specs.Option.{option_map_or}
use Rattle.std.specs.List.{list_any, range_with_len}
use Rattle.std.proofs.lemmas.Bool.Decides.{eqb_tells}
use Rattle.model.specs.declared.capabilities.Cap.TheVariants.{Untyped}
use Rattle.model.specs.declared.entries.UntypedEntry.{UntypedEntry}
use Rattle.model.specs.declared.slot_entries.Entry.{Entry}
use Rattle.soundness.proofs.boot_laws.ObjectsThere.{elsewhere, first-at, first-more, first-none, there_by}
use Rattle.format_laws.specs.Fitting.{IsFitting}
use Rattle.soundness.proofs.boot_laws.PlacesObjects.{object-at, offsets-apart}
use Rattle.soundness.proofs.boot_laws.PlacesRules.{AreFormed}
use Rattle.soundness.proofs.boot_laws.PlacesTypes.{HasType}
use Rattle.soundness.proofs.boot_laws.PlacesUsed.{used-elsewhere, used-more}
use Rattle.soundness.proofs.boot_laws.ReadingsLists.{first-passed, held-here, held-in-first, held-in-rest, held-later}
use Rattle.soundness.proofs.boot_laws.ReadingsMoved.{around-originals}
use Rattle.soundness.proofs.boot_laws.ReadingsSections.{bindings_part, control_part, frames_part, handlers_part, listed_part, notifications_part, threads_part}
use Rattle.soundness.proofs.boot_laws.ReadingsSections.{untypeds_part}
use Rattle.soundness.proofs.boot_laws.RunBoots.{at_objects}
use Rattle.soundness.specs.boot_laws.Loading.{bytes_so_far, holdings_so_far, is_moved, object_so_far, objects_so_far, original_holding_so_far, originals_so_far}
use Rattle.soundness.specs.boot_laws.Loading.{untyped_so_far}
use Rattle.model.specs.Images.Described.{Holding, held_in, numbered}
use Rattle.model.specs.Images.Fills.{is_in_frame}
use Rattle.model.specs.Images.Image.{Image}
use Rattle.model.specs.Images.Places.{object_at, offset_of, original_slot, used_by}
use Rattle.model.specs.Kernel.AddressSpaces.{page_size}
use Rattle.model.specs.Kernel.Retype.{NewObject, NewObjects, NewUntyped, NewThread, NewEndpoint, NewNotification, NewCNode, NewFrame, NewPageTable}
use Rattle.model.specs.Kernel.Retype.{NewRootTable, is_frame, object, object_bits, place_of_new, some_new, with_new_bytes, with_new_objects}
use Rattle.model.specs.Kernel.State.{Object}
use Rattle.model.specs.Capabilities.Slots.{is_within}

-- ---- lists of full slots

-- one number more, seen from another slot
range-more : (g : ℕ → Holding) (base : ℕ) (key : (n : ℕ) → (g n).0 ≡ base + n) (keeps : ℕ → Bool) (from count slot : ℕ) → base + (from + count) ≢ slot
    → held_in (map g (filter keeps (range_with_len from (suc count)))) slot ≡ held_in (map g (filter keeps (range_with_len from count))) slot
range-more g base key keeps from zero slot other =
    first-passed g base key keeps from [] slot (inl (λ same. other (omega (arith, same))))
range-more g base key keeps from (suc count) slot other =
    let rest = range-more g base key keeps (from + 1) count slot (λ same. other (omega (arith, same))) in
    elim (keeps from) as (λ b.
    held_in (map g (cond b (from ∷ filter keeps (range_with_len (from + 1) (suc count))) (filter keeps (range_with_len (from + 1) (suc count))))) slot
    ≡ held_in (map g (cond b (from ∷ filter keeps (range_with_len (from + 1) count)) (filter keeps (range_with_len (from + 1) count)))) slot) [
      | true ↦ held-in-rest (g from ∷ []) (map g (filter keeps (range_with_len (from + 1) (suc count))))
          (map g (filter keeps (range_with_len (from + 1) count))) slot rest
      | false ↦ rest
    ]

-- two lists by one key that hold the same at a slot
mapped-alike : {A : Type 0} (g h : A → Holding) (xs : List A) (slot : ℕ) → ((x : A) → (g x).0 ≡ (h x).0)
    → ((j : ℕ) (x : A) → slice_get xs j ≡ Some x → (g x).0 ≡ slot → (g x).1 ≡ (h x).1) → held_in (map g xs) slot ≡ held_in (map h xs) slot
mapped-alike g h [] slot keys same = refl
mapped-alike g h (y ∷ ys) slot keys same = elim (eqb_tells (g y).0 slot) [
  | inl here ↦ held-here (g y) (map g ys) slot here.1 ∙ ap (λ (e : Entry). let o : Option Entry = Some e in o) (same 0 y refl here.1)
      ∙ sym (held-here (h y) (map h ys) slot (sym (keys y) ∙ here.1))
  | inr apart ↦
      held-later (g y) (map g ys) slot apart.1 ∙ mapped-alike g h ys slot keys (λ j x at. same (suc j) x at)
      ∙ sym (held-later (h y) (map h ys) slot (λ here. apart.1 (keys y ∙ here)))
]

-- the slots but for the untyped's and the new capability's
pub other-held : (image : Image) (i : ℕ) (slot : ℕ) → IsFitting image → i < image.header.objects → slot ≢ original_slot image i →
    slot ≢ (object_at image i).untyped
    → held_in (holdings_so_far image (at_objects (suc i))) slot ≡ held_in (holdings_so_far image (at_objects i)) slot
unfolding holdings_so_far
other-held image i slot fitting less no_original no_untyped =
    let p = at_objects i in
    let q = at_objects (suc i) in
    let originals =
    range-more (original_holding_so_far image p) image.header.untypeds (λ n. refl) (λ n. not (is_moved image p n)) 0 i slot
    (λ same. no_original (omega (arith, same))) in
    let untypeds = mapped-alike (untyped_so_far image q) (untyped_so_far image p) (numbered image.untypeds) slot (λ u. refl) (λ j u at here. used u here) in
    around-originals (untypeds_part image q) (originals_so_far image q) (originals_so_far image p) (control_part image) (handlers_part image p)
    (frames_part image p)
    (notifications_part image p) (bindings_part image p) (listed_part image p) (threads_part image p) slot originals
    ∙ held-in-first _ _ (threads_part image p) slot (held-in-first _ _ (listed_part image p) slot (held-in-first _ _ (bindings_part image p) slot
    (held-in-first _ _ (notifications_part image p) slot (held-in-first _ _ (frames_part image p) slot (held-in-first _ _ (handlers_part image p) slot
    (held-in-first _ _ (control_part image) slot
    (held-in-first (untypeds_part image q) (untypeds_part image p) (originals_so_far image p) slot untypeds))))))) where
      used : (u : ℕ × UntypedEntry) → u.0 ≡ slot → (untyped_so_far image (at_objects (suc i)) u).1 ≡ (untyped_so_far image (at_objects i) u).1
      used u here =
          let o = object_at image i in
          let same : used_by (take (suc i) image.objects) u.0 ≡ used_by (take i image.objects) u.0 =
          used-more image.objects i u.0 o (object-at image i fitting less)
          ∙ used-elsewhere u.0 (used_by (take i image.objects) u.0) o (λ same. no_untyped (sym here ∙ sym same)) in
          ap (λ (n : ℕ). let e : Entry = record { capability = Untyped (u.1).offset (u.1).bits n; parent = None } in e) same

-- ---- tests over a range

pub any-range-more : (test : ℕ → Bool) (from count : ℕ) → list_any test (range_with_len from (suc count))
    ≡ (list_any test (range_with_len from count) || test (from + count))
any-range-more test from zero =
    let here : from ≡ from + 0 = omega arith in
    elim (test from) as (λ b. (b || false) ≡ b) [ true ↦ refl | false ↦ refl ] ∙ ap test here
any-range-more test from (suc count) =
    let there : from + 1 + count ≡ from + suc count = omega arith in
    let rest = any-range-more test (from + 1) count ∙ ap (λ n. list_any test (range_with_len (from + 1) count) || test n) there in
    ap (λ b. test from || b) rest
    ∙ elim (test from) as (λ b. (b || (list_any test (range_with_len (from + 1) count) || test (from + suc count)))
    ≡ ((b || list_any test (range_with_len (from + 1) count)) || test (from + suc count))) [
      | true ↦ refl
      | false ↦ refl
    ]

-- ---- the new object

abbrev some_zero : Option ℕ
some_zero = Some 0

abbrev pub one_new : NewObject → ℕ → NewObjects
one_new kind place = record { kind = kind; first = place; count = 1 }

-- a test of the one new object
pub some-one : (kind : NewObject) (place : ℕ) (test : ℕ → Bool) → some_new (one_new kind place) test ≡ test place
some-one kind place test =
    let first : place_of_new (one_new kind place) 0 ≡ place = omega arith in
    ap (λ n. test n || false) first ∙ elim (test place) as (λ b. (b || false) ≡ b) [ true ↦ refl | false ↦ refl ]

module _ (image : Image) (fitting : IsFitting image) (formed : AreFormed image) (i : ℕ) (less : i < image.header.objects)
    (typed : HasType (object_at image i)) where
  abbrev kind : NewObject
  kind = HasType.kind typed

  object-of : object_so_far image (at_objects (suc i)) i ≡ object kind
  object-of = ap (λ (t : Option NewObject). option_and_then object t) (HasType.is typed)

  kept-or : (o : Option Object) → option_map_or Some o None ≡ o
  kept-or None = refl
  kept-or (Some x) = refl

  pub new-objects : (offset : ℕ) → with_new_objects (one_new kind (offset_of image i)) (objects_so_far image (at_objects i)) offset ≡ objects_so_far image
      (at_objects (suc i)) offset
  new-objects offset =
      let before = objects_so_far image (at_objects i) offset in
      let by = there_by image fitting formed (at_objects (suc i)) in
      ap (λ b. if b then option_map_or Some (object kind) before else before) (some-one kind (offset_of image i) (λ at. at == offset))
      ∙ elim (eqb_tells (offset_of image i) offset) [
        | inl here ↦
            let others = λ (k : ℕ) (below : k < i). elsewhere image fitting formed (at_objects (suc i)) offset k (λ same. apart k below (same ∙ sym here.1)) in
            let none : before ≡ None = first-none (by offset) 0 i (λ k low high. others k (omega (arith, high))) in
            ap (λ b. if b then option_map_or Some (object kind) before else before) here.0
            ∙ ap (λ o. option_map_or Some (object kind) o) none ∙ kept-or (object kind) ∙ sym object-of
            ∙ sym (ap (λ b. if b then object_so_far image (at_objects (suc i)) i else None) here.0)
            ∙ sym (first-at (by offset) 0 (suc i) i (omega arith) (omega arith) (λ k low high other. others k (omega (arith, high, other))))
        | inr apart ↦
            let here : 0 + i ≡ i = omega arith in
            ap (λ b. if b then option_map_or Some (object kind) before else before) apart.0
            ∙ sym (first-more (by offset) 0 i (ap (by offset) here ∙ elsewhere image fitting formed (at_objects (suc i)) offset i apart.1))
      ] where
        apart : (k : ℕ) → k < i → offset_of image k ≢ offset_of image i
        apart k below same = let equal = offsets-apart image k i fitting formed (omega (arith, below, less)) less same in omega (arith, equal, below)

  frame-size : (t : NewObject) (first place : ℕ) → (is_frame t && is_within first (1 * 2 ^ object_bits t) place)
      ≡ (is_frame t && is_within first page_size place)
  frame-size NewFrame first place = refl
  frame-size (NewUntyped bits) first place = refl
  frame-size NewThread first place = refl
  frame-size NewEndpoint first place = refl
  frame-size NewNotification first place = refl
  frame-size (NewCNode radix) first place = refl
  frame-size NewPageTable first place = refl
  frame-size NewRootTable first place = refl

  pub new-bytes : (place : ℕ) → with_new_bytes (one_new kind (offset_of image i)) (bytes_so_far image (at_objects i)) place ≡ bytes_so_far image
      (at_objects (suc i)) place
  unfolding bytes_so_far
  new-bytes place =
      let here : 0 + i ≡ i = omega arith in
      let before = list_any (is_in_frame image place) (range_with_len 0 i) in
      let test : Bool = is_frame kind && is_within (offset_of image i) page_size place in
      let last : is_in_frame image place (0 + i) ≡ test =
      ap (is_in_frame image place) here ∙ ap (λ (t : Option NewObject). option_map_or is_frame t false && is_within (offset_of image i) page_size place)
      (HasType.is typed) in
      ap (λ b. if b then some_zero else (if before then some_zero else None)) (frame-size kind (offset_of image i) place)
      ∙ elim test as (λ b. (if b then some_zero else (if before then some_zero else None)) ≡ (if before || b then some_zero else None)) [
        | true ↦ elim before as (λ b. some_zero ≡ (if b || true then some_zero else None)) [ true ↦ refl | false ↦ refl ]
        | false ↦ elim before as (λ b. (if b then some_zero else None) ≡ (if b || false then some_zero else None)) [ true ↦ refl | false ↦ refl ]
      ]
      ∙ ap (λ b. if before || b then some_zero else None) (sym last)
      ∙ sym (ap (λ b. if b then some_zero else None) (any-range-more (is_in_frame image place) 0 i))
