-- Object by object: Retype leads from the state with the first objects to the state with one more.
use Rattle.std.proofs.Common.{ℕ, suc, ◌≡◌, ◌≢◌, ◌∙◌, ◌==◌, ◌+◌, ◌-◌, ◌^◌, ◌<◌, ◌≤◌, ◌||◌, inl, inr, true, false, if◌then◌else◌, take, Option, Some, None, Ok}
use Rattle.std.proofs.Common.{refl, sym, ap, subst, arith}
use Rattle.std.specs.Prelude.{nat_lt}
use Rattle.std.specs.Option.{option_map_or}
use Rattle.std.specs.List.{list_any, range_with_len}
use Rattle.std.proofs.lemmas.Bool.{and_right, false_from_ne_true}
use Rattle.std.proofs.lemmas.Bool.Decides.{eqb_tells}
use Rattle.model.proofs.SlotChanges.{bounds-within, entry-other, entry-same, within-bounds}
use Rattle.model.specs.declared.capabilities.Cap.{Cap}
use Rattle.model.specs.declared.capabilities.Cap.TheVariants.{Empty, Untyped}
use Rattle.model.specs.declared.slot_entries.Entry.{Entry}
use Rattle.soundness.proofs.boot_laws.CallDepths.{root-shallow}
use Rattle.soundness.proofs.boot_laws.CallRetype.{retype-made}
use Rattle.soundness.proofs.boot_laws.ObjectsGrown.{any-range-more, new-bytes, new-objects, one_new, other-held, some-one}
use Rattle.soundness.proofs.boot_laws.PhaseStates.{capability-read, free-read, parent-read}
use Rattle.format_laws.specs.Fitting.{IsFitting}
use Rattle.soundness.proofs.boot_laws.PlacesObjects.{ObjectStands, object-at, object-stands, size_at, used_after}
use Rattle.soundness.proofs.boot_laws.PlacesRules.{AreFormed}
use Rattle.soundness.proofs.boot_laws.PlacesSlots.{bits-type, boot-slots-suffice, count-type, slot-behind-boot}
use Rattle.soundness.proofs.boot_laws.PlacesTypes.{HasType, has-type}
use Rattle.soundness.proofs.boot_laws.PlacesUsed.{used-here, used-more}
use Rattle.soundness.proofs.boot_laws.Readings.{IsWithin, Reads, ReadsBoot, ReadsEmpty, entry, slots_of_loaded}
use Rattle.soundness.proofs.boot_laws.ReadingsBoot.{reads-boot, reads-empty}
use Rattle.soundness.proofs.boot_laws.ReadingsKnown.{has-shape}
use Rattle.soundness.proofs.boot_laws.ReadingsOpen.{open-room, read-open, shown}
use Rattle.soundness.proofs.boot_laws.ReadingsSections.{read-room}
use Rattle.soundness.proofs.boot_laws.RunBoots.{at_objects}
use Rattle.soundness.specs.boot_laws.Loading.{Progress, holdings_so_far, is_moved, is_open_so_far, loaded, original_so_far, untyped_so_far}
use Rattle.model.specs.Capabilities.Placement.{align, placement}
use Rattle.model.specs.Capabilities.Slots.{Slots, empty_entry, is_within, parent_at, recapped}
use Rattle.model.specs.Images.Boot.{made}
use Rattle.model.specs.Images.BootCalls.{object_call}
use Rattle.model.specs.Images.Described.{held_in, is_object_slot}
use Rattle.model.specs.Images.Image.{Image}
use Rattle.model.specs.Images.Places.{object_at, offset_of, original_slot, untyped_at, used_before, used_by}
use Rattle.model.specs.Kernel.Removal.{slot_count}
use Rattle.model.specs.Kernel.Retype.{NewObject, first_capability, object, object_bits, place_of_new, some_new, with_first_capabilities, with_new}
use Rattle.model.specs.Kernel.Retype.{with_new_slots}
use Rattle.model.specs.Kernel.State.{boot_area_slots, slot_of, with_slots}

within-one : (first x : ℕ) → is_within first 1 x ≡ (x == first)
within-one first x = elim (eqb_tells x first) [
  | inl here ↦ bounds-within first 1 x (let e = here.1 in omega (arith, e)) (let e = here.1 in omega (arith, e)) ∙ sym here.0
  | inr apart ↦ false_from_ne_true (is_within first 1 x) (λ is. let bounds = within-bounds first 1 x is in apart.1 (omega (arith, bounds))) ∙ sym apart.0
]

-- slots that are open alike and hold alike
read-alike : (image : Image) (p q : Progress) (slot : ℕ) → is_open_so_far image q slot ≡ is_open_so_far image p slot
    → held_in (holdings_so_far image q) slot ≡ held_in (holdings_so_far image p) slot → slots_of_loaded image q slot ≡ slots_of_loaded image p slot
unfolding loaded
read-alike image p q slot opened held = λ i. if opened i then Some (shown (held i)) else None

open-more : (image : Image) (i slot : ℕ) → is_object_slot image slot i ≡ false →
    is_open_so_far image (at_objects (suc i)) slot ≡ is_open_so_far image (at_objects i) slot
unfolding is_open_so_far
open-more image i slot other =
    let before = list_any (is_object_slot image slot) (range_with_len 0 i) in
    let here : 0 + i ≡ i = omega arith in
    ap (λ b. nat_lt slot (boot_area_slots image.header.boot_radix) || b)
    (any-range-more (is_object_slot image slot) 0 i ∙ ap (λ b. before || b) (ap (is_object_slot image slot) here ∙ other)
    ∙ elim before as (λ b. (b || false) ≡ b) [ true ↦ refl | false ↦ refl ])

pub within-objects : (image : Image) (count : ℕ) → count ≤ image.header.objects → IsWithin image (at_objects count)
within-objects image count most = record {
  objects = most;
  handlers = omega arith;
  capabilities = omega arith;
  tables = omega arith;
  frames = omega arith;
  signals = omega arith;
  threads = omega arith;
}

module _ (image : Image) (fitting : IsFitting image) (formed : AreFormed image) (i : ℕ) (less : i < image.header.objects) where
  abbrev p : Progress
  p = at_objects i

  abbrev q : Progress
  q = at_objects (suc i)

  -- the untyped that the object is placed in
  abbrev home : ℕ
  home = (object_at image i).untyped

  abbrev used_up : Cap
  used_up = Untyped (untyped_at image home).offset (untyped_at image home).bits (used_after image i)

  typed : HasType (object_at image i)
  typed = has-type image i fitting less

  stands : ObjectStands image i
  stands = object-stands image i fitting formed less

  inside : IsWithin image p
  inside = within-objects image i (omega (arith, less))

  more : IsWithin image q
  more = within-objects image (suc i) (omega (arith, less))

  before-home : Reads image p home (untyped_so_far image p (home, untyped_at image home)).1
  before-home = ReadsBoot.untyped (reads-boot image fitting formed p inside) home (ObjectStands.less stands)

  -- ---- slots

  abbrev new_slots : Slots
  new_slots =
      with_first_capabilities (one_new (HasType.kind typed) (offset_of image i)) (original_slot image i) home
      (with_new_slots (one_new (HasType.kind typed) (offset_of image i)) (recapped (slots_of_loaded image p) home used_up))

  abbrev with_room : Slots
  with_room = with_new_slots (one_new (HasType.kind typed) (offset_of image i)) (recapped (slots_of_loaded image p) home used_up)

  room-test : (slot : ℕ) → some_new (one_new (HasType.kind typed) (offset_of image i))
      (λ at. is_within (slot_of at 0) (slot_count (object (HasType.kind typed))) slot)
      ≡ is_object_slot image slot i
  room-test slot =
      some-one (HasType.kind typed) (offset_of image i) (λ at. is_within (slot_of at 0) (slot_count (object (HasType.kind typed))) slot)
      ∙ ap (λ n. is_within (slot_of (offset_of image i) 0) n slot) (sym (count-type image i typed))

  at-original : (slot : ℕ) → slot ≡ original_slot image i → (slot == original_slot image i) ≡ true → new_slots slot ≡ slots_of_loaded image q slot
  at-original slot here test =
      let original = original_slot image i in
      let kind = HasType.kind typed in
      let place : place_of_new (one_new kind (offset_of image i)) (slot - original) ≡ offset_of image i =
      (let none : slot - original ≡ 0 = omega (arith, here) in let first : place_of_new (one_new kind (offset_of image i)) 0 ≡ offset_of image i =
      omega arith in
      ap (place_of_new (one_new kind (offset_of image i))) none ∙ first) in
      let stays : is_moved image q i ≡ false = and_right _ false refl in
      let capability : original_so_far image q i ≡ first_capability kind (offset_of image i) =
      ap (λ (t : Option NewObject). option_map_or (λ kind. first_capability kind (offset_of image i)) t Empty) (HasType.is typed) in
      ap (λ b. if b then Some (entry (first_capability kind (place_of_new (one_new kind (offset_of image i)) (slot - original))) (Some home)) else
      with_room slot)
      (within-one original slot ∙ test)
      ∙ ap (λ n. let o : Option Entry = Some (entry (first_capability kind n) (Some home)) in o) place
      ∙ ap (λ c. let o : Option Entry = Some (entry c (Some home)) in o) (sym capability)
      ∙ sym (ReadsBoot.original (reads-boot image fitting formed q more) i (omega arith) stays) ∙ ap (slots_of_loaded image q) (sym here)

  past-original : (slot : ℕ) → (slot == original_slot image i) ≡ false → new_slots slot ≡ with_room slot
  past-original slot test =
      let kind = HasType.kind typed in
      ap (λ b. if b then Some (entry (first_capability kind (place_of_new (one_new kind (offset_of image i)) (slot - original_slot image i))) (Some home)) else
      with_room slot)
      (within-one (original_slot image i) slot ∙ test)

  in-object : (slot : ℕ) → is_object_slot image slot i ≡ true → with_room slot ≡ slots_of_loaded image q slot
  in-object slot is =
      ap (λ b. if b then Some empty_entry else recapped (slots_of_loaded image p) home used_up slot) (room-test slot ∙ is)
      ∙ sym (read-open image q slot None (open-room image q slot i (omega arith) is)
      (read-room image fitting formed q more slot (slot-behind-boot image fitting formed i slot less is)))

  at-home : (slot : ℕ) → slot ≡ home → recapped (slots_of_loaded image p) home used_up slot ≡ slots_of_loaded image q slot
  at-home slot here =
      let o = object_at image i in
      let used : used_by (take (suc i) image.objects) home ≡ used_after image i =
      used-more image.objects i home o (object-at image i fitting less) ∙ used-here home (used_by (take i image.objects) home) o refl in
      let parent : parent_at (slots_of_loaded image p) home ≡ None =
      parent-read image p home (untyped_so_far image p (home, untyped_at image home)).1 before-home in
      ap (recapped (slots_of_loaded image p) home used_up) here
      ∙ entry-same (slots_of_loaded image p) home (Some (entry used_up (parent_at (slots_of_loaded image p) home)))
      ∙ ap (λ (n : Option ℕ). let o : Option Entry = Some (entry used_up n) in o) parent
      ∙ ap (λ (n : ℕ). let o : Option Entry = Some (entry (Untyped (untyped_at image home).offset (untyped_at image home).bits n) None) in o) (sym used)
      ∙ sym (ReadsBoot.untyped (reads-boot image fitting formed q more) home (ObjectStands.less stands)) ∙ ap (slots_of_loaded image q) (sym here)

  elsewhere-same : (slot : ℕ) → slot ≢ original_slot image i → is_object_slot image slot i ≡ false → slot ≢ home
      → recapped (slots_of_loaded image p) home used_up slot ≡ slots_of_loaded image q slot
  elsewhere-same slot no_original no_room no_home =
      entry-other (slots_of_loaded image p) home (Some (entry used_up (parent_at (slots_of_loaded image p) home))) slot no_home
      ∙ sym (read-alike image p q slot (open-more image i slot no_room) (other-held image i slot fitting less no_original no_home))

  slots-grown : (slot : ℕ) → new_slots slot ≡ slots_of_loaded image q slot
  slots-grown slot = elim (eqb_tells slot (original_slot image i)) [
    | inl here ↦ at-original slot here.1 here.0
    | inr apart ↦ past-original slot apart.0 ∙ elim (is_object_slot image slot i)
        as (λ b. is_object_slot image slot i ≡ b → with_room slot ≡ slots_of_loaded image q slot) [
          | true ↦ λ is. in-object slot is
          | false ↦ λ is.
              ap (λ b. if b then Some empty_entry else recapped (slots_of_loaded image p) home used_up slot) (room-test slot ∙ is)
              ∙ elim (eqb_tells slot home) [
                | inl here ↦ at-home slot here.1
                | inr other ↦ elsewhere-same slot apart.1 is other.1
              ]
        ] refl
  ]

  -- ---- the state

  state-grown : with_new (with_slots (loaded image p) (recapped (slots_of_loaded image p) home used_up)) (one_new (HasType.kind typed) (offset_of image i))
      (original_slot image i) home ≡ loaded image q
  unfolding loaded
  state-grown = λ k. record (loaded image p) {
    slots = λ slot. slots-grown slot k;
    objects = λ offset. new-objects image fitting formed i less typed offset k;
    bytes = λ place. new-bytes image fitting formed i less typed place k;
  }

  -- ---- the call

  abbrev place : ℕ × ℕ
  place = (align (used_before image i) (size_at image i), used_after image i)

  room : placement (untyped_at image home).bits (used_before image i) (object_bits (HasType.kind typed)) 1 ≡ Some place
  room = ap (λ (n : ℕ). placement (untyped_at image home).bits (used_before image i) n 1) (sym (bits-type image i typed)) ∙ ObjectStands.place stands

  placed : with_new (with_slots (loaded image p) (recapped (slots_of_loaded image p) home used_up))
      (one_new (HasType.kind typed) ((untyped_at image home).offset + align (used_before image i) (size_at image i))) (original_slot image i) home
      ≡ with_new (with_slots (loaded image p) (recapped (slots_of_loaded image p) home used_up)) (one_new (HasType.kind typed) (offset_of image i))
      (original_slot image i) home
  unfolding offset_of
  placed = refl

  radix : (loaded image p).boot_radix ≡ image.header.boot_radix
  unfolding loaded
  radix = refl

  pub object-by-one : made (loaded image p) (object_call image i) ≡ Ok (loaded image q)
  object-by-one =
      let o = object_at image i in
      let u = untyped_at image home in
      let enough = boot-slots-suffice image fitting formed in
      let slots = radix in
      let holds = ObjectStands.less stands in
      let read = (untyped_so_far image p (home, u)).1 in
      retype-made (loaded image p) home u.offset u.bits (used_before image i) o.kind o.size (original_slot image i) (HasType.kind typed) place
      (has-shape image p fitting)
      (record {
        memory = (let wide : home < 2 ^ image.header.boot_radix = omega (arith, holds, enough) in subst (λ (n : ℕ). home < 2 ^ n) (sym radix) wide);
        holds = capability-read image p home read before-home;
        shallow = root-shallow (slots_of_loaded image p) home (parent-read image p home read before-home);
        destination = (let wide : original_slot image i < 2 ^ image.header.boot_radix = omega (arith, less, enough) in
            subst (λ (n : ℕ). original_slot image i < 2 ^ n) (sym radix) wide);
        free = free-read image p (original_slot image i) (ReadsEmpty.original (reads-empty image fitting formed p inside) i (omega arith) less);
        named = HasType.is typed;
        large = HasType.large typed;
        small = HasType.small typed;
        room = room;
      })
      ∙ ap Ok (placed ∙ state-grown)
