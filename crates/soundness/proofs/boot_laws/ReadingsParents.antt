-- Nothing in a loaded state derives from a pool: its slot is no full slot's parent.
use Rattle.std.proofs.Common.{ℕ, zero, suc, ◌≡◌, ◌≢◌, ◌∙◌, ◌==◌, ◌+◌, ◌<◌, inl, inr, Bool, true, false, not, cond, if◌then◌else◌, map, filter, take, List, []}
use Rattle.std.proofs.Common.{◌∷◌, ◌++◌, Option, Some, None, refl, sym, ap, subst, arith}
use Rattle.std.specs.Prelude.{flat_map, option_map, slice_get}
use Rattle.std.specs.Option.{option_map_or, option_or}
use Rattle.std.specs.List.{range_with_len}
use Rattle.std.proofs.lemmas.Bool.{cases_lt, false≢true, le-leb, lt-leb, ne_eqb, not-false, true≢false}
use Rattle.std.proofs.lemmas.Bool.Decides.{eqb_tells}
use Rattle.std.proofs.lemmas.Option.{none-some, same_Some}
use Rattle.model.specs.declared.entries.CapabilityEntry.{CapabilityEntry}
use Rattle.model.specs.declared.entries.FrameEntry.{FrameEntry}
use Rattle.model.specs.declared.entries.InterruptEntry.{InterruptEntry}
use Rattle.model.specs.declared.slot_entries.Entry.{Entry}
use Rattle.format_laws.specs.Fitting.{ObjectFits}
use Rattle.format_laws.specs.Fitting.{IsFitting}
use Rattle.soundness.proofs.boot_laws.PlacesObjects.{object-at}
use Rattle.soundness.proofs.boot_laws.PlacesRules.{AreFormed, BufferKept, FrameKept, ThreadKept, buffer-kept}
use Rattle.soundness.proofs.boot_laws.Readings.{IsWithin}
use Rattle.soundness.proofs.boot_laws.ReadingsLists.{held-append, held-here, held-later, numbered-back}
use Rattle.soundness.proofs.boot_laws.ReadingsOpen.{shown}
use Rattle.soundness.proofs.boot_laws.ReadingsSections.{bindings_part, buffer_holding, control_part, cspace_holding, frames_part, handlers_part, listed_part}
use Rattle.soundness.proofs.boot_laws.ReadingsSections.{notifications_part, threads_part, untypeds_part, vspace_holding}
use Rattle.soundness.proofs.boot_laws.ReadingsTypes.{listed-untyped}
use Rattle.soundness.specs.boot_laws.Loading.{Progress, holdings_so_far, is_moved, is_open_so_far, loaded, original_holding_so_far, originals_so_far}
use Rattle.soundness.specs.boot_laws.Loading.{untyped_so_far}
use Rattle.model.specs.Acceptance.WellFormed.{is_frame_type, is_notification_type, is_root_type, is_untyped_type, radix_of}
use Rattle.model.specs.Capabilities.CapabilityKinds.{is_guard_word}
use Rattle.model.specs.Capabilities.Slots.{adopted, with_parent}
use Rattle.model.specs.Images.Described.{Holding, binding_holding, buffer_holdings, frame_holding, handler_holding, held_in, listed_holding, listed_parent}
use Rattle.model.specs.Images.Described.{notification_holding, numbered, thread_holdings}
use Rattle.model.specs.Images.Image.{Image, Thread, no_buffer}
use Rattle.model.specs.Images.Places.{control_slot, handler_slot, interrupt_of, object_at, original_slot, source_boot_slot, type_at}
use Rattle.model.specs.Kernel.Retype.{NewObject, NewUntyped, NewThread, NewEndpoint, NewNotification, NewCNode, NewFrame, NewPageTable, NewRootTable}

-- ---- lists of full slots none of which is a child of one slot

abbrev pub AreFree : ℕ → List Holding → Type 0
AreFree from full = (slot : ℕ) (held : Entry) → held_in full slot ≡ Some held → held.parent ≢ Some from

free-none : (from : ℕ) → AreFree from []
free-none from slot held is = absurd (none-some held is)

free-more : (from : ℕ) (h : Holding) (rest : List Holding) → (h.1).parent ≢ Some from → AreFree from rest → AreFree from (h ∷ rest)
free-more from h rest one others slot held is = elim (eqb_tells h.0 slot) [
  | inl here ↦ subst (λ (e : Entry). e.parent ≢ Some from) (same_Some h.1 held (sym (held-here h rest slot here.1) ∙ is)) one
  | inr apart ↦ others slot held (sym (held-later h rest slot apart.1) ∙ is)
]

free-both : (from : ℕ) (first rest : List Holding) → AreFree from first → AreFree from rest → AreFree from (first ++ rest)
free-both from first rest one two slot held is =
    elim (held_in first slot) as (λ o. held_in first slot ≡ o → option_or o (held_in rest slot) ≡ Some held → held.parent ≢ Some from) [
      | None ↦ λ _ found. two slot held found
      | Some x ↦ λ here found. one slot held (here ∙ found)
    ] refl (sym (held-append first rest slot) ∙ is)

free-mapped : {A : Type 0} (from : ℕ) (g : A → Holding) (xs : List A) (m : ℕ) → ((j : ℕ) (y : A) → slice_get xs j ≡ Some y → ((g y).1).parent ≢ Some from)
    → AreFree from (map g (take m xs))
free-mapped from g xs zero each = free-none from
free-mapped from g [] (suc m) each = free-none from
free-mapped from g (y ∷ ys) (suc m) each =
    free-more from (g y) (map g (take m ys)) (each 0 y refl) (free-mapped from g ys m (λ j z at. each (suc j) z at))

free-all : {A : Type 0} (from : ℕ) (g : A → Holding) (xs : List A) → ((y : A) → ((g y).1).parent ≢ Some from) → AreFree from (map g xs)
free-all from g [] each = free-none from
free-all from g (y ∷ ys) each = free-more from (g y) (map g ys) (each y) (free-all from g ys each)

free-range : (from : ℕ) (g : ℕ → Holding) (keeps : ℕ → Bool) (first count : ℕ) → ((n : ℕ) → n < first + count → ((g n).1).parent ≢ Some from)
    → AreFree from (map g (filter keeps (range_with_len first count)))
free-range from g keeps first zero each = free-none from
free-range from g keeps first (suc count) each =
    let rest = free-range from g keeps (first + 1) count (λ n less. each n (omega (arith, less))) in
    elim (keeps first) as (λ b.
    AreFree from (map g (cond b (first ∷ filter keeps (range_with_len (first + 1) count)) (filter keeps (range_with_len (first + 1) count))))) [
      | true ↦ free-more from (g first) (map g (filter keeps (range_with_len (first + 1) count))) (each first (omega arith)) rest
      | false ↦ rest
    ]

free-flat : {A : Type 0} (from : ℕ) (f : A → List Holding) (xs : List A) (m : ℕ) → ((j : ℕ) (y : A) → slice_get xs j ≡ Some y → AreFree from (f y))
    → AreFree from (flat_map f (take m xs))
free-flat from f xs zero each = free-none from
free-flat from f [] (suc m) each = free-none from
free-flat from f (y ∷ ys) (suc m) each =
    free-both from (f y) (flat_map f (take m ys)) (each 0 y refl) (free-flat from f ys m (λ j z at. each (suc j) z at))

-- ---- what untyped memory is not

record IsOnly (t : Option NewObject) : Type 0 where
  frame : is_frame_type t ≡ false
  notification : is_notification_type t ≡ false
  root : is_root_type t ≡ false
  radix : radix_of t ≡ None

only : (t : Option NewObject) → is_untyped_type t ≡ true → IsOnly t
only None is = absurd (false≢true is)
only (Some (NewUntyped bits)) is = record { frame = refl; notification = refl; root = refl; radix = refl }
only (Some NewThread) is = absurd (false≢true is)
only (Some NewEndpoint) is = absurd (false≢true is)
only (Some NewNotification) is = absurd (false≢true is)
only (Some (NewCNode radix)) is = absurd (false≢true is)
only (Some NewFrame) is = absurd (false≢true is)
only (Some NewPageTable) is = absurd (false≢true is)
only (Some NewRootTable) is = absurd (false≢true is)

module _ (image : Image) (fitting : IsFitting image) (formed : AreFormed image) (source : ℕ) (object : source < image.header.objects)
    (pool : is_untyped_type (type_at image source) ≡ true) where
  -- an object that passes a test that untyped memory does not pass
  apart-by : (test : Option NewObject → Bool) (number : ℕ) → test (type_at image source) ≡ false → test (type_at image number) ≡ true
      → Some (original_slot image number) ≢ Some (original_slot image source)
  apart-by test number fails passes same =
      let numbers : number ≡ source = (let e = same_Some (original_slot image number) (original_slot image source) same in omega (arith, e)) in
      true≢false (sym passes ∙ ap (λ n. test (type_at image n)) numbers ∙ fails)

  none-of : IsOnly (type_at image source)
  none-of = only (type_at image source) pool

  free-originals : (p : Progress) → IsWithin image p → AreFree (original_slot image source) (originals_so_far image p)
  free-originals p within =
      free-range (original_slot image source) (original_holding_so_far image p) (λ number. not (is_moved image p number)) 0 p.objects (λ n less same.
      let objects = within.objects in
      let home = ObjectFits.untyped (fitting.object n (object_at image n) (object-at image n fitting (omega (arith, less, objects)))) in
      let e = same_Some (object_at image n).untyped (original_slot image source) same in
      omega (arith, home, e))

  free-frame : (j : ℕ) (y : ℕ × FrameEntry) → slice_get (numbered image.frames) j ≡ Some y →
      ((frame_holding image y).1).parent ≢ Some (original_slot image source)
  free-frame j y at =
      apart-by is_frame_type (y.1).frame (IsOnly.frame none-of) (FrameKept.frame (formed.frame j y.1 (numbered-back image.frames j y at).1))

  free-notification : (j : ℕ) (y : ℕ × InterruptEntry) → slice_get (numbered image.interrupts) j ≡ Some y →
      ((notification_holding image y).1).parent ≢ Some (original_slot image source)
  free-notification j y at =
      apart-by is_notification_type (y.1).notification (IsOnly.notification none-of)
      (not-false (is_notification_type (type_at image (y.1).notification)) (formed.interrupt j y.1 (numbered-back image.interrupts j y at).1))

  free-listed : (j : ℕ) (c : CapabilityEntry) → slice_get image.capabilities j ≡ Some c → Some (listed_parent image c) ≢ Some (original_slot image source)
  free-listed j c at = elim (cases_lt c.source image.header.objects) [
    | inl below ↦ elim (is_untyped_type (type_at image c.source))
        as (λ b. is_untyped_type (type_at image c.source) ≡ b → Some (listed_parent image c) ≢ Some (original_slot image source)) [
          | true ↦ λ is same.
              let untyped = listed-untyped image c ∙ ap (λ b. is_untyped_type (if b then None else type_at image c.source))
              (lt-leb image.header.objects c.source below) ∙ is in
              let parent : listed_parent image c ≡ (object_at image c.source).untyped =
              ap (λ b. if b then (object_at image c.source).untyped else source_boot_slot image c.source) untyped in
              let home = ObjectFits.untyped (fitting.object c.source (object_at image c.source) (object-at image c.source fitting below)) in
              let e = same_Some (listed_parent image c) (original_slot image source) same in
              omega (arith, parent, home, e)
          | false ↦ λ is same.
              let plain = listed-untyped image c ∙ ap (λ b. is_untyped_type (if b then None else type_at image c.source))
              (lt-leb image.header.objects c.source below) ∙ is in
              let parent : listed_parent image c ≡ original_slot image c.source =
              ap (λ b. if b then (object_at image c.source).untyped else source_boot_slot image c.source) plain
              ∙ ap (λ b. if b then handler_slot image (interrupt_of image c.source) else original_slot image c.source)
              (lt-leb image.header.objects c.source below) in
              let e = same_Some (listed_parent image c) (original_slot image source) same in
              let numbers : c.source ≡ source = omega (arith, parent, e) in
              true≢false (sym pool ∙ ap (λ n. is_untyped_type (type_at image n)) (sym numbers) ∙ is)
        ] refl
    | inr handler ↦ λ same.
        let plain = listed-untyped image c ∙ ap (λ b. is_untyped_type (if b then None else type_at image c.source))
        (le-leb image.header.objects c.source handler) in
        let parent : listed_parent image c ≡ handler_slot image (interrupt_of image c.source) =
        ap (λ b. if b then (object_at image c.source).untyped else source_boot_slot image c.source) plain
        ∙ ap (λ b. if b then handler_slot image (interrupt_of image c.source) else original_slot image c.source)
        (le-leb image.header.objects c.source handler) in
        let e = same_Some (listed_parent image c) (original_slot image source) same in
        omega (arith, parent, e, object)
  ]

  free-buffer : (j : ℕ) (t : Thread) → slice_get image.threads j ≡ Some t → AreFree (original_slot image source) (buffer_holdings image t)
  free-buffer j t at =
      elim (t.header.buffer == no_buffer) as
      (λ b. (t.header.buffer == no_buffer) ≡ b → AreFree (original_slot image source) (if b then [] else buffer_holding image t ∷ [])) [
        | true ↦ λ _. free-none (original_slot image source)
        | false ↦ λ some.
            free-more (original_slot image source) (buffer_holding image t) []
            (apart-by is_frame_type t.header.buffer (IsOnly.frame none-of) (BufferKept.frame (buffer-kept image j t (formed.thread j t at) some)))
            (free-none (original_slot image source))
      ] refl

  free-thread : (j : ℕ) (t : Thread) → slice_get image.threads j ≡ Some t → AreFree (original_slot image source) (thread_holdings image t)
  free-thread j t at =
      let kept = formed.thread j t at in
      let radix = ap (λ o. option_map_or (λ radix. is_guard_word radix t.header.guard) o false) (IsOnly.radix none-of) in
      free-more (original_slot image source) (cspace_holding image t) (vspace_holding image t ∷ buffer_holdings image t)
      (apart-by (λ o. option_map_or (λ radix. is_guard_word radix t.header.guard) (radix_of o) false) t.header.cnode radix (ThreadKept.guard kept))
      (free-more (original_slot image source) (vspace_holding image t) (buffer_holdings image t)
      (apart-by is_root_type t.header.root (IsOnly.root none-of) (ThreadKept.root kept)) (free-buffer j t at))

  pub free-holdings : (p : Progress) → IsWithin image p → AreFree (original_slot image source) (holdings_so_far image p)
  unfolding holdings_so_far
  free-holdings p within =
      let from = original_slot image source in
      free-both from _ (threads_part image p)
      (free-both from _ (listed_part image p) (free-both from _ (bindings_part image p) (free-both from _ (notifications_part image p)
      (free-both from _ (frames_part image p) (free-both from _ (handlers_part image p) (free-both from _ (control_part image)
      (free-both from (untypeds_part image p) (originals_so_far image p)
      (free-all from (untyped_so_far image p) (numbered image.untypeds) (λ u same. none-some from same)) (free-originals p within))
      (free-more from _ [] (λ same. none-some from same) (free-none from)))
      (free-mapped from (handler_holding image) (numbered image.interrupts) p.handlers
      (λ j y at same. let e = same_Some (control_slot image) from same in omega (arith, e, object))))
      (free-mapped from (frame_holding image) (numbered image.frames) p.frames free-frame))
      (free-mapped from (notification_holding image) (numbered image.interrupts) p.signals free-notification))
      (free-mapped from (binding_holding image) (numbered image.interrupts) p.signals (λ j y at same.
      let e = same_Some (control_slot image + 1 + image.header.interrupts + image.header.frames + y.0) from same in omega (arith, e, object))))
      (free-mapped from (listed_holding image) image.capabilities p.capabilities free-listed))
      (free-flat from (thread_holdings image) image.threads p.threads free-thread)

-- where no full slot is a child, no parent changes
adopted-none : (from : ℕ) (to : Option ℕ) (held : Entry) → held.parent ≢ Some from → adopted from to held ≡ held
adopted-none from to held other =
    elim (held.parent) as (λ o. held.parent ≡ o → (if option_map_or (λ p. p == from) o false then record held { parent = to } else held) ≡ held) [
      | None ↦ λ _. refl
      | Some parent ↦ λ is. ap (λ b. if b then record held { parent = to } else held) (ne_eqb parent from (λ same. other (is ∙ ap (λ (n : ℕ). Some n) same)))
    ] refl

pub unparented : (image : Image) (p : Progress) (from : ℕ) (to : Option ℕ) (slot : ℕ) → AreFree from (holdings_so_far image p)
    → with_parent (loaded image p).slots from to slot ≡ (loaded image p).slots slot
unfolding loaded
unparented image p from to slot free =
    elim (is_open_so_far image p slot) as (λ b. option_map (adopted from to) (if b then Some (shown (held_in (holdings_so_far image p) slot)) else None)
    ≡ (if b then Some (shown (held_in (holdings_so_far image p) slot)) else None)) [
      | true ↦ ap (λ (e : Entry). let o : Option Entry = Some e in o)
          (adopted-none from to (shown (held_in (holdings_so_far image p) slot)) (apart (held_in (holdings_so_far image p) slot) refl))
      | false ↦ refl
    ] where
      apart : (o : Option Entry) → held_in (holdings_so_far image p) slot ≡ o → (shown o).parent ≢ Some from
      apart None is same = none-some from same
      apart (Some held) is same = free slot held is same
