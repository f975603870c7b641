-- One frame more that is mapped, by a copy.
use Rattle.std.proofs.Common.{ℕ, zero, suc, ◌≡◌, ◌≢◌, ◌∙◌, ◌==◌, ◌<◌, ◌≤◌, ◌/◌, ◌^◌, ◌&&◌, ◌||◌, Bool, true, false, if◌then◌else◌, None, Some, Option, Ok, List}
use Rattle.std.proofs.Common.{[], ◌∷◌, map, find, take, refl, sym, ap, arith, inl, inr}
use Rattle.std.specs.Prelude.{slice_get}
use Rattle.std.specs.List.{list_any}
use Rattle.std.specs.Option.{option_map_or}
use Rattle.std.proofs.lemmas.Bool.{and_parts, eqb-true, eq-eqb, false_from_ne_true, or_parts}
use Rattle.std.proofs.lemmas.Bool.Decides.{eqb_tells}
use Rattle.std.proofs.lemmas.Option.{slice_get_within}
use Rattle.model.specs.declared.capabilities.Cap.{Cap}
use Rattle.model.specs.declared.capabilities.Cap.TheVariants.{Empty, Frame, PageTable}
use Rattle.model.specs.declared.capabilities.TableMapping.{TableMapping}
use Rattle.model.specs.declared.entries.FrameEntry.{FrameEntry}
use Rattle.model.specs.declared.entries.TableEntry.{TableEntry}
use Rattle.model.specs.declared.slot_entries.Entry.{Entry}
use Rattle.model.specs.Acceptance.WellFormed.{are_frame_rights}
use Rattle.model.specs.Capabilities.CapabilityKinds.{is_untyped, with_table_mapping}
use Rattle.model.specs.Capabilities.Rights.{frame_rights, mapping_rights, may_execute, may_read}
use Rattle.model.specs.Capabilities.Slots.{Slots, capability_at, inserted, recapped}
use Rattle.model.specs.Images.Boot.{made}
use Rattle.model.specs.Images.BootCalls.{Calls, boot_cnode, frame_calls, loader_call}
use Rattle.model.specs.Images.Image.{Image}
use Rattle.model.specs.Images.Places.{frame_copy_slot, offset_of, original_slot, type_at}
use Rattle.model.specs.Kernel.AddressSpaces.{is_page, is_page_taken, is_region_taken, maps_page, maps_region, page_size, region_pages, region_size}
use Rattle.model.specs.Kernel.CallForms.{copy_label, map_frame_label}
use Rattle.model.specs.Kernel.Retype.{NewObject, NewFrame, first_capability}
use Rattle.model.specs.Kernel.Soundness.{HasShape}
use Rattle.model.specs.Kernel.State.{State, with_slots}
use Rattle.soundness.specs.boot_laws.Loading.{Progress, is_moved, loaded, original_so_far}
use Rattle.soundness.proofs.boot_laws.CallCopies.{copy-made}
use Rattle.soundness.proofs.boot_laws.CallHeld.{boot-held, none-held}
use Rattle.soundness.proofs.boot_laws.CallMappings.{IsRootSlot, frame-made}
use Rattle.soundness.proofs.boot_laws.CallOriginals.{frame-type, original-loaded, root-type, stays, table-type}
use Rattle.soundness.proofs.boot_laws.PhaseHandlers.{enough-slots, same-radix}
use Rattle.soundness.proofs.boot_laws.PhaseHeld.{NoneHolds, none-holds}
use Rattle.soundness.proofs.boot_laws.PhaseMappings.{key-same, multiple-same, no-frame-listed, no-frame-original, region-of-page}
use Rattle.soundness.proofs.boot_laws.PhaseSources.{inserted-elsewhere, inserted-here, original-read, original-source}
use Rattle.soundness.proofs.boot_laws.PhaseStates.{Known, capability-read, frames-next, free-read}
use Rattle.soundness.proofs.boot_laws.PhaseTables.{address-parts, root-slot}
use Rattle.format_laws.specs.Fitting.{FrameFits}
use Rattle.soundness.proofs.boot_laws.PlacesObjects.{offsets-apart}
use Rattle.soundness.proofs.boot_laws.PlacesRules.{FrameKept}
use Rattle.soundness.proofs.boot_laws.Readings.{entry, mapping_of, one_frame}
use Rattle.soundness.proofs.boot_laws.RunSequences.{Leads, leads-both, leads-call}

-- ---- rights that a mapping may have

allowed-rights : (bits : ℕ) → bits ≤ 7 → are_frame_rights bits ≡ true →
    (may_read (mapping_rights frame_rights bits) || may_execute (mapping_rights frame_rights bits)) ≡ true
allowed-rights zero few are = absurd cc
allowed-rights (suc zero) few are = absurd cc
allowed-rights (suc (suc zero)) few are = refl
allowed-rights (suc (suc (suc zero))) few are = refl
allowed-rights (suc (suc (suc (suc zero)))) few are = refl
allowed-rights (suc (suc (suc (suc (suc zero))))) few are = absurd cc
allowed-rights (suc (suc (suc (suc (suc (suc zero)))))) few are = refl
allowed-rights (suc (suc (suc (suc (suc (suc (suc zero))))))) few are = refl
allowed-rights (suc (suc (suc (suc (suc (suc (suc (suc n)))))))) few are = absurd (omega (arith, few))

-- ---- the table that covers a page

-- the entry that a test picks out of a list
some-item : {A : Type 0} (test : A → Bool) (xs : List A) → list_any test xs ≡ true → (j : ℕ) × (x : A) × (slice_get xs j ≡ Some x) × (test x ≡ true)
some-item test [] is = absurd cc
some-item {A} test (x ∷ xs) is = elim (test x) as (λ b. test x ≡ b → (b || list_any test xs) ≡ true → (j : ℕ) × (y : A) × (slice_get (x ∷ xs) j ≡ Some y)
    × (test y ≡ true)) [
      | true ↦ λ passes e. (0, x, refl, passes)
      | false ↦ λ passes e. let rest = some-item test xs e in (suc rest.0, rest.1, rest.2, rest.3)
    ] refl is

-- an item that no earlier one has the test of is the one that is found
found-first : {A : Type 0} (test : A → Bool) (xs : List A) (n j : ℕ) (x : A) → j < n → slice_get xs j ≡ Some x → test x ≡ true →
    list_any test (take j xs) ≡ false → find test (take n xs) ≡ Some x
found-first test xs zero j x less at passes first = absurd (omega (arith, less))
found-first test [] (suc n) zero x less at passes first = absurd cc
found-first test [] (suc n) (suc j) x less at passes first = absurd cc
found-first {A} test (y ∷ ys) (suc n) zero x less at passes first =
    let same : y ≡ x = cc at in
    ap (λ b. if b then Some y else find test (take n ys)) (ap test same ∙ passes) ∙ at
found-first test (y ∷ ys) (suc n) (suc j) x less at passes first =
    let parts = or_parts (test y) (list_any test (take j ys)) first in
    ap (λ b. if b then Some y else find test (take n ys)) parts.0 ∙ found-first test ys n j x (omega (arith, less)) at passes parts.1

module _ (image : Image) (p : Progress) (f : FrameEntry) (known : Known image p) (all : p.objects ≡ image.header.objects)
    (tabled : p.tables ≡ image.header.tables) (none : p.threads ≡ 0)
    (few : p.frames < image.header.frames) (at : slice_get image.frames p.frames ≡ Some f) where
  abbrev kept : FrameKept image p.frames f
  kept = known.formed.frame p.frames f at

  abbrev fit : FrameFits image f
  fit = known.fits.frame p.frames f at

  abbrev before : State
  before = loaded image p

  abbrev copy_slot : ℕ
  copy_slot = frame_copy_slot image p.frames

  abbrev root : ℕ
  root = offset_of image f.root

  abbrev page : ℕ
  page = f.address / page_size

  abbrev bare : Cap
  bare = Frame (offset_of image f.frame) frame_rights None

  abbrev between_slots : Slots
  between_slots = inserted before.slots copy_slot bare (Some (original_slot image f.frame))

  abbrev between : State
  between = with_slots before between_slots

  copy-below : copy_slot < 2 ^ image.header.boot_radix
  copy-below = let enough = enough-slots image known.formed in omega (arith, enough, few)

  kind : type_at image f.frame ≡ Some NewFrame
  kind = frame-type (type_at image f.frame) kept.frame

  -- ---- the copy

  copies : made before (loader_call boot_cnode copy_label (copy_slot ∷ 32 ∷ original_slot image f.frame ∷ 32 ∷ 3 ∷ [])) ≡ Ok between
  copies =
      let source = original-source image p f.frame known all fit.frame (stays image f.frame NewFrame kind (λ m. refl) p refl) in
      let held = original-loaded image f.frame NewFrame kind (λ m. refl) p in
      copy-made before copy_slot (original_slot image f.frame) bare 3 known.shape (rw (same-radix image p) copy-below)
      (free-read image p copy_slot (known.empty.frame p.frames (omega arith) few))
      (record { inside = source.inside; holds = source.holds ∙ held; shallow = source.shallow }) refl refl

  here : between_slots copy_slot ≡ Some (entry bare (Some (original_slot image f.frame)))
  here = inserted-here before.slots copy_slot bare (Some (original_slot image f.frame))

  capability-same : (slot : ℕ) → slot ≢ copy_slot → capability_at between_slots slot ≡ capability_at before.slots slot
  capability-same slot apart =
      ap (λ (o : Option Entry). option_map_or (λ e. e.capability) o Empty)
      (inserted-elsewhere before.slots copy_slot bare (Some (original_slot image f.frame)) slot apart)

  shape-between : HasShape between
  shape-between = record {
    least_bits = known.shape.least_bits;
    most_bits = known.shape.most_bits;
    least_radix = known.shape.least_radix;
    most_radix = known.shape.most_radix;
    room = known.shape.room;
  }

  -- ---- the page table is there

  covers : (j : ℕ) (t : TableEntry) → slice_get image.tables j ≡ Some t → t.root ≡ f.root → t.address / region_size ≡ f.address / region_size
      → maps_region root (page / region_pages) (capability_at between_slots (original_slot image t.table)) ≡ true
  covers j t there roots regions =
      let table = known.formed.table j t there in
      let less = (known.fits.table j t there).table in
      let table_kind = table-type (type_at image t.table) table.table in
      let first = λ (o : Option NewObject). option_map_or (λ kind. first_capability kind (offset_of image t.table)) o Empty in
      let mapping : TableMapping = record { root = offset_of image t.root; region = t.address / page_size / region_pages } in
      let early : j < p.tables = omega (arith, slice_get_within image.tables j t there, known.fits.tables, tabled) in
      let held : original_so_far image p t.table ≡ PageTable (offset_of image t.table) (Some mapping) =
      ap (λ o. option_map_or (λ u. with_table_mapping (first (type_at image t.table))
      (Some (record { root = offset_of image u.root; region = u.address / page_size / region_pages }))) o (first (type_at image t.table)))
      (found-first (λ (u : TableEntry). u.table == t.table) image.tables p.tables j t early there (eq-eqb t.table t.table refl) table.once)
      ∙ ap (λ o. with_table_mapping (first o) (Some mapping)) table_kind in
      let still : is_moved image p t.table ≡ false = ap (λ c. is_untyped c && list_any (λ l. l.source == t.table) (take p.capabilities image.capabilities))
      held in
      let read = capability-read image p (original_slot image t.table) _ (original-read image p t.table known all less still) in
      let region : t.address / page_size / region_pages ≡ page / region_pages = region-of-page t.address ∙ regions ∙ sym (region-of-page f.address) in
      ap (maps_region root (page / region_pages)) (capability-same (original_slot image t.table) (λ is. omega (arith, is, less)) ∙ read ∙ held)
      ∙ ap (λ b. b && (t.address / page_size / region_pages == page / region_pages)) (eq-eqb (offset_of image t.root) root (ap (offset_of image) roots))
      ∙ eq-eqb (t.address / page_size / region_pages) (page / region_pages) region

  covered : is_region_taken between root (page / region_pages) ≡ true
  covered =
      let item = some-item (λ (t : TableEntry). t.root == f.root && (t.address / region_size == f.address / region_size)) image.tables kept.covered in
      let parts = and_parts (item.1.root == f.root) (item.1.address / region_size == f.address / region_size) item.3 in
      let less = (known.fits.table item.0 item.1 item.2).table in
      let enough = enough-slots image known.formed in
      boot-held between (maps_region root (page / region_pages)) (original_slot image item.1.table) shape-between
      (rw (same-radix image p) (omega (arith, enough, less)))
      (covers item.0 item.1 item.2 (eqb-true item.1.root f.root parts.0) (eqb-true (item.1.address / region_size) (f.address / region_size) parts.1))

  -- ---- the page is free

  page-apart : (j : ℕ) (g : FrameEntry) → j < p.frames → slice_get image.frames j ≡ Some g → is_page root page (mapping_of image g) ≡ false
  page-apart j g early there =
      false_from_ne_true _ (λ same.
      let parts = and_parts (offset_of image g.root == root) (g.address / page_size == page) same in
      let one = known.fits.frame j g there in
      let roots : g.root ≡ f.root = offsets-apart image g.root f.root known.fits known.formed one.root fit.root
      (eqb-true (offset_of image g.root) root parts.0) in
      let a = address-parts g.address page_size (known.formed.frame j g there).address in
      let b = address-parts f.address page_size kept.address in
      let rise = known.fits.pages_rise j p.frames g f early there at in
      let keys = key-same g.root g.address f.root f.address roots
      (multiple-same g.address f.address page_size (omega arith) a.1 b.1 (eqb-true (g.address / page_size) page parts.1)) in
      omega (arith, rise, keys))

  none-maps : NoneHolds image p (maps_page root page)
  none-maps = record {
    empty = refl;
    untyped = λ u. refl;
    object = λ number less. ap (λ m. option_map_or (is_page root page) m false) (no-frame-original image p number);
    control = refl;
    handler = λ k i less there. refl;
    frame = λ k g less there. page-apart k g less there;
    signal = λ k i less there. refl;
    listed = λ k c less there. ap (λ m. option_map_or (is_page root page) m false) (no-frame-listed image k c known.fits (known.formed.capability k c there));
    cspace = λ k u less there. absurd (omega (arith, less, none));
    vspace = λ k u less there. absurd (omega (arith, less, none));
    buffer = λ k u less there. absurd (omega (arith, less, none));
  }

  free : is_page_taken between root page ≡ false
  free = none-held between (maps_page root page) (λ slot. elim (eqb_tells slot copy_slot) [
    | inl same ↦ ap (λ (n : ℕ). maps_page root page (capability_at between_slots n)) same.1
        ∙ ap (λ (o : Option Entry). maps_page root page (option_map_or (λ e. e.capability) o Empty)) here
    | inr other ↦ ap (maps_page root page) (capability-same slot other.1) ∙ none-holds image p (maps_page root page) none-maps slot
  ])

  -- ---- the mapping

  root-between : IsRootSlot between (original_slot image f.root) root
  root-between =
      let is = root-slot image p f.root known all fit.root (root-type (type_at image f.root) kept.root) in
      record { inside = is.inside; holds = capability-same (original_slot image f.root) (λ same. omega (arith, same, fit.root)) ∙ is.holds }

  recapped-copy : recapped between_slots copy_slot (Frame (offset_of image f.frame) frame_rights (Some (mapping_of image f)))
      ≡ inserted before.slots copy_slot (Frame (offset_of image f.frame) frame_rights (Some (mapping_of image f))) (Some (original_slot image f.frame))
  recapped-copy = λ i slot. over slot i
    where
      mapped : Cap
      mapped = Frame (offset_of image f.frame) frame_rights (Some (mapping_of image f))

      over : (slot : ℕ) → recapped between_slots copy_slot mapped slot ≡ inserted before.slots copy_slot mapped (Some (original_slot image f.frame)) slot
      over slot =
          ap (λ (o : Option Entry). if slot == copy_slot then Some (entry mapped (option_map_or (λ e. e.parent) o None)) else between_slots slot) here
          ∙ elim (slot == copy_slot)
          as (λ b. (if b then Some (entry mapped (Some (original_slot image f.frame))) else
          (if b then Some (entry bare (Some (original_slot image f.frame))) else before.slots slot))
          ≡ (if b then Some (entry mapped (Some (original_slot image f.frame))) else before.slots slot)) [ true ↦ refl | false ↦ refl ]

  maps : made between (loader_call copy_slot map_frame_label (original_slot image f.root ∷ 32 ∷ f.address ∷ f.rights ∷ [])) ≡ Ok (loaded image (one_frame p))
  maps =
      let address = address-parts f.address page_size kept.address in
      frame-made between copy_slot (offset_of image f.frame) frame_rights (original_slot image f.root) root f.address f.rights shape-between (record {
        inside = rw (same-radix image p) copy-below;
        holds = ap (λ (o : Option Entry). option_map_or (λ e. e.capability) o Empty) here;
        under = root-between;
        below = address.0;
        aligned = address.1;
        covered = covered;
        free = free;
        allowed = allowed-rights f.rights fit.rights kept.rights;
      })
      ∙ ap (λ (slots : Slots). Ok (with_slots before slots)) recapped-copy
      ∙ ap (λ (after : State). Ok after) (frames-next image p _ (known.adds.frame f at))

  pub frames-by-one : Leads image before (map Calls (frame_calls image (p.frames, f))) (loaded image (one_frame p))
  frames-by-one =
      let copy = loader_call boot_cnode copy_label (copy_slot ∷ 32 ∷ original_slot image f.frame ∷ 32 ∷ 3 ∷ []) in
      let mapping = loader_call copy_slot map_frame_label (original_slot image f.root ∷ 32 ∷ f.address ∷ f.rights ∷ []) in
      leads-both image before between (loaded image (one_frame p)) (Calls copy ∷ []) (Calls mapping ∷ [])
      (leads-call image before between copy copies) (leads-call image between (loaded image (one_frame p)) mapping maps)
