-- Outside of a thread's CNodes those pages and regions are mapped under its root table that the image lists.
use Rattle.std.proofs.Common.{ℕ, zero, suc, ◌≡◌, ◌∙◌, ◌==◌, ◌/◌, ◌^◌, ◌<◌, ◌≤◌, inl, inr, Bool, true, false, ◌&&◌, ◌||◌, if◌then◌else◌, find, take, Option}
use Rattle.std.proofs.Common.{Some, None, List, [], ◌∷◌, refl, sym, ap, subst, arith}
use Rattle.std.specs.Prelude.{is_none, is_some, slice_get}
use Rattle.std.specs.Option.{option_map_or}
use Rattle.std.specs.List.{list_any, range_with_len}
use Rattle.std.proofs.lemmas.Bool.{and_parts, eq-eqb, eqb-true, or_cases}
use Rattle.std.proofs.lemmas.Option.{none-some, same_Some, slice_get_within}
use Rattle.format_laws.specs.Fitting.{FrameFits, IsFitting, TableFits, ThreadFits}
use Rattle.format_laws.proofs.Laws.{is-fitting}
use Rattle.soundness.specs.boot_laws.Loading.{all_loaded, is_moved, original_so_far}
use Rattle.soundness.proofs.Laws.{AreFormed, BufferKept, CapabilityKept, CountsAreLengths, ReadsBoot, TableKept, ThreadKept, are-formed, boot-slots-suffice}
use Rattle.soundness.proofs.Laws.{counts-are}
use Rattle.soundness.proofs.Laws.{buffer-kept, first_of_type, limited-frame, limited-table, mapped_by, offsets-apart, original-untyped, range-from}
use Rattle.model.specs.declared.capabilities.Cap.{Cap}
use Rattle.model.specs.declared.capabilities.Cap.TheVariants.{Empty, Untyped, Endpoint, Notification, CNode, Frame, PageTable, Tcb, RootTable, InterruptControl}
use Rattle.model.specs.declared.capabilities.Cap.TheVariants.{InterruptHandler}
use Rattle.model.specs.declared.entries.CapabilityEntry.{CapabilityEntry}
use Rattle.model.specs.declared.entries.InterruptEntry.{InterruptEntry}
use Rattle.model.specs.declared.entries.TableEntry.{TableEntry}
use Rattle.model.specs.declared.slot_entries.Entry.{Entry}
use Rattle.model.specs.Acceptance.Accepted.{IsWellFormed}
use Rattle.model.specs.Acceptance.NotedKernel.{key_of}
use Rattle.model.specs.Acceptance.ThreadRules.{reached}
use Rattle.model.specs.Acceptance.WellFormed.{is_frame_type, is_root_type, is_table_type, is_untyped_type, radix_of}
use Rattle.model.specs.Capabilities.CapabilityKinds.{frame_mapping, table_mapping, with_payload}
use Rattle.model.specs.Capabilities.Slots.{capability_at}
use Rattle.model.specs.Images.Described.{binding_holding, described, frame_holding, handler_holding, listed_capability, notification_holding, original}
use Rattle.model.specs.Images.Described.{source_capability, untyped_holding}
use Rattle.model.specs.Images.Image.{Image, Thread, whole_image}
use Rattle.model.specs.Images.Places.{boot_slots, frame_copy_slot, interrupt_of, is_handler, offset_of, original_slot, type_at}
use Rattle.model.specs.Kernel.AddressSpaces.{maps_page, maps_region, page_size, region_pages}
use Rattle.model.specs.Kernel.Retype.{NewObject, NewUntyped, NewThread, NewEndpoint, NewNotification, NewCNode, NewFrame, NewPageTable, NewRootTable}
use Rattle.model.specs.Kernel.State.{slot_numbers, slots_of}
use Rattle.typestate.specs.Mappings.{MappingsAreListed, lists_page, lists_region, maps_page_outside, maps_region_outside}
use Rattle.typestate.proofs.Laws.{decided}
use Rattle.thread_spaces.specs.Given.{IsListed}
use Rattle.thread_spaces.proofs.BootParents.{IsPassed, find-passed}
use Rattle.thread_spaces.proofs.DescribedSlots.{boot-holds, capability-shown, from-loaded}
use Rattle.thread_spaces.proofs.EachHolding.{OfSections, each-slot, each-own}
use Rattle.thread_spaces.proofs.GivenCNodes.{root-radixed}
use Rattle.thread_spaces.proofs.OwnPlaces.{boot-not-own, boot-room}

-- ---- lists

any-at : {A : Type 0} (test : A → Bool) (xs : List A) (k : ℕ) (x : A) → slice_get xs k ≡ Some x → test x ≡ true → list_any test xs ≡ true
any-at test [] k x at is = absurd (none-some x at)
any-at test (y ∷ ys) zero x at is = ap (λ b. b || list_any test ys) (ap test (same_Some y x at) ∙ is)
any-at test (y ∷ ys) (suc k) x at is = or-second (test y) (list_any test ys) (any-at test ys k x at is)
  where
    or-second : (a b : Bool) → b ≡ true → (a || b) ≡ true
    or-second true b is = refl
    or-second false b is = is

some-passed : {A : Type 0} (test : A → Bool) (xs : List A) → list_any test xs ≡ true → (x : A) × IsPassed test xs x
some-passed test [] some = absurd (let clash : false ≡ true = some in cc)
some-passed test (y ∷ ys) some = elim (or_cases (test y) (list_any test ys) some) [
  | inl here ↦ (y, record { place = 0; at = refl; passes = here })
  | inr later ↦ let found = some-passed test ys later in (found.0, record { place = suc (found.1).place; at = (found.1).at; passes = (found.1).passes })
]

any-number : (test : ℕ → Bool) (bits n : ℕ) → n < 2 ^ bits / 16 → test n ≡ true → list_any test (slot_numbers bits) ≡ true
unfolding slot_numbers
any-number test bits n less is = any-at test (range_with_len 0 (2 ^ bits / 16)) n n (range-from 0 (2 ^ bits / 16) n less ∙ ap (λ (m : ℕ). Some m) (omega arith))
    is

pub find-at : {A : Type 0} (test : A → Bool) (xs : List A) (k : ℕ) (x : A) → slice_get xs k ≡ Some x → list_any test (take k xs) ≡ false → test x ≡ true →
    find test xs ≡ Some x
find-at test [] k x at none is = absurd (none-some x at)
find-at test (y ∷ ys) zero x at none is = ap (λ b. if b then Some y else find test ys) (ap test (same_Some y x at) ∙ is) ∙ at
find-at test (y ∷ ys) (suc k) x at none is =
    ap (λ b. if b then Some y else find test ys) (first-none (test y) (list_any test (take k ys)) none)
    ∙ find-at test ys k x at (rest-none (test y) (list_any test (take k ys)) none) is
  where
    first-none : (a b : Bool) → (a || b) ≡ false → a ≡ false
    first-none true b clash = clash
    first-none false b none = refl

    rest-none : (a b : Bool) → (a || b) ≡ false → b ≡ false
    rest-none true b clash = absurd (let bad : true ≡ false = clash in cc)
    rest-none false b none = none

-- ---- what capabilities map

no-frame : (image : Image) (found : Option TableEntry) (kind : Option NewObject) (offset : ℕ) →
    frame_mapping (mapped_by image found (first_of_type kind offset)) ≡ None
no-frame image None None offset = refl
no-frame image (Some e) None offset = refl
no-frame image None (Some (NewUntyped bits)) offset = refl
no-frame image (Some e) (Some (NewUntyped bits)) offset = refl
no-frame image None (Some NewThread) offset = refl
no-frame image (Some e) (Some NewThread) offset = refl
no-frame image None (Some NewEndpoint) offset = refl
no-frame image (Some e) (Some NewEndpoint) offset = refl
no-frame image None (Some NewNotification) offset = refl
no-frame image (Some e) (Some NewNotification) offset = refl
no-frame image None (Some (NewCNode radix)) offset = refl
no-frame image (Some e) (Some (NewCNode radix)) offset = refl
no-frame image None (Some NewFrame) offset = refl
no-frame image (Some e) (Some NewFrame) offset = refl
no-frame image None (Some NewPageTable) offset = refl
no-frame image (Some e) (Some NewPageTable) offset = refl
no-frame image None (Some NewRootTable) offset = refl
no-frame image (Some e) (Some NewRootTable) offset = refl

no-table : (image : Image) (found : Option TableEntry) (kind : Option NewObject) (offset : ℕ) → is_table_type kind ≡ false →
    table_mapping (mapped_by image found (first_of_type kind offset)) ≡ None
no-table image None None offset plain = refl
no-table image (Some e) None offset plain = refl
no-table image None (Some (NewUntyped bits)) offset plain = refl
no-table image (Some e) (Some (NewUntyped bits)) offset plain = refl
no-table image None (Some NewThread) offset plain = refl
no-table image (Some e) (Some NewThread) offset plain = refl
no-table image None (Some NewEndpoint) offset plain = refl
no-table image (Some e) (Some NewEndpoint) offset plain = refl
no-table image None (Some NewNotification) offset plain = refl
no-table image (Some e) (Some NewNotification) offset plain = refl
no-table image None (Some (NewCNode radix)) offset plain = refl
no-table image (Some e) (Some (NewCNode radix)) offset plain = refl
no-table image None (Some NewFrame) offset plain = refl
no-table image (Some e) (Some NewFrame) offset plain = refl
no-table image found (Some NewPageTable) offset plain = absurd (let clash : true ≡ false = plain in cc)
no-table image None (Some NewRootTable) offset plain = refl
no-table image (Some e) (Some NewRootTable) offset plain = refl

payload-frame : (c : Cap) (payload : ℕ) → frame_mapping (with_payload c payload) ≡ frame_mapping c
payload-frame Empty payload = refl
payload-frame (Untyped _ _ _) payload = refl
payload-frame (Endpoint _ _ _) payload = refl
payload-frame (Notification _ _ _) payload = refl
payload-frame (CNode _ _ _) payload = refl
payload-frame (Frame _ _ _) payload = refl
payload-frame (PageTable _ _) payload = refl
payload-frame (Tcb _) payload = refl
payload-frame (RootTable _) payload = refl
payload-frame InterruptControl payload = refl
payload-frame (InterruptHandler _) payload = refl

payload-table : (c : Cap) (payload : ℕ) → table_mapping (with_payload c payload) ≡ table_mapping c
payload-table Empty payload = refl
payload-table (Untyped _ _ _) payload = refl
payload-table (Endpoint _ _ _) payload = refl
payload-table (Notification _ _ _) payload = refl
payload-table (CNode _ _ _) payload = refl
payload-table (Frame _ _ _) payload = refl
payload-table (PageTable _ _) payload = refl
payload-table (Tcb _) payload = refl
payload-table (RootTable _) payload = refl
payload-table InterruptControl payload = refl
payload-table (InterruptHandler _) payload = refl

handler-plain : (found : Option InterruptEntry) → (frame_mapping (option_map_or (λ (i : InterruptEntry). InterruptHandler i.line) found Empty) ≡ None)
    × (table_mapping (option_map_or (λ (i : InterruptEntry). InterruptHandler i.line) found Empty) ≡ None)
handler-plain None = (refl, refl)
handler-plain (Some i) = (refl, refl)

radixed-plain : (kind : Option NewObject) (radix : ℕ) → radix_of kind ≡ Some radix → is_table_type kind ≡ false
radixed-plain None radix is = refl
radixed-plain (Some (NewUntyped bits)) radix is = refl
radixed-plain (Some NewThread) radix is = refl
radixed-plain (Some NewEndpoint) radix is = refl
radixed-plain (Some NewNotification) radix is = refl
radixed-plain (Some (NewCNode r)) radix is = refl
radixed-plain (Some NewFrame) radix is = refl
radixed-plain (Some NewPageTable) radix is = absurd (none-some radix is)
radixed-plain (Some NewRootTable) radix is = refl

rooted-plain : (kind : Option NewObject) → is_root_type kind ≡ true → is_table_type kind ≡ false
rooted-plain None is = refl
rooted-plain (Some (NewUntyped bits)) is = refl
rooted-plain (Some NewThread) is = refl
rooted-plain (Some NewEndpoint) is = refl
rooted-plain (Some NewNotification) is = refl
rooted-plain (Some (NewCNode r)) is = refl
rooted-plain (Some NewFrame) is = refl
rooted-plain (Some NewPageTable) is = absurd (let clash : false ≡ true = is in cc)
rooted-plain (Some NewRootTable) is = refl

framed-plain : (kind : Option NewObject) → is_frame_type kind ≡ true → is_table_type kind ≡ false
framed-plain None is = refl
framed-plain (Some (NewUntyped bits)) is = refl
framed-plain (Some NewThread) is = refl
framed-plain (Some NewEndpoint) is = refl
framed-plain (Some NewNotification) is = refl
framed-plain (Some (NewCNode r)) is = refl
framed-plain (Some NewFrame) is = refl
framed-plain (Some NewPageTable) is = absurd (let clash : false ≡ true = is in cc)
framed-plain (Some NewRootTable) is = refl

-- ---- the pages and regions of a thread

module _ (image : Image) (t : Thread) (fits : whole_image.fits image ≡ true) (well : IsWellFormed image) (listed : IsListed image t) where
  abbrev fitting : IsFitting image
  fitting = is-fitting image fits

  abbrev formed : AreFormed image
  formed = are-formed image well

  abbrev root : ℕ
  root = offset_of image t.header.root

  root-less : t.header.root < image.header.objects
  root-less = ThreadFits.root (IsFitting.thread (is-fitting image fits) listed.number t listed.listed)

  enough : boot_slots image ≤ 2 ^ image.header.boot_radix
  enough = boot-slots-suffice image (is-fitting image fits) (are-formed image well)

  -- a boot slot lies outside of the thread's CNodes, and is one of memory's
  boot-outside : (slot : ℕ) → slot < 2 ^ image.header.boot_radix → is_none (key_of image (reached image t) slot) ≡ true
  boot-outside slot less = ap is_none (boot-not-own image t (is-fitting image fits) (are-formed image well) listed slot (omega (arith, less)))

  boot-in-memory : (slot : ℕ) → slot < 2 ^ image.header.boot_radix → slot < 2 ^ image.header.memory_bits / 16
  boot-in-memory slot less = let room = boot-room image (is-fitting image fits) in omega (arith, less, room)

  -- the root table of an entry is the thread's where their offsets are the same
  same-root : (number : ℕ) → number < image.header.objects → (offset_of image number == offset_of image t.header.root) ≡ true → (number == t.header.root) ≡ true
  same-root number less same =
      eq-eqb number t.header.root (offsets-apart image number t.header.root (is-fitting image fits) (are-formed image well) less root-less
      (eqb-true (offset_of image number) (offset_of image t.header.root) same))

  root-same : (number : ℕ) → (number == t.header.root) ≡ true → (offset_of image number == offset_of image t.header.root) ≡ true
  root-same number same = eq-eqb (offset_of image number) (offset_of image t.header.root) (ap (offset_of image) (eqb-true number t.header.root same))

  both : (a b : Bool) → a ≡ true → b ≡ true → (a && b) ≡ true
  both a b one two = ap (λ x. x && b) one ∙ two

  -- ---- pages

  module _ (page : ℕ) where
    abbrev PageListed : ℕ → Entry → Type 0
    PageListed slot held = maps_page root page held.capability ≡ true → list_any (lists_page t page) image.frames ≡ true

    abbrev maps : Cap → Bool
    maps c = maps_page root page c

    no-page : (c : Cap) → frame_mapping c ≡ None → maps_page root page c ≡ true → list_any (lists_page t page) image.frames ≡ true
    no-page c none clash =
        absurd (let no : false ≡ true = sym (ap (λ m. option_map_or (λ mapping. (mapping.root == root) && (mapping.page == page)) m false) none) ∙ clash in cc)

    original-no-frame : (number : ℕ) → frame_mapping (original image number) ≡ None
    original-no-frame number = no-frame image (find (λ e. e.table == number) image.tables) (type_at image number) (offset_of image number)

    listed-no-frame : (c : CapabilityEntry) → frame_mapping (listed_capability image c) ≡ None
    listed-no-frame c =
        limited-frame (source_capability image c.source) c.rights c.payload
        ∙ elim (is_handler image c.source)
        as (λ b. frame_mapping (if b then option_map_or (λ (i : InterruptEntry). InterruptHandler i.line)
        (slice_get image.interrupts (interrupt_of image c.source)) Empty else original image c.source) ≡ None) [
          | true ↦ (handler-plain (slice_get image.interrupts (interrupt_of image c.source))).0
          | false ↦ original-no-frame c.source
        ]

    pages-listed : OfSections PageListed image
    pages-listed = record {
      untyped = λ k u at. no-page (((untyped_holding image (k, u)).1).capability) refl;
      original = λ number less. no-page (original image number) (original-no-frame number);
      control = no-page InterruptControl refl;
      handler = λ k i at. no-page (((handler_holding image (k, i)).1).capability) refl;
      frame = λ k f at is.
          let parts = and_parts (offset_of image f.root == root) (f.address / page_size == page) is in
          any-at (lists_page t page) image.frames k f at
          (both (f.root == t.header.root) (f.address / page_size == page)
          (same-root f.root (FrameFits.root (IsFitting.frame (is-fitting image fits) k f at)) parts.0) parts.1);
      notification = λ k i at. no-page (((notification_holding image (k, i)).1).capability) refl;
      binding = λ k i at. no-page (((binding_holding image (k, i)).1).capability) refl;
      listed = λ k c at. no-page (listed_capability image c) (listed-no-frame c);
      thread = λ k u at. each-own PageListed image u
          (no-page (with_payload (original image u.header.cnode) u.header.guard)
          (payload-frame (original image u.header.cnode) u.header.guard ∙ original-no-frame u.header.cnode))
          (no-page (original image u.header.root) (original-no-frame u.header.root))
          (λ some. no-page (original image u.header.buffer) (original-no-frame u.header.buffer));
    }

    page-of-slot : (slot : ℕ) → maps_page root page (capability_at (described image).slots slot) ≡ true → list_any (lists_page t page) image.frames ≡ true
    page-of-slot slot is = of-slot ((described image).slots slot) refl
      where
        of-slot : (found : Option Entry) → (described image).slots slot ≡ found → list_any (lists_page t page) image.frames ≡ true
        of-slot None none =
            no-page Empty refl (sym (ap (λ (o : Option Entry). maps_page root page (option_map_or (λ e. e.capability) o Empty)) none) ∙ is)
        of-slot (Some held) some =
            let there : maps_page root page held.capability ≡ true = sym (ap (maps_page root page) (capability-shown image slot held some)) ∙ is in
            elim (each-slot PageListed image pages-listed slot held some) [
              | inl nothing ↦ no-page Empty refl (sym (ap (λ (e : Entry). maps_page root page e.capability) nothing) ∙ there)
              | inr page_is ↦ page_is there
            ]

    page-there : list_any (lists_page t page) image.frames ≡ true → list_any (maps_page_outside image t page) (slots_of (described image)) ≡ true
    unfolding described
    page-there some =
        let found = some-passed (lists_page t page) image.frames some in
        let f = found.0 in
        let k = (found.1).place in
        let at = (found.1).at in
        let parts = and_parts (f.root == t.header.root) (f.address / page_size == page) (found.1).passes in
        let less : k < image.header.frames = subst (λ (n : ℕ). k < n) (IsFitting.frames (is-fitting image fits)) (slice_get_within image.frames k f at) in
        let slot = frame_copy_slot image k in
        let boot : slot < 2 ^ image.header.boot_radix = (let most = enough in omega (arith, less, most)) in
        let shown = from-loaded image slot _ (is-fitting image fits) (ReadsBoot.frame (boot-holds image fits well) k f less at) in
        any-number (maps_page_outside image t page) image.header.memory_bits slot (boot-in-memory slot boot)
        (both (is_none (key_of image (reached image t) slot)) (maps_page root page (capability_at (described image).slots slot)) (boot-outside slot boot)
        (ap (maps_page root page) (capability-shown image slot _ shown)
        ∙ both (offset_of image f.root == root) (f.address / page_size == page) (root-same f.root parts.0) parts.1))

    pub pages-are : list_any (maps_page_outside image t page) (slots_of (described image)) ≡ list_any (lists_page t page) image.frames
    pages-are =
        decided (list_any (maps_page_outside image t page) (slots_of (described image))) (list_any (lists_page t page) image.frames)
        (λ some.
        let found = some-passed (maps_page_outside image t page) (slots_of (described image)) some in
        page-of-slot found.0 (and_parts (is_none (key_of image (reached image t) found.0)) (maps_page root page (capability_at (described image).slots found.0))
        (found.1).passes).1)
        page-there

  -- ---- regions

  module _ (region : ℕ) where
    abbrev RegionListed : ℕ → Entry → Type 0
    RegionListed slot held = maps_region root region held.capability ≡ true → list_any (lists_region t region) image.tables ≡ true

    no-region : (c : Cap) → table_mapping c ≡ None → maps_region root region c ≡ true → list_any (lists_region t region) image.tables ≡ true
    no-region c none clash =
        absurd (let no : false ≡ true = sym (ap (λ m. option_map_or (λ mapping. (mapping.root == root) && (mapping.region == region)) m false) none) ∙ clash in
        cc)

    original-no-table : (number : ℕ) → is_table_type (type_at image number) ≡ false → table_mapping (original image number) ≡ None
    original-no-table number plain = no-table image (find (λ e. e.table == number) image.tables) (type_at image number) (offset_of image number) plain

    original-region : (number : ℕ) (kind : Option NewObject) (found : Option TableEntry) → type_at image number ≡ kind →
        find (λ e. e.table == number) image.tables ≡ found
        → maps_region root region (mapped_by image found (first_of_type kind (offset_of image number))) ≡ true →
        list_any (lists_region t region) image.tables ≡ true
    original-region number (Some NewPageTable) (Some e) kind_is found_is is =
        let passed = find-passed (λ e. e.table == number) image.tables e found_is in
        let parts = and_parts (offset_of image e.root == root) (e.address / page_size / region_pages == region) is in
        any-at (lists_region t region) image.tables passed.place e passed.at
        (both (e.root == t.header.root) (e.address / page_size / region_pages == region)
        (same-root e.root (TableFits.root (IsFitting.table (is-fitting image fits) passed.place e passed.at)) parts.0) parts.1)
    original-region number (Some NewPageTable) None kind_is found_is is = absurd (let no : false ≡ true = is in cc)
    original-region number None found kind_is found_is is = no-region (mapped_by image found (first_of_type None (offset_of image number)))
        (no-table image found None (offset_of image number) refl) is
    original-region number (Some (NewUntyped bits)) found kind_is found_is is =
        no-region (mapped_by image found (first_of_type (Some (NewUntyped bits)) (offset_of image number)))
        (no-table image found (Some (NewUntyped bits)) (offset_of image number) refl) is
    original-region number (Some NewThread) found kind_is found_is is =
        no-region (mapped_by image found (first_of_type (Some NewThread) (offset_of image number)))
        (no-table image found (Some NewThread) (offset_of image number) refl) is
    original-region number (Some NewEndpoint) found kind_is found_is is =
        no-region (mapped_by image found (first_of_type (Some NewEndpoint) (offset_of image number)))
        (no-table image found (Some NewEndpoint) (offset_of image number) refl) is
    original-region number (Some NewNotification) found kind_is found_is is =
        no-region (mapped_by image found (first_of_type (Some NewNotification) (offset_of image number)))
        (no-table image found (Some NewNotification) (offset_of image number) refl) is
    original-region number (Some (NewCNode radix)) found kind_is found_is is =
        no-region (mapped_by image found (first_of_type (Some (NewCNode radix)) (offset_of image number)))
        (no-table image found (Some (NewCNode radix)) (offset_of image number) refl) is
    original-region number (Some NewFrame) found kind_is found_is is =
        no-region (mapped_by image found (first_of_type (Some NewFrame) (offset_of image number)))
        (no-table image found (Some NewFrame) (offset_of image number) refl) is
    original-region number (Some NewRootTable) found kind_is found_is is =
        no-region (mapped_by image found (first_of_type (Some NewRootTable) (offset_of image number)))
        (no-table image found (Some NewRootTable) (offset_of image number) refl) is

    listed-no-table : (k : ℕ) (c : CapabilityEntry) → slice_get image.capabilities k ≡ Some c → table_mapping (listed_capability image c) ≡ None
    listed-no-table k c at =
        limited-table (source_capability image c.source) c.rights c.payload
        ∙ (elim (is_handler image c.source) as (λ b. is_table_type (if b then None else type_at image c.source) ≡ false →
        table_mapping (if b then option_map_or (λ (i : InterruptEntry). InterruptHandler i.line) (slice_get image.interrupts (interrupt_of image c.source))
        Empty else original image c.source) ≡ None) [
          | true ↦ λ _. (handler-plain (slice_get image.interrupts (interrupt_of image c.source))).1
          | false ↦ λ plain. original-no-table c.source plain
        ] (CapabilityKept.no_table (AreFormed.capability (are-formed image well) k c at)))

    regions-listed : OfSections RegionListed image
    regions-listed = record {
      untyped = λ k u at. no-region (((untyped_holding image (k, u)).1).capability) refl;
      original = λ number less. original-region number (type_at image number) (find (λ e. e.table == number) image.tables) refl refl;
      control = no-region InterruptControl refl;
      handler = λ k i at. no-region (((handler_holding image (k, i)).1).capability) refl;
      frame = λ k f at. no-region (((frame_holding image (k, f)).1).capability) refl;
      notification = λ k i at. no-region (((notification_holding image (k, i)).1).capability) refl;
      binding = λ k i at. no-region (((binding_holding image (k, i)).1).capability) refl;
      listed = λ k c at. no-region (listed_capability image c) (listed-no-table k c at);
      thread = λ k u at. each-own RegionListed image u
          (let cnode = cnode-plain k u at in no-region (with_payload (original image u.header.cnode) u.header.guard)
          (payload-table (original image u.header.cnode) u.header.guard ∙ original-no-table u.header.cnode cnode))
          (no-region (original image u.header.root)
          (original-no-table u.header.root
          (rooted-plain (type_at image u.header.root) (ThreadKept.root (AreFormed.thread (are-formed image well) k u at)))))
          (λ some. no-region (original image u.header.buffer)
          (original-no-table u.header.buffer
          (framed-plain (type_at image u.header.buffer)
          (BufferKept.frame (buffer-kept image k u (AreFormed.thread (are-formed image well) k u at) some)))));
    }
      where
        some-plain : (kind : Option NewObject) (r : Option ℕ) → radix_of kind ≡ r → is_some r ≡ true → is_table_type kind ≡ false
        some-plain kind (Some radix) is some = radixed-plain kind radix is
        some-plain kind None is some = absurd (let no : false ≡ true = some in cc)

        cnode-plain : (k : ℕ) (u : Thread) → slice_get image.threads k ≡ Some u → is_table_type (type_at image u.header.cnode) ≡ false
        cnode-plain k u at =
            some-plain (type_at image u.header.cnode) (radix_of (type_at image u.header.cnode)) refl
            (root-radixed image u (are-formed image well) (record { number = k; listed = at }))

    region-of-slot : (slot : ℕ) → maps_region root region (capability_at (described image).slots slot) ≡ true →
        list_any (lists_region t region) image.tables ≡ true
    region-of-slot slot is = of-slot ((described image).slots slot) refl
      where
        of-slot : (found : Option Entry) → (described image).slots slot ≡ found → list_any (lists_region t region) image.tables ≡ true
        of-slot None none =
            no-region Empty refl (sym (ap (λ (o : Option Entry). maps_region root region (option_map_or (λ e. e.capability) o Empty)) none) ∙ is)
        of-slot (Some held) some =
            let there : maps_region root region held.capability ≡ true = sym (ap (maps_region root region) (capability-shown image slot held some)) ∙ is in
            elim (each-slot RegionListed image regions-listed slot held some) [
              | inl nothing ↦ no-region Empty refl (sym (ap (λ (e : Entry). maps_region root region e.capability) nothing) ∙ there)
              | inr region_is ↦ region_is there
            ]

    table-kind : (kind : Option NewObject) → is_table_type kind ≡ true → kind ≡ Some NewPageTable
    table-kind None is = absurd (let no : false ≡ true = is in cc)
    table-kind (Some (NewUntyped bits)) is = absurd (let no : false ≡ true = is in cc)
    table-kind (Some NewThread) is = absurd (let no : false ≡ true = is in cc)
    table-kind (Some NewEndpoint) is = absurd (let no : false ≡ true = is in cc)
    table-kind (Some NewNotification) is = absurd (let no : false ≡ true = is in cc)
    table-kind (Some (NewCNode radix)) is = absurd (let no : false ≡ true = is in cc)
    table-kind (Some NewFrame) is = absurd (let no : false ≡ true = is in cc)
    table-kind (Some NewPageTable) is = refl
    table-kind (Some NewRootTable) is = absurd (let no : false ≡ true = is in cc)

    region-there : list_any (lists_region t region) image.tables ≡ true → list_any (maps_region_outside image t region) (slots_of (described image)) ≡ true
    unfolding described
    region-there some =
        let found = some-passed (lists_region t region) image.tables some in
        let e = found.0 in
        let k = (found.1).place in
        let at = (found.1).at in
        let parts = and_parts (e.root == t.header.root) (e.address / page_size / region_pages == region) (found.1).passes in
        let kept = AreFormed.table (are-formed image well) k e at in
        let number = e.table in
        let less = TableFits.table (IsFitting.table (is-fitting image fits) k e at) in
        let kind : type_at image number ≡ Some NewPageTable = table-kind (type_at image number) (TableKept.table kept) in
        let plain : is_untyped_type (type_at image number) ≡ false = ap is_untyped_type kind in
        let all : take image.header.tables image.tables ≡ image.tables = CountsAreLengths.tables (counts-are image (is-fitting image fits)) in
        let mapped : find (λ o. o.table == number) (take image.header.tables image.tables) ≡ Some e =
        ap (find (λ o. o.table == number)) all ∙ find-at (λ o. o.table == number) image.tables k e at (TableKept.once kept) (eq-eqb number number refl) in
        let slot = original_slot image number in
        let boot : slot < 2 ^ image.header.boot_radix = (let most = enough in omega (arith, less, most)) in
        let stays : is_moved image (all_loaded image) number ≡ false =
        ap (λ b. b && list_any (λ c. c.source == number) (take image.header.capabilities image.capabilities))
        (original-untyped image (all_loaded image) number ∙ plain) in
        let shown = from-loaded image slot _ (is-fitting image fits) (ReadsBoot.original (boot-holds image fits well) number less stays) in
        let held : original_so_far image (all_loaded image) number ≡ mapped_by image (Some e) (first_of_type (Some NewPageTable) (offset_of image number)) =
        ap (λ o. mapped_by image o (first_of_type (type_at image number) (offset_of image number))) mapped
        ∙ ap (λ o. mapped_by image (Some e) (first_of_type o (offset_of image number))) kind in
        any-number (maps_region_outside image t region) image.header.memory_bits slot (boot-in-memory slot boot)
        (both (is_none (key_of image (reached image t) slot)) (maps_region root region (capability_at (described image).slots slot)) (boot-outside slot boot)
        (ap (maps_region root region) (capability-shown image slot _ shown ∙ held)
        ∙ both (offset_of image e.root == root) (e.address / page_size / region_pages == region) (root-same e.root parts.0) parts.1))

    pub regions-are : list_any (maps_region_outside image t region) (slots_of (described image)) ≡ list_any (lists_region t region) image.tables
    regions-are =
        decided (list_any (maps_region_outside image t region) (slots_of (described image))) (list_any (lists_region t region) image.tables)
        (λ some.
        let found = some-passed (maps_region_outside image t region) (slots_of (described image)) some in
        region-of-slot found.0 (and_parts (is_none (key_of image (reached image t) found.0))
        (maps_region root region (capability_at (described image).slots found.0)) (found.1).passes).1)
        region-there

  pub mappings-listed : MappingsAreListed image t
  mappings-listed = record { pages = pages-are; regions = regions-are }
