-- Which capabilities of a state between two operations hold mappings: page tables by the table entries so far, frame copies, and no others.
use Rattle.std.proofs.Common.{ℕ, zero, suc, ◌≡◌, ◌∙◌, ◌==◌, ◌<◌, ◌≤◌, ◌+◌, ◌*◌, ◌/◌, ◌%◌, ◌^◌, Bool, true, false, if◌then◌else◌, None, Some, Option, List, []}
use Rattle.std.proofs.Common.{◌∷◌, find, take, refl, sym, ap, subst, arith}
use Rattle.std.specs.Prelude.{slice_get}
use Rattle.std.specs.List.{list_any}
use Rattle.std.specs.Option.{option_map_or}
use Rattle.std.proofs.lemmas.Bool.{leb-false, or_parts}
use Rattle.model.specs.declared.capabilities.Cap.{Cap}
use Rattle.model.specs.declared.capabilities.Cap.TheVariants.{Empty, CNode, Endpoint, Frame, InterruptControl, InterruptHandler, Notification, PageTable}
use Rattle.model.specs.declared.capabilities.Cap.TheVariants.{RootTable, Tcb, Untyped}
use Rattle.model.specs.declared.capabilities.TableMapping.{TableMapping}
use Rattle.model.specs.declared.entries.CapabilityEntry.{CapabilityEntry}
use Rattle.model.specs.declared.entries.InterruptEntry.{InterruptEntry}
use Rattle.model.specs.Acceptance.WellFormed.{is_table_type, source_type}
use Rattle.model.specs.Capabilities.CapabilityKinds.{frame_mapping, table_mapping, with_table_mapping}
use Rattle.model.specs.Images.Described.{limited, listed_capability, original, source_capability}
use Rattle.model.specs.Images.Image.{Image, pair_key}
use Rattle.model.specs.Images.Places.{interrupt_of, is_handler, offset_of, type_at}
use Rattle.model.specs.Kernel.AddressSpaces.{page_size, region_pages, region_size}
use Rattle.model.specs.Kernel.Retype.{NewObject, NewUntyped, NewThread, NewEndpoint, NewNotification, NewCNode, NewFrame, NewPageTable, NewRootTable}
use Rattle.model.specs.Kernel.Retype.{first_capability}
use Rattle.soundness.specs.boot_laws.Loading.{Progress, original_so_far}
use Rattle.soundness.proofs.boot_laws.CallOriginals.{original-described}
use Rattle.format_laws.specs.Fitting.{IsFitting}
use Rattle.soundness.proofs.boot_laws.PlacesRules.{CapabilityKept}
use Rattle.soundness.proofs.boot_laws.PlacesTypes.{HasType, has-type}

-- ---- lists

-- what is found in a beginning is one of its items
pub find-item : {A : Type 0} (test : A → Bool) (xs : List A) (n : ℕ) (x : A) → find test (take n xs) ≡ Some x → (j : ℕ) × (j < n) × (slice_get xs j ≡ Some x)
    × (test x ≡ true)
find-item test xs zero x is = absurd cc
find-item test [] (suc n) x is = absurd cc
find-item {A} test (y ∷ ys) (suc n) x is = elim (test y) as (λ b. test y ≡ b → (if b then Some y else find test (take n ys)) ≡ Some x → (j : ℕ) × (j < suc n)
    × (slice_get (y ∷ ys) j ≡ Some x) × (test x ≡ true)) [
      | true ↦ λ passes found. let same : y ≡ x = cc found in (0, omega arith, found, subst (λ (z : A). test z ≡ true) same passes)
      | false ↦ λ passes found. let rest = find-item test ys n x found in (suc rest.0, omega (arith, rest.1), rest.2, rest.3)
    ] refl is

-- nothing is found where no item of a beginning passes
pub find-none : {A : Type 0} (test : A → Bool) (xs : List A) → list_any test xs ≡ false → find test xs ≡ None
find-none test [] is = refl
find-none test (x ∷ xs) is =
    let parts = or_parts (test x) (list_any test xs) is in
    ap (λ b. if b then Some x else find test xs) parts.0 ∙ find-none test xs parts.1

-- ---- addresses

-- equal keys have equal parts, and other ones differ in a part
pub key-same : (a b c d : ℕ) → a ≡ c → b ≡ d → pair_key a b ≡ pair_key c d
key-same a b c d first second = ap (λ (n : ℕ). n * 2 ^ 32 + b) first ∙ ap (λ (n : ℕ). c * 2 ^ 32 + n) second

-- multiples of a size are the same where their numbers are
pub multiple-same : (a b size : ℕ) → 1 ≤ size → a % size ≡ 0 → b % size ≡ 0 → a / size ≡ b / size → a ≡ b
multiple-same a b size least first second same = div-mod a ∙ ap (λ (n : ℕ). n * size + a % size) same ∙ ap (λ (n : ℕ). b / size * size + n) (first ∙ sym second)
    ∙ sym (div-mod b)
  where
    div-mod : (n : ℕ) → n ≡ n / size * size + n % size
    div-mod n = grind (arith, least)

pub region-of-page : (a : ℕ) → a / page_size / region_pages ≡ a / region_size
region-of-page a = omega arith

-- ---- originals

-- all but page tables
pub unmapped-first : (kind : NewObject) (offset : ℕ) → is_table_type (Some kind) ≡ false → (m : Option TableMapping) →
    with_table_mapping (first_capability kind offset) m ≡ first_capability kind offset
unmapped-first (NewUntyped size) offset b m = refl
unmapped-first NewThread offset b m = refl
unmapped-first NewPageTable offset b m = absurd cc
unmapped-first NewEndpoint offset b m = refl
unmapped-first NewNotification offset b m = refl
unmapped-first (NewCNode radix) offset b m = refl
unmapped-first NewFrame offset b m = refl
unmapped-first NewRootTable offset b m = refl

-- what an object's first capability has no mapping of
pub no-table-first : (kind : NewObject) (offset : ℕ) → table_mapping (first_capability kind offset) ≡ None
no-table-first (NewUntyped size) offset = refl
no-table-first NewThread offset = refl
no-table-first NewPageTable offset = refl
no-table-first NewEndpoint offset = refl
no-table-first NewNotification offset = refl
no-table-first (NewCNode radix) offset = refl
no-table-first NewFrame offset = refl
no-table-first NewRootTable offset = refl

pub no-frame-first : (kind : NewObject) (offset : ℕ) → frame_mapping (first_capability kind offset) ≡ None
no-frame-first (NewUntyped size) offset = refl
no-frame-first NewThread offset = refl
no-frame-first NewPageTable offset = refl
no-frame-first NewEndpoint offset = refl
no-frame-first NewNotification offset = refl
no-frame-first (NewCNode radix) offset = refl
no-frame-first NewFrame offset = refl
no-frame-first NewRootTable offset = refl

-- a mapping of a page table is that of no frame
no-frame-mapped : (c : Cap) (m : Option TableMapping) → frame_mapping (with_table_mapping c m) ≡ frame_mapping c
no-frame-mapped Empty m = refl
no-frame-mapped (Untyped a b d) m = refl
no-frame-mapped (Endpoint a r b) m = refl
no-frame-mapped (Notification a r b) m = refl
no-frame-mapped (CNode a r g) m = refl
no-frame-mapped (Frame a r x) m = refl
no-frame-mapped (PageTable a x) m = refl
no-frame-mapped (Tcb a) m = refl
no-frame-mapped (RootTable a) m = refl
no-frame-mapped InterruptControl m = refl
no-frame-mapped (InterruptHandler a) m = refl

pub no-frame-original : (image : Image) (p : Progress) (number : ℕ) → frame_mapping (original_so_far image p number) ≡ None
no-frame-original image p number =
    let first = option_map_or (λ kind. first_capability kind (offset_of image number)) (type_at image number) Empty in
    let bare : frame_mapping first ≡ None = elim (type_at image number)
    as (λ o. frame_mapping (option_map_or (λ kind. first_capability kind (offset_of image number)) o Empty) ≡ None) [
      | None ↦ refl
      | Some kind ↦ no-frame-first kind (offset_of image number)
    ] in
    elim (find (λ t. t.table == number) (take p.tables image.tables)) as
    (λ o. frame_mapping (option_map_or
    (λ t. with_table_mapping first (Some (record { root = offset_of image t.root; region = t.address / page_size / region_pages }))) o first) ≡ None) [
      | None ↦ bare
      | Some t ↦ no-frame-mapped first _ ∙ bare
    ]

-- ---- listed capabilities

pub limited-table : (c : Cap) (bits payload : ℕ) → table_mapping (limited c bits payload) ≡ table_mapping c
limited-table Empty bits payload = refl
limited-table (Untyped a b d) bits payload = refl
limited-table (Endpoint a r b) bits payload = refl
limited-table (Notification a r b) bits payload = refl
limited-table (CNode a r g) bits payload = refl
limited-table (Frame a r x) bits payload = refl
limited-table (PageTable a x) bits payload = refl
limited-table (Tcb a) bits payload = refl
limited-table (RootTable a) bits payload = refl
limited-table InterruptControl bits payload = refl
limited-table (InterruptHandler a) bits payload = refl

pub limited-frame : (c : Cap) (bits payload : ℕ) → frame_mapping (limited c bits payload) ≡ frame_mapping c
limited-frame Empty bits payload = refl
limited-frame (Untyped a b d) bits payload = refl
limited-frame (Endpoint a r b) bits payload = refl
limited-frame (Notification a r b) bits payload = refl
limited-frame (CNode a r g) bits payload = refl
limited-frame (Frame a r x) bits payload = refl
limited-frame (PageTable a x) bits payload = refl
limited-frame (Tcb a) bits payload = refl
limited-frame (RootTable a) bits payload = refl
limited-frame InterruptControl bits payload = refl
limited-frame (InterruptHandler a) bits payload = refl

-- a source's capability has no mapping
module _ (image : Image) (k : ℕ) (c : CapabilityEntry) (fits : IsFitting image) (kept : CapabilityKept image k c) where
  source-plain : (table_mapping (source_capability image c.source) ≡ None) × (frame_mapping (source_capability image c.source) ≡ None)
  source-plain = elim (is_handler image c.source) as (λ b. is_handler image c.source ≡ b
      → (table_mapping (if b then option_map_or (λ i. InterruptHandler i.line) (slice_get image.interrupts (interrupt_of image c.source)) Empty else
      original image c.source) ≡ None)
      × (frame_mapping (if b then option_map_or (λ i. InterruptHandler i.line) (slice_get image.interrupts (interrupt_of image c.source)) Empty else
      original image c.source) ≡ None)) [
        | true ↦ λ is. elim (slice_get image.interrupts (interrupt_of image c.source)) as (λ (o : Option InterruptEntry).
            (table_mapping (option_map_or (λ i. InterruptHandler i.line) o Empty) ≡ None)
            × (frame_mapping (option_map_or (λ i. InterruptHandler i.line) o Empty) ≡ None)) [
              | None ↦ (refl, refl)
              | Some i ↦ (refl, refl)
            ]
        | false ↦ λ is.
            let less : c.source < image.header.objects = leb-false image.header.objects c.source is in
            let typed = has-type image c.source fits less in
            let kind = HasType.kind typed in
            let source_is : source_type image c.source ≡ Some kind = ap (λ b. if b then None else type_at image c.source) is ∙ HasType.is typed in
            let first = original-described image c.source kind (HasType.is typed)
            (unmapped-first kind (offset_of image c.source) (ap is_table_type (sym source_is) ∙ kept.no_table)) in
            (ap table_mapping first ∙ no-table-first kind (offset_of image c.source), ap frame_mapping first ∙ no-frame-first kind (offset_of image c.source))
      ] refl

  pub no-table-listed : table_mapping (listed_capability image c) ≡ None
  no-table-listed = limited-table (source_capability image c.source) c.rights c.payload ∙ source-plain.0

  pub no-frame-listed : frame_mapping (listed_capability image c) ≡ None
  no-frame-listed = limited-frame (source_capability image c.source) c.rights c.payload ∙ source-plain.1
