-- One page table more that is mapped.
use Rattle.std.proofs.Common.{ℕ, ◌≡◌, ◌∙◌, ◌==◌, ◌<◌, ◌/◌, ◌%◌, ◌&&◌, true, false, nat_lt, None, Some, Option, Ok, find, take, refl, sym, ap, arith}
use Rattle.std.specs.Prelude.{slice_get}
use Rattle.std.specs.List.{list_any}
use Rattle.std.specs.Option.{option_map_or}
use Rattle.std.proofs.lemmas.Bool.{and_parts, eqb-true, ltb-true, false_from_ne_true}
use Rattle.model.specs.declared.capabilities.Cap.{Cap}
use Rattle.model.specs.declared.capabilities.Cap.TheVariants.{Empty, CNode, Endpoint, Frame, InterruptControl, InterruptHandler, Notification, PageTable}
use Rattle.model.specs.declared.capabilities.Cap.TheVariants.{RootTable, Tcb, Untyped}
use Rattle.model.specs.declared.capabilities.TableMapping.{TableMapping}
use Rattle.model.specs.declared.entries.TableEntry.{TableEntry}
use Rattle.model.specs.Capabilities.CapabilityKinds.{is_untyped, table_mapping, with_table_mapping}
use Rattle.model.specs.Capabilities.Slots.{recapped}
use Rattle.model.specs.Images.Boot.{made}
use Rattle.model.specs.Images.BootCalls.{table_call}
use Rattle.model.specs.Images.Image.{Image}
use Rattle.model.specs.Images.Places.{offset_of, original_slot, type_at}
use Rattle.model.specs.Kernel.AddressSpaces.{address_limit, is_region, maps_region, page_size, region_pages, region_size}
use Rattle.model.specs.Kernel.Retype.{NewObject, NewPageTable, NewRootTable, first_capability}
use Rattle.model.specs.Kernel.State.{State, with_slots}
use Rattle.soundness.specs.boot_laws.Loading.{Progress, is_moved, loaded, original_so_far}
use Rattle.soundness.proofs.boot_laws.CallHeld.{none-held}
use Rattle.soundness.proofs.boot_laws.CallMappings.{IsRootSlot, MapsTable, table-made}
use Rattle.soundness.proofs.boot_laws.CallOriginals.{original-loaded, root-type, stays, table-type}
use Rattle.soundness.proofs.boot_laws.PhaseHeld.{NoneHolds, none-holds}
use Rattle.soundness.proofs.boot_laws.PhaseMappings.{find-item, find-none, key-same, multiple-same, no-table-first, no-table-listed, region-of-page}
use Rattle.soundness.proofs.boot_laws.PhaseSources.{original-source}
use Rattle.soundness.proofs.boot_laws.PhaseStates.{Known, tables-next}
use Rattle.format_laws.specs.Fitting.{TableFits}
use Rattle.soundness.proofs.boot_laws.PlacesObjects.{offsets-apart}
use Rattle.soundness.proofs.boot_laws.PlacesRules.{TableKept}
use Rattle.soundness.proofs.boot_laws.Readings.{one_table}

-- an address of a page table
pub address-parts : (address size : ℕ) → (nat_lt address address_limit && (address % size == 0)) ≡ true → (address < address_limit) × (address % size ≡ 0)
address-parts address size is = let parts = and_parts _ _ is in (ltb-true address address_limit parts.0, eqb-true (address % size) 0 parts.1)

-- a root table in its boot slot
pub root-slot : (image : Image) (p : Progress) (number : ℕ) → Known image p → p.objects ≡ image.header.objects → number < image.header.objects →
    type_at image number ≡ Some NewRootTable
    → IsRootSlot (loaded image p) (original_slot image number) (offset_of image number)
root-slot image p number known all less kind =
    let source = original-source image p number known all less (stays image number NewRootTable kind (λ m. refl) p refl) in
    record { inside = source.inside; holds = source.holds ∙ original-loaded image number NewRootTable kind (λ m. refl) p }

-- what the original of a page table maps, by the entries so far
mapped-original : (image : Image) (p : Progress) (number root region : ℕ)
    → ((j : ℕ) (u : TableEntry) → j < p.tables → slice_get image.tables j ≡ Some u →
    is_region root region (record { root = offset_of image u.root; region = u.address / page_size / region_pages }) ≡ false)
    → maps_region root region (original_so_far image p number) ≡ false
mapped-original image p number root region others =
    let first = option_map_or (λ kind. first_capability kind (offset_of image number)) (type_at image number) Empty in
    let bare : table_mapping first ≡ None = elim (type_at image number)
    as (λ o. table_mapping (option_map_or (λ kind. first_capability kind (offset_of image number)) o Empty) ≡ None) [
      | None ↦ refl
      | Some kind ↦ no-table-first kind (offset_of image number)
    ] in
    elim (find (λ t. t.table == number) (take p.tables image.tables)) as
    (λ o. find (λ t. t.table == number) (take p.tables image.tables) ≡ o
    → option_map_or (is_region root region)
    (table_mapping (option_map_or
    (λ t. with_table_mapping first (Some (record { root = offset_of image t.root; region = t.address / page_size / region_pages }))) o first)) false
    ≡ false) [
      | None ↦ λ found. ap (λ m. option_map_or (is_region root region) m false) bare
      | Some u ↦ λ found.
          let item = find-item (λ (t : TableEntry). t.table == number) image.tables p.tables u found in
          mapped first (record { root = offset_of image u.root; region = u.address / page_size / region_pages }) bare (others item.0 u item.1 item.2)
    ] refl
  where
    mapped : (c : Cap) (m : TableMapping) → table_mapping c ≡ None → is_region root region m ≡ false →
        option_map_or (is_region root region) (table_mapping (with_table_mapping c (Some m))) false ≡ false
    mapped Empty m bare is = refl
    mapped (Untyped a b d) m bare is = refl
    mapped (Endpoint a r b) m bare is = refl
    mapped (Notification a r b) m bare is = refl
    mapped (CNode a r g) m bare is = refl
    mapped (Frame a r x) m bare is = refl
    mapped (PageTable a x) m bare is = is
    mapped (Tcb a) m bare is = refl
    mapped (RootTable a) m bare is = refl
    mapped InterruptControl m bare is = refl
    mapped (InterruptHandler a) m bare is = refl

module _ (image : Image) (p : Progress) (t : TableEntry) (known : Known image p) (all : p.objects ≡ image.header.objects) (framed : p.frames ≡ 0)
    (none : p.threads ≡ 0)
    (at : slice_get image.tables p.tables ≡ Some t) where
  abbrev kept : TableKept image p.tables t
  kept = known.formed.table p.tables t at

  abbrev fit : TableFits image t
  fit = known.fits.table p.tables t at

  region-apart : (j : ℕ) (u : TableEntry) → j < p.tables → slice_get image.tables j ≡ Some u
      → is_region (offset_of image t.root) (t.address / region_size) (record { root = offset_of image u.root; region = u.address / page_size / region_pages })
      ≡ false
  region-apart j u early there =
      false_from_ne_true _ (λ same.
      let parts = and_parts (offset_of image u.root == offset_of image t.root) (u.address / page_size / region_pages == t.address / region_size) same in
      let one = known.fits.table j u there in
      let roots : u.root ≡ t.root = offsets-apart image u.root t.root known.fits known.formed one.root fit.root
      (eqb-true (offset_of image u.root) (offset_of image t.root) parts.0) in
      let regions : u.address / region_size ≡ t.address / region_size = sym (region-of-page u.address)
      ∙ eqb-true (u.address / page_size / region_pages) (t.address / region_size) parts.1 in
      let a = address-parts u.address region_size (known.formed.table j u there).address in
      let b = address-parts t.address region_size kept.address in
      let rise = known.fits.regions_rise j p.tables u t early there at in
      let keys = key-same u.root u.address t.root t.address roots (multiple-same u.address t.address region_size (omega arith) a.1 b.1 regions) in
      omega (arith, rise, keys))

  none-maps : NoneHolds image p (maps_region (offset_of image t.root) (t.address / region_size))
  none-maps = record {
    empty = refl;
    untyped = λ u. refl;
    object = λ number less. mapped-original image p number (offset_of image t.root) (t.address / region_size) region-apart;
    control = refl;
    handler = λ k i less there. refl;
    frame = λ k f less there. refl;
    signal = λ k i less there. refl;
    listed = λ k c less there. ap (λ m. option_map_or (is_region (offset_of image t.root) (t.address / region_size)) m false)
        (no-table-listed image k c known.fits (known.formed.capability k c there));
    cspace = λ k u less there. absurd (omega (arith, less, none));
    vspace = λ k u less there. absurd (omega (arith, less, none));
    buffer = λ k u less there. absurd (omega (arith, less, none));
  }

  kind : type_at image t.table ≡ Some NewPageTable
  kind = table-type (type_at image t.table) kept.table

  -- the table is not mapped yet
  held : original_so_far image p t.table ≡ PageTable (offset_of image t.table) None
  held =
      ap (λ o. option_map_or (λ u. with_table_mapping (bare (type_at image t.table))
      (Some (record { root = offset_of image u.root; region = u.address / page_size / region_pages }))) o (bare (type_at image t.table)))
      (find-none (λ (u : TableEntry). u.table == t.table) (take p.tables image.tables) kept.once)
      ∙ ap bare kind
    where
      bare : Option NewObject → Cap
      bare o = option_map_or (λ kind. first_capability kind (offset_of image t.table)) o Empty

  still : is_moved image p t.table ≡ false
  still = ap (λ c. is_untyped c && list_any (λ l. l.source == t.table) (take p.capabilities image.capabilities)) held

  pub tables-by-one : made (loaded image p) (table_call image t) ≡ Ok (loaded image (one_table p))
  tables-by-one =
      let s = loaded image p in
      let source = original-source image p t.table known all fit.table still in
      let address = address-parts t.address region_size kept.address in
      let asked : MapsTable s (original_slot image t.table) (offset_of image t.table) (original_slot image t.root) (offset_of image t.root) t.address = record {
        inside = source.inside;
        holds = source.holds ∙ held;
        under = root-slot image p t.root known all fit.root (root-type (type_at image t.root) kept.root);
        below = address.0;
        aligned = address.1;
        free = none-held s (maps_region (offset_of image t.root) (t.address / region_size))
            (none-holds image p (maps_region (offset_of image t.root) (t.address / region_size)) none-maps);
      } in
      let mapping = λ (region : ℕ). let m : TableMapping = record { root = offset_of image t.root; region = region } in m in
      table-made s (original_slot image t.table) (offset_of image t.table) (original_slot image t.root) (offset_of image t.root) t.address known.shape asked
      ∙ ap (λ (n : ℕ). Ok (with_slots s (recapped s.slots (original_slot image t.table) (PageTable (offset_of image t.table) (Some (mapping n))))))
      (sym (region-of-page t.address))
      ∙ ap (λ (c : Cap). Ok
      (with_slots s (recapped s.slots (original_slot image t.table) (with_table_mapping c (Some (mapping (t.address / page_size / region_pages)))))))
      (sym held)
      ∙ ap (λ (after : State). Ok after) (tables-next image p _ (known.adds_room.table t at))
