-- A page table that an image lists for a thread is mapped by a capability in the boot CNode.
use Rattle.std.proofs.Common.{ℕ, ◌≡◌, ◌∙◌, ◌==◌, ◌/◌, ◌^◌, ◌<◌, ◌&&◌, true, false, take, find, Some, refl, ap, arith}
use Rattle.std.specs.Prelude.{slice_get}
use Rattle.std.specs.List.{list_any}
use Rattle.std.proofs.lemmas.Bool.{and_from, and_parts, eq-eqb, eqb-true}
use Rattle.std.proofs.lemmas.List.Folds.{Any-from_list_any}
use Rattle.std.proofs.lemmas.Option.{slice_get-get_or}
use Rattle.soundness.specs.boot_laws.Loading.{all_loaded, is_moved, original_so_far}
use Rattle.soundness.proofs.Laws.{AreFormed, CountsAreLengths, ReadsBoot, TableKept, are-formed, boot-slots-suffice, counts-are, first_of_type, mapped_by}
use Rattle.soundness.proofs.Laws.{original-untyped, table-type}
use Rattle.format_laws.specs.Fitting.{IsFitting, TableFits}
use Rattle.format_laws.proofs.Laws.{is-fitting}
use Rattle.model.specs.declared.entries.TableEntry.{TableEntry}
use Rattle.model.specs.Acceptance.Accepted.{IsWellFormed}
use Rattle.model.specs.Acceptance.WellFormed.{is_untyped_type}
use Rattle.model.specs.Capabilities.Slots.{capability_at}
use Rattle.model.specs.Images.Described.{described}
use Rattle.model.specs.Images.Image.{Image, Thread, whole_image}
use Rattle.model.specs.Images.Places.{offset_of, original_slot, type_at}
use Rattle.model.specs.Kernel.AddressSpaces.{maps_region, page_size, region_pages}
use Rattle.model.specs.Kernel.Retype.{NewPageTable}
use Rattle.typestate.specs.Mappings.{lists_region}
use Rattle.thread_spaces.proofs.Laws.{boot-holds, capability-shown, find-at, from-loaded}

pub record MapsInBoot (image : Image) (t : Thread) (region : ℕ) : Type 0 where
  pub slot : ℕ
  pub boot : slot < 2 ^ image.header.boot_radix
  pub maps : maps_region (offset_of image t.header.root) region (capability_at (described image).slots slot) ≡ true

module _ (image : Image) (t : Thread) (fits : whole_image.fits image ≡ true) (well : IsWellFormed image) (region : ℕ) where
  abbrev root : ℕ
  root = offset_of image t.header.root

  entry-in-boot : (k : ℕ) (e : TableEntry) → slice_get image.tables k ≡ Some e → lists_region t region e ≡ true → MapsInBoot image t region
  entry-in-boot k e at passes =
      let parts = and_parts (e.root == t.header.root) (e.address / page_size / region_pages == region) passes in
      let kept = AreFormed.table (are-formed image well) k e at in
      let number = e.table in
      let less = TableFits.table (IsFitting.table (is-fitting image fits) k e at) in
      let kind : type_at image number ≡ Some NewPageTable = table-type (type_at image number) (TableKept.table kept) in
      let plain : is_untyped_type (type_at image number) ≡ false = ap is_untyped_type kind in
      let all : take image.header.tables image.tables ≡ image.tables = CountsAreLengths.tables (counts-are image (is-fitting image fits)) in
      let mapped : find (λ o. o.table == number) (take image.header.tables image.tables) ≡ Some e =
      ap (find (λ o. o.table == number)) all ∙ find-at (λ o. o.table == number) image.tables k e at (TableKept.once kept) (eq-eqb number number refl) in
      let slot = original_slot image number in
      let enough = boot-slots-suffice image (is-fitting image fits) (are-formed image well) in
      let boot : slot < 2 ^ image.header.boot_radix = omega (arith, less, enough) in
      let stays : is_moved image (all_loaded image) number ≡ false =
      ap (λ b. b && list_any (λ c. c.source == number) (take image.header.capabilities image.capabilities))
      (original-untyped image (all_loaded image) number ∙ plain) in
      let shown = from-loaded image slot _ (is-fitting image fits) (ReadsBoot.original (boot-holds image fits well) number less stays) in
      let held : original_so_far image (all_loaded image) number ≡ mapped_by image (Some e) (first_of_type (Some NewPageTable) (offset_of image number)) =
      ap (λ o. mapped_by image o (first_of_type (type_at image number) (offset_of image number))) mapped
      ∙ ap (λ o. mapped_by image (Some e) (first_of_type o (offset_of image number))) kind in
      let same_root = eq-eqb (offset_of image e.root) root (ap (offset_of image) (eqb-true e.root t.header.root parts.0)) in
      record {
        slot = slot;
        boot = boot;
        maps = ap (maps_region root region) (capability-shown image slot _ shown ∙ held)
            ∙ and_from (offset_of image e.root == root) (e.address / page_size / region_pages == region) same_root parts.1;
      }

  pub maps-in-boot : list_any (lists_region t region) image.tables ≡ true → MapsInBoot image t region
  maps-in-boot some =
      let place = Any-from_list_any (lists_region t region) image.tables some in
      entry-in-boot place.0 place.1 (slice_get-get_or image.tables place.0 place.1 place.2 ∙ ap (λ (e : TableEntry). Some e) place.3) place.4
