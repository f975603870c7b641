-- The first capability to an object, by what the object is. Only page tables' depend on what is loaded.
use Rattle.std.proofs.Common.{ℕ, ◌≡◌, ◌∙◌, ◌==◌, ◌/◌, ◌&&◌, true, false, Option, Some, None, take, find, refl, ap}
use Rattle.std.specs.List.{list_any}
use Rattle.std.specs.Option.{option_map_or}
use Rattle.soundness.specs.boot_laws.Loading.{Progress, is_moved, original_so_far, table_so_far}
use Rattle.model.specs.Acceptance.WellFormed.{is_frame_type, is_notification_type, is_root_type, is_table_type, is_thread_type, radix_of}
use Rattle.model.specs.Capabilities.CapabilityKinds.{is_untyped, with_table_mapping}
use Rattle.model.specs.Images.Described.{original, with_table}
use Rattle.model.specs.Images.Image.{Image}
use Rattle.model.specs.Images.Places.{offset_of, type_at}
use Rattle.model.specs.Kernel.AddressSpaces.{page_size, region_pages}
use Rattle.model.specs.Kernel.Retype.{NewObject, NewUntyped, NewThread, NewEndpoint, NewNotification, NewCNode, NewFrame, NewPageTable, NewRootTable}
use Rattle.model.specs.Kernel.Retype.{first_capability}
use Rattle.model.specs.declared.capabilities.Cap.{Cap}
use Rattle.model.specs.declared.capabilities.Cap.TheVariants.{Empty}
use Rattle.model.specs.declared.capabilities.TableMapping.{TableMapping}
use Rattle.model.specs.declared.entries.TableEntry.{TableEntry}

-- ---- types by their tests

pub thread-type : (o : Option NewObject) → is_thread_type o ≡ true → o ≡ Some NewThread
thread-type None is = absurd (let e : false ≡ true = is in cc)
thread-type (Some NewThread) is = refl
thread-type (Some (NewUntyped bits)) is = absurd (let e : false ≡ true = is in cc)
thread-type (Some NewEndpoint) is = absurd (let e : false ≡ true = is in cc)
thread-type (Some NewNotification) is = absurd (let e : false ≡ true = is in cc)
thread-type (Some (NewCNode radix)) is = absurd (let e : false ≡ true = is in cc)
thread-type (Some NewFrame) is = absurd (let e : false ≡ true = is in cc)
thread-type (Some NewPageTable) is = absurd (let e : false ≡ true = is in cc)
thread-type (Some NewRootTable) is = absurd (let e : false ≡ true = is in cc)

pub root-type : (o : Option NewObject) → is_root_type o ≡ true → o ≡ Some NewRootTable
root-type None is = absurd (let e : false ≡ true = is in cc)
root-type (Some NewRootTable) is = refl
root-type (Some (NewUntyped bits)) is = absurd (let e : false ≡ true = is in cc)
root-type (Some NewThread) is = absurd (let e : false ≡ true = is in cc)
root-type (Some NewEndpoint) is = absurd (let e : false ≡ true = is in cc)
root-type (Some NewNotification) is = absurd (let e : false ≡ true = is in cc)
root-type (Some (NewCNode radix)) is = absurd (let e : false ≡ true = is in cc)
root-type (Some NewFrame) is = absurd (let e : false ≡ true = is in cc)
root-type (Some NewPageTable) is = absurd (let e : false ≡ true = is in cc)

pub frame-type : (o : Option NewObject) → is_frame_type o ≡ true → o ≡ Some NewFrame
frame-type None is = absurd (let e : false ≡ true = is in cc)
frame-type (Some NewFrame) is = refl
frame-type (Some (NewUntyped bits)) is = absurd (let e : false ≡ true = is in cc)
frame-type (Some NewThread) is = absurd (let e : false ≡ true = is in cc)
frame-type (Some NewEndpoint) is = absurd (let e : false ≡ true = is in cc)
frame-type (Some NewNotification) is = absurd (let e : false ≡ true = is in cc)
frame-type (Some (NewCNode radix)) is = absurd (let e : false ≡ true = is in cc)
frame-type (Some NewPageTable) is = absurd (let e : false ≡ true = is in cc)
frame-type (Some NewRootTable) is = absurd (let e : false ≡ true = is in cc)

pub table-type : (o : Option NewObject) → is_table_type o ≡ true → o ≡ Some NewPageTable
table-type None is = absurd (let e : false ≡ true = is in cc)
table-type (Some NewPageTable) is = refl
table-type (Some (NewUntyped bits)) is = absurd (let e : false ≡ true = is in cc)
table-type (Some NewThread) is = absurd (let e : false ≡ true = is in cc)
table-type (Some NewEndpoint) is = absurd (let e : false ≡ true = is in cc)
table-type (Some NewNotification) is = absurd (let e : false ≡ true = is in cc)
table-type (Some (NewCNode radix)) is = absurd (let e : false ≡ true = is in cc)
table-type (Some NewFrame) is = absurd (let e : false ≡ true = is in cc)
table-type (Some NewRootTable) is = absurd (let e : false ≡ true = is in cc)

pub notification-type : (o : Option NewObject) → is_notification_type o ≡ true → o ≡ Some NewNotification
notification-type None is = absurd (let e : false ≡ true = is in cc)
notification-type (Some NewNotification) is = refl
notification-type (Some (NewUntyped bits)) is = absurd (let e : false ≡ true = is in cc)
notification-type (Some NewThread) is = absurd (let e : false ≡ true = is in cc)
notification-type (Some NewEndpoint) is = absurd (let e : false ≡ true = is in cc)
notification-type (Some (NewCNode radix)) is = absurd (let e : false ≡ true = is in cc)
notification-type (Some NewFrame) is = absurd (let e : false ≡ true = is in cc)
notification-type (Some NewPageTable) is = absurd (let e : false ≡ true = is in cc)
notification-type (Some NewRootTable) is = absurd (let e : false ≡ true = is in cc)

pub cnode-type : (o : Option NewObject) (radix : ℕ) → radix_of o ≡ Some radix → o ≡ Some (NewCNode radix)
cnode-type None radix is = absurd (let e : ◌≡◌ {A = Option ℕ} None (Some radix) = is in cc)
cnode-type (Some (NewCNode r)) radix is = ap (λ n. Some (NewCNode n)) (let e : r ≡ radix = cc is in e)
cnode-type (Some (NewUntyped bits)) radix is = absurd (let e : ◌≡◌ {A = Option ℕ} None (Some radix) = is in cc)
cnode-type (Some NewThread) radix is = absurd (let e : ◌≡◌ {A = Option ℕ} None (Some radix) = is in cc)
cnode-type (Some NewEndpoint) radix is = absurd (let e : ◌≡◌ {A = Option ℕ} None (Some radix) = is in cc)
cnode-type (Some NewNotification) radix is = absurd (let e : ◌≡◌ {A = Option ℕ} None (Some radix) = is in cc)
cnode-type (Some NewFrame) radix is = absurd (let e : ◌≡◌ {A = Option ℕ} None (Some radix) = is in cc)
cnode-type (Some NewPageTable) radix is = absurd (let e : ◌≡◌ {A = Option ℕ} None (Some radix) = is in cc)
cnode-type (Some NewRootTable) radix is = absurd (let e : ◌≡◌ {A = Option ℕ} None (Some radix) = is in cc)

-- ---- capabilities that no page table's mapping changes

abbrev mapping_of : Image → TableEntry → Option TableMapping
mapping_of image t = Some (record { root = offset_of image t.root; region = t.address / page_size / region_pages })

mapped-same : (image : Image) (c : Cap) (o : Option TableEntry) → ((m : Option TableMapping) → with_table_mapping c m ≡ c)
    → option_map_or (λ t. with_table_mapping c (mapping_of image t)) o c ≡ c
mapped-same image c None same = refl
mapped-same image c (Some t) same = same (mapping_of image t)

module _ (image : Image) (number : ℕ) (kind : NewObject) (is : type_at image number ≡ Some kind)
    (same : (m : Option TableMapping) → with_table_mapping (first_capability kind (offset_of image number)) m ≡ first_capability kind
    (offset_of image number)) where
  pub original-loaded : (p : Progress) → original_so_far image p number ≡ first_capability kind (offset_of image number)
  original-loaded p =
      ap (λ o. table_so_far image p number (option_map_or (λ k. first_capability k (offset_of image number)) o Empty)) is
      ∙ mapped-same image (first_capability kind (offset_of image number)) (find (λ t. t.table == number) (take p.tables image.tables)) same

  pub original-described : original image number ≡ first_capability kind (offset_of image number)
  original-described =
      ap (λ o. with_table image number (option_map_or (λ k. first_capability k (offset_of image number)) o Empty)) is
      ∙ mapped-same image (first_capability kind (offset_of image number)) (find (λ t. t.table == number) image.tables) same

  -- only untyped memory is moved
  pub stays : (p : Progress) → is_untyped (first_capability kind (offset_of image number)) ≡ false → is_moved image p number ≡ false
  stays p other =
      ap (λ c. is_untyped c && list_any (λ l. l.source == number) (take p.capabilities image.capabilities)) (original-loaded p)
      ∙ ap (λ b. b && list_any (λ l. l.source == number) (take p.capabilities image.capabilities)) other
