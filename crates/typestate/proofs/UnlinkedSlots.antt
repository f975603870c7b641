-- Of slots without parents and mappings none maps a page, and none is a child. What an image lists is so.
use Rattle.std.proofs.Common.{ℕ, zero, suc, ◌≡◌, ◌==◌, ◌∙◌, ◌&&◌, ◌||◌, Bool, true, false, not, Option, Some, None, List, [], ◌∷◌, if◌then◌else◌, refl, sym, ap}
use Rattle.std.specs.List.{find, list_any}
use Rattle.std.specs.Option.{option_map_or}
use Rattle.std.specs.Prelude.{◌/◌, cond, filter, is_some, map, slice_get}
use Rattle.model.specs.declared.instructions.Access.{Access}
use Rattle.model.specs.declared.capabilities.Cap.{Cap}
use Rattle.model.specs.declared.capabilities.Cap.TheVariants.{Empty, Untyped, Endpoint, Notification, Tcb, CNode, Frame, PageTable, RootTable, InterruptControl}
use Rattle.model.specs.declared.capabilities.Cap.TheVariants.{InterruptHandler}
use Rattle.model.specs.declared.capabilities.FrameMapping.{FrameMapping}
use Rattle.model.specs.declared.capabilities.TableMapping.{TableMapping}
use Rattle.model.specs.declared.entries.CapabilityEntry.{CapabilityEntry}
use Rattle.model.specs.declared.entries.InterruptEntry.{InterruptEntry}
use Rattle.model.specs.declared.entries.TableEntry.{TableEntry}
use Rattle.model.specs.Acceptance.NotedStates.{NotedSlot, SlotKey, image_slots, listed_slot}
use Rattle.model.specs.Acceptance.PointRules.{holds_for}
use Rattle.model.specs.Acceptance.ThreadRules.{is_member, reached}
use Rattle.model.specs.Capabilities.CapabilityKinds.{frame_mapping, with_table_mapping}
use Rattle.model.specs.Images.Described.{limited, original, source_capability}
use Rattle.model.specs.Images.Image.{Image, Thread}
use Rattle.model.specs.Images.Places.{interrupt_of, is_handler, offset_of, type_at}
use Rattle.model.specs.Kernel.AddressSpaces.{MappedFrame, allows, is_page, maps_page, page_of, page_size, region_pages}
use Rattle.model.specs.Kernel.Retype.{NewObject, NewUntyped, NewThread, NewEndpoint, NewNotification, NewCNode, NewFrame, NewPageTable, NewRootTable}
use Rattle.model.specs.Kernel.Retype.{first_capability}
use Rattle.typestate.specs.declared.slot_changes.Removed.{Removed}
use Rattle.typestate.specs.ChangeLists.{kept_child}
use Rattle.typestate.specs.SlotChanges.{is_parent, is_removed, noted_outside}
use Rattle.typestate.specs.Unlinked.{AreUnlinked, is_linked}

module _ (test : NotedSlot → Bool) (only : (s : NotedSlot) → test s ≡ true → is_linked s ≡ true) where
  pub none-of : (slots : List NotedSlot) → AreUnlinked slots → list_any test slots ≡ false
  none-of [] none = refl
  none-of (s ∷ rest) none = elim (test s) as (λ b. test s ≡ b → (b || list_any test rest) ≡ false) [
    | true ↦ λ is. absurd (let clash : true ≡ false = sym (ap (λ b. b || list_any is_linked rest) (only s is)) ∙ none in cc)
    | false ↦ λ _. none-of rest (elim (is_linked s) as (λ b. (b || list_any is_linked rest) ≡ false → list_any is_linked rest ≡ false) [
      | true ↦ λ clash. absurd (let no : true ≡ false = clash in cc)
      | false ↦ λ later. later
    ] none)
  ] refl

second-too : (a b : Bool) → b ≡ true → (a || b) ≡ true
second-too true b is = refl
second-too false b is = is

first-too : (a b : Bool) → a ≡ true → (a || b) ≡ true
first-too a b is = ap (λ x. x || b) is

-- ---- what maps a page is mapped

some-mapped : (test : FrameMapping → Bool) (found : Option FrameMapping) → option_map_or test found false ≡ true → is_some found ≡ true
some-mapped test None is = is
some-mapped test (Some _) is = refl

some-paged : (root page : ℕ) (test : MappedFrame → Bool) (capability : Cap) → option_map_or test (page_of root page capability) false ≡ true →
    is_some (frame_mapping capability) ≡ true
some-paged root page test Empty is = is
some-paged root page test (Untyped _ _ _) is = is
some-paged root page test (Endpoint _ _ _) is = is
some-paged root page test (Notification _ _ _) is = is
some-paged root page test (CNode _ _ _) is = is
some-paged root page test (Frame _ _ None) is = is
some-paged root page test (Frame _ _ (Some _)) is = refl
some-paged root page test (PageTable _ _) is = is
some-paged root page test (Tcb _) is = is
some-paged root page test (RootTable _) is = is
some-paged root page test InterruptControl is = is
some-paged root page test (InterruptHandler _) is = is

pub none-takes : (root page : ℕ) (slots : List NotedSlot) → AreUnlinked slots → list_any (λ s. maps_page root page s.capability) slots ≡ false
none-takes root page = none-of (λ s. maps_page root page s.capability)
    (λ s is. second-too (is_some s.parent) (is_some (frame_mapping s.capability)) (some-mapped (is_page root page) (frame_mapping s.capability) is))

pub none-maps : (access : Access) (root page : ℕ) (slots : List NotedSlot) → AreUnlinked slots → list_any (holds_for access root page) slots ≡ false
none-maps access root page = none-of (holds_for access root page)
    (λ s is. second-too (is_some s.parent) (is_some (frame_mapping s.capability)) (some-paged root page (λ m. allows access m.allowed) s.capability is))

-- ---- what is a child has a parent

some-parent : (a : Bool) (key : SlotKey) (parent : Option SlotKey) → (a && is_parent key parent) ≡ true → is_some parent ≡ true
some-parent true key None is = is
some-parent false key None is = is
some-parent a key (Some _) is = refl

some-heir : (a : Bool) (n : ℕ) (gone : SlotKey → Bool) (slots : List NotedSlot) (key : SlotKey) (parent : Option SlotKey)
    → (a && is_parent key (noted_outside n gone slots parent)) ≡ true → is_some parent ≡ true
unfolding noted_outside
some-heir true zero gone slots key None is = is
some-heir true (suc n) gone slots key None is = is
some-heir false n gone slots key None is = is
some-heir a n gone slots key (Some _) is = refl

pub none-goes : (all : List NotedSlot) (which : Removed) (key : SlotKey) (slots : List NotedSlot) → AreUnlinked slots →
    list_any (λ s. is_removed all which s.key && is_parent key s.parent) slots ≡ false
none-goes all which key = none-of (λ s. is_removed all which s.key && is_parent key s.parent)
    (λ s is. first-too (is_some s.parent) (is_some (frame_mapping s.capability)) (some-parent (is_removed all which s.key) key s.parent is))

kept-linked : (all : List NotedSlot) (which : Removed) (key : SlotKey) (s : NotedSlot) → kept_child all which key s ≡ true → is_linked s ≡ true
unfolding kept_child
kept-linked all which key s is =
    first-too (is_some s.parent) (is_some (frame_mapping s.capability))
    (some-heir (not (is_removed all which s.key)) 256 (is_removed all which) all key s.parent is)

pub none-stays : (all : List NotedSlot) (which : Removed) (key : SlotKey) (slots : List NotedSlot) → AreUnlinked slots →
    list_any (kept_child all which key) slots ≡ false
none-stays all which key = none-of (kept_child all which key) (kept-linked all which key)

-- ---- what an image lists

abbrev IsFree : Cap → Type 0
IsFree capability = is_some (frame_mapping capability) ≡ false

limited-free : (capability : Cap) (word payload : ℕ) → IsFree capability → IsFree (limited capability word payload)
limited-free Empty word payload free = free
limited-free (Untyped _ _ _) word payload free = free
limited-free (Endpoint _ _ _) word payload free = refl
limited-free (Notification _ _ _) word payload free = refl
limited-free (CNode _ _ _) word payload free = refl
limited-free (Frame _ _ _) word payload free = free
limited-free (PageTable _ _) word payload free = free
limited-free (Tcb _) word payload free = free
limited-free (RootTable _) word payload free = free
limited-free InterruptControl word payload free = free
limited-free (InterruptHandler _) word payload free = free

placed-free : (capability : Cap) (place : Option TableMapping) → IsFree capability → IsFree (with_table_mapping capability place)
placed-free Empty place free = free
placed-free (Untyped _ _ _) place free = free
placed-free (Endpoint _ _ _) place free = free
placed-free (Notification _ _ _) place free = free
placed-free (CNode _ _ _) place free = free
placed-free (Frame _ _ _) place free = free
placed-free (PageTable _ _) place free = refl
placed-free (Tcb _) place free = free
placed-free (RootTable _) place free = free
placed-free InterruptControl place free = free
placed-free (InterruptHandler _) place free = free

first-free : (kind : Option NewObject) (offset : ℕ) → IsFree (option_map_or (λ (k : NewObject). first_capability k offset) kind Empty)
first-free None offset = refl
first-free (Some (NewUntyped _)) offset = refl
first-free (Some NewThread) offset = refl
first-free (Some NewEndpoint) offset = refl
first-free (Some NewNotification) offset = refl
first-free (Some (NewCNode _)) offset = refl
first-free (Some NewFrame) offset = refl
first-free (Some NewPageTable) offset = refl
first-free (Some NewRootTable) offset = refl

mapped-free : (place : TableEntry → Option TableMapping) (found : Option TableEntry) (capability : Cap) → IsFree capability
    → IsFree (option_map_or (λ (t : TableEntry). with_table_mapping capability (place t)) found capability)
mapped-free place None capability free = free
mapped-free place (Some t) capability free = placed-free capability (place t) free

bound-free : (found : Option InterruptEntry) → IsFree (option_map_or (λ (i : InterruptEntry). InterruptHandler i.line) found Empty)
bound-free None = refl
bound-free (Some _) = refl

original-free : (image : Image) (number : ℕ) → IsFree (original image number)
original-free image number =
    mapped-free (λ (t : TableEntry). Some (record { root = offset_of image t.root; region = t.address / page_size / region_pages }))
    (find (λ (t : TableEntry). t.table == number) image.tables)
    (option_map_or (λ (kind : NewObject). first_capability kind (offset_of image number)) (type_at image number) Empty)
    (first-free (type_at image number) (offset_of image number))

source-free : (image : Image) (source : ℕ) → IsFree (source_capability image source)
source-free image source =
    elim (is_handler image source)
    as (λ b. IsFree (if b then option_map_or (λ (i : InterruptEntry). InterruptHandler i.line) (slice_get image.interrupts (interrupt_of image source))
    Empty else original image source)) [
      | true ↦ bound-free (slice_get image.interrupts (interrupt_of image source))
      | false ↦ original-free image source
    ]

module _ (image : Image) (test : CapabilityEntry → Bool) where
  listed-unlinked : (entries : List CapabilityEntry) → AreUnlinked (map (listed_slot image) (filter test entries))
  listed-unlinked [] = refl
  listed-unlinked (c ∷ rest) = elim (test c) as (λ b. AreUnlinked (map (listed_slot image) (cond b (c ∷ filter test rest) (filter test rest)))) [
    | true ↦ ap (λ b. b || list_any is_linked (map (listed_slot image) (filter test rest)))
        (limited-free (source_capability image c.source) c.rights c.payload (source-free image c.source)) ∙ listed-unlinked rest
    | false ↦ listed-unlinked rest
  ]

pub image-unlinked : (image : Image) (t : Thread) → AreUnlinked (image_slots image t)
unfolding image_slots
image-unlinked image t = listed-unlinked image (λ c. is_member c.cnode (reached image t)) image.capabilities
