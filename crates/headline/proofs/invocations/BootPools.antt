-- Untyped memory that an image describes derives from nothing, or is unused.
use Rattle.std.proofs.Common.{ℕ, ◌≡◌, ◌∙◌, ◌==◌, ◌/◌, ◌⊎◌, inl, inr, true, false, if◌then◌else◌, Option, Some, None, find, refl, ap}
use Rattle.std.specs.Prelude.{slice_get}
use Rattle.std.specs.Option.{option_map_or}
use Rattle.model.specs.declared.capabilities.Cap.{Cap}
use Rattle.model.specs.declared.capabilities.Cap.TheVariants.{Empty, Untyped, Endpoint, Notification, CNode, Frame, PageTable, Tcb, RootTable, InterruptControl}
use Rattle.model.specs.declared.capabilities.Cap.TheVariants.{InterruptHandler}
use Rattle.model.specs.declared.capabilities.TableMapping.{TableMapping}
use Rattle.model.specs.declared.entries.CapabilityEntry.{CapabilityEntry}
use Rattle.model.specs.declared.entries.InterruptEntry.{InterruptEntry}
use Rattle.model.specs.declared.entries.TableEntry.{TableEntry}
use Rattle.model.specs.declared.slot_entries.Entry.{Entry}
use Rattle.model.specs.Capabilities.CapabilityKinds.{with_payload, with_table_mapping}
use Rattle.model.specs.Capabilities.Slots.{capability_at, parent_at}
use Rattle.model.specs.Images.Described.{described, limited, listed_capability, original, source_capability}
use Rattle.model.specs.Images.Image.{Image}
use Rattle.model.specs.Images.Places.{interrupt_of, is_handler, offset_of, type_at}
use Rattle.model.specs.Kernel.AddressSpaces.{page_size, region_pages}
use Rattle.model.specs.Kernel.Retype.{NewObject, NewUntyped, NewThread, NewEndpoint, NewNotification, NewCNode, NewFrame, NewPageTable, NewRootTable}
use Rattle.model.specs.Kernel.Retype.{first_capability}
use Rattle.thread_spaces.proofs.Laws.{OfSections, each-slot, each-own}

-- how much of untyped memory is used
abbrev pub marked : Cap → ℕ
marked (Untyped offset bits watermark) = watermark
marked _ = 0

abbrev IsUnused : ℕ → Entry → Type 0
IsUnused slot held = (held.parent ≡ None) ⊎ (marked held.capability ≡ 0)

first-unused : (kind : Option NewObject) (offset : ℕ) → marked (option_map_or (λ k. first_capability k offset) kind Empty) ≡ 0
first-unused None offset = refl
first-unused (Some (NewUntyped bits)) offset = refl
first-unused (Some NewThread) offset = refl
first-unused (Some NewEndpoint) offset = refl
first-unused (Some NewNotification) offset = refl
first-unused (Some (NewCNode radix)) offset = refl
first-unused (Some NewFrame) offset = refl
first-unused (Some NewPageTable) offset = refl
first-unused (Some NewRootTable) offset = refl

same-mapped : (c : Cap) (mapping : Option TableMapping) → marked (with_table_mapping c mapping) ≡ marked c
same-mapped Empty mapping = refl
same-mapped (Untyped _ _ _) mapping = refl
same-mapped (Endpoint _ _ _) mapping = refl
same-mapped (Notification _ _ _) mapping = refl
same-mapped (CNode _ _ _) mapping = refl
same-mapped (Frame _ _ _) mapping = refl
same-mapped (PageTable _ _) mapping = refl
same-mapped (Tcb _) mapping = refl
same-mapped (RootTable _) mapping = refl
same-mapped InterruptControl mapping = refl
same-mapped (InterruptHandler _) mapping = refl

same-limited : (c : Cap) (word payload : ℕ) → marked (limited c word payload) ≡ marked c
same-limited Empty word payload = refl
same-limited (Untyped _ _ _) word payload = refl
same-limited (Endpoint _ _ _) word payload = refl
same-limited (Notification _ _ _) word payload = refl
same-limited (CNode _ _ _) word payload = refl
same-limited (Frame _ _ _) word payload = refl
same-limited (PageTable _ _) word payload = refl
same-limited (Tcb _) word payload = refl
same-limited (RootTable _) word payload = refl
same-limited InterruptControl word payload = refl
same-limited (InterruptHandler _) word payload = refl

same-paid : (c : Cap) (payload : ℕ) → marked (with_payload c payload) ≡ marked c
same-paid Empty payload = refl
same-paid (Untyped _ _ _) payload = refl
same-paid (Endpoint _ _ _) payload = refl
same-paid (Notification _ _ _) payload = refl
same-paid (CNode _ _ _) payload = refl
same-paid (Frame _ _ _) payload = refl
same-paid (PageTable _ _) payload = refl
same-paid (Tcb _) payload = refl
same-paid (RootTable _) payload = refl
same-paid InterruptControl payload = refl
same-paid (InterruptHandler _) payload = refl

module _ (image : Image) where
  original-unused : (number : ℕ) → marked (original image number) ≡ 0
  original-unused number = by-table (find (λ e. e.table == number) image.tables)
    where
      by-table : (found : Option TableEntry)
          → marked (option_map_or (λ e. with_table_mapping (option_map_or (λ kind. first_capability kind (offset_of image number)) (type_at image number) Empty)
          (Some (record { root = offset_of image e.root; region = e.address / page_size / region_pages }))) found
          (option_map_or (λ kind. first_capability kind (offset_of image number)) (type_at image number) Empty)) ≡ 0
      by-table None = first-unused (type_at image number) (offset_of image number)
      by-table (Some e) = same-mapped (option_map_or (λ kind. first_capability kind (offset_of image number)) (type_at image number) Empty) _
          ∙ first-unused (type_at image number) (offset_of image number)

  source-unused : (source : ℕ) → marked (source_capability image source) ≡ 0
  source-unused source =
      elim (is_handler image source)
      as (λ b. marked
      (if b then option_map_or (λ i. InterruptHandler i.line) (slice_get image.interrupts (interrupt_of image source)) Empty else original image source) ≡ 0) [
        | true ↦ by-line (slice_get image.interrupts (interrupt_of image source))
        | false ↦ original-unused source
      ]
    where
      by-line : (found : Option InterruptEntry) → marked (option_map_or (λ i. InterruptHandler i.line) found Empty) ≡ 0
      by-line None = refl
      by-line (Some i) = refl

  listed-unused : (c : CapabilityEntry) → marked (listed_capability image c) ≡ 0
  listed-unused c = same-limited (source_capability image c.source) c.rights c.payload ∙ source-unused c.source

  all-unused : OfSections IsUnused image
  all-unused = record {
    untyped = λ k u at. inl refl;
    original = λ number less. inr (original-unused number);
    control = inl refl;
    handler = λ k i at. inr refl;
    frame = λ k f at. inr refl;
    notification = λ k i at. inr refl;
    binding = λ k i at. inr refl;
    listed = λ k c at. inr (listed-unused c);
    thread = λ k t at. each-own IsUnused image t (inr (same-paid (original image t.header.cnode) t.header.guard ∙ original-unused t.header.cnode))
        (inr (original-unused t.header.root)) (λ some. inr (original-unused t.header.buffer));
  }

  pub first-or-unused : (slot : ℕ) → (parent_at (described image).slots slot ≡ None) ⊎ (marked (capability_at (described image).slots slot) ≡ 0)
  first-or-unused slot = by-held ((described image).slots slot) refl
    where
      by-held : (o : Option Entry) → (described image).slots slot ≡ o
          → (option_map_or (λ h. h.parent) o None ≡ None) ⊎ (marked (option_map_or (λ h. h.capability) o Empty) ≡ 0)
      by-held None is = inl refl
      by-held (Some held) is = elim (each-slot IsUnused image all-unused slot held is) [
        | inl empty ↦ inl (ap (λ (h : Entry). h.parent) empty)
        | inr unused ↦ unused
      ]
