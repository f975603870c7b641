-- What the capabilities name that an image lists, with which rights: copies of lemmas of `headline` that it does not export.
use Rattle.std.proofs.Common.{ℕ, ◌≡◌, ◌∙◌, ◌==◌, ◌/◌, ◌<◌, inl, inr, Bool, true, false, not, if◌then◌else◌, Option, Some, None}
use Rattle.std.proofs.Common.{find, bit_and, refl, sym, ap}
use lib.Bits.{and_comm, and_zero_r}
use Rattle.std.specs.Prelude.{slice_get}
use Rattle.std.specs.Option.{option_map_or}
use Rattle.std.proofs.lemmas.Bool.{eq-eqb, false≢true}
use Rattle.std.proofs.lemmas.Bool.Decides.{eqb_tells, leb_tells}
use Rattle.std.proofs.lemmas.Nat.{and_assoc}
use Rattle.std.proofs.lemmas.Option.{none-some, same_Some}
use Rattle.model.specs.declared.capabilities.Cap.{Cap}
use Rattle.model.specs.declared.capabilities.Cap.TheVariants.{Empty, Untyped, Endpoint, Notification, CNode, Frame, PageTable, Tcb, RootTable}
use Rattle.model.specs.declared.capabilities.Cap.TheVariants.{InterruptControl}
use Rattle.model.specs.declared.capabilities.Cap.TheVariants.{InterruptHandler}
use Rattle.model.specs.declared.capabilities.TableMapping.{TableMapping}
use Rattle.model.specs.declared.entries.CapabilityEntry.{CapabilityEntry}
use Rattle.model.specs.declared.entries.InterruptEntry.{InterruptEntry}
use Rattle.model.specs.declared.entries.TableEntry.{TableEntry}
use Rattle.model.specs.Acceptance.Authority.{rights_of}
use Rattle.model.specs.Acceptance.WellFormed.{is_frame_type}
use Rattle.model.specs.Capabilities.CapabilityKinds.{with_table_mapping}
use Rattle.model.specs.Capabilities.Rights.{rights}
use Rattle.model.specs.Images.Described.{limited, listed_capability, original, source_capability, with_table}
use Rattle.model.specs.Images.Image.{Image}
use Rattle.model.specs.Images.Places.{interrupt_of, is_handler, offset_of, type_at}
use Rattle.model.specs.Kernel.AddressSpaces.{page_size, region_pages}
use Rattle.model.specs.Kernel.Kinds.{object_named}
use Rattle.model.specs.Kernel.Retype.{NewObject, NewUntyped, NewThread, NewEndpoint, NewNotification, NewCNode, NewFrame, NewPageTable, NewRootTable}
use Rattle.model.specs.Kernel.Retype.{first_capability}

-- ---- what a listed capability names

pub named-limited : (c : Cap) (word payload : ℕ) → object_named (limited c word payload) ≡ object_named c
named-limited Empty w p = refl
named-limited (Untyped a b u) w p = refl
named-limited (Endpoint a r g) w p = refl
named-limited (Notification a r g) w p = refl
named-limited (CNode a r g) w p = refl
named-limited (Frame a r f) w p = refl
named-limited (PageTable a f) w p = refl
named-limited (Tcb a) w p = refl
named-limited (RootTable a) w p = refl
named-limited InterruptControl w p = refl
named-limited (InterruptHandler n) w p = refl

pub named-mapped : (c : Cap) (m : Option TableMapping) → object_named (with_table_mapping c m) ≡ object_named c
named-mapped Empty m = refl
named-mapped (Untyped a b u) m = refl
named-mapped (Endpoint a r g) m = refl
named-mapped (Notification a r g) m = refl
named-mapped (CNode a r g) m = refl
named-mapped (Frame a r f) m = refl
named-mapped (PageTable a f) m = refl
named-mapped (Tcb a) m = refl
named-mapped (RootTable a) m = refl
named-mapped InterruptControl m = refl
named-mapped (InterruptHandler n) m = refl

-- untyped memory apart from what was used of it
abbrev pub memory_of : Cap → Option (ℕ × ℕ)
memory_of (Untyped offset bits watermark) = Some (offset, bits)
memory_of _ = None

pub memory-limited : (c : Cap) (word payload : ℕ) → memory_of (limited c word payload) ≡ memory_of c
memory-limited Empty w p = refl
memory-limited (Untyped a b u) w p = refl
memory-limited (Endpoint a r g) w p = refl
memory-limited (Notification a r g) w p = refl
memory-limited (CNode a r g) w p = refl
memory-limited (Frame a r f) w p = refl
memory-limited (PageTable a f) w p = refl
memory-limited (Tcb a) w p = refl
memory-limited (RootTable a) w p = refl
memory-limited InterruptControl w p = refl
memory-limited (InterruptHandler n) w p = refl

pub memory-mapped : (c : Cap) (m : Option TableMapping) → memory_of (with_table_mapping c m) ≡ memory_of c
memory-mapped Empty m = refl
memory-mapped (Untyped a b u) m = refl
memory-mapped (Endpoint a r g) m = refl
memory-mapped (Notification a r g) m = refl
memory-mapped (CNode a r g) m = refl
memory-mapped (Frame a r f) m = refl
memory-mapped (PageTable a f) m = refl
memory-mapped (Tcb a) m = refl
memory-mapped (RootTable a) m = refl
memory-mapped InterruptControl m = refl
memory-mapped (InterruptHandler n) m = refl

module _ {A : Type 0} (what : Cap → Option A) (on_limited : (c : Cap) (w p : ℕ) → what (limited c w p) ≡ what c)
    (on_mapped : (c : Cap) (m : Option TableMapping) → what (with_table_mapping c m) ≡ what c) (on_empty : what Empty ≡ None)
    (on_handler : (n : ℕ) → what (InterruptHandler n) ≡ None) (image : Image) where
  by-table : (number : ℕ) (c : Cap) → what (with_table image number c) ≡ what c
  by-table number c = elim (find (λ (t : TableEntry). t.table == number) image.tables) as (λ (o : Option TableEntry). what (option_map_or
      (λ t. with_table_mapping c (Some (record { root = offset_of image t.root; region = t.address / page_size / region_pages }))) o c) ≡ what c) [
        | None ↦ refl
        | Some t ↦ on_mapped c _
      ]

  -- an object of the image, and what its first capability is
  pub record Of (source : ℕ) (value : A) : Type 0 where
    pub object : source < image.header.objects
    pub kind : NewObject
    pub type : type_at image source ≡ Some kind
    pub is : what (first_capability kind (offset_of image source)) ≡ Some value

  first-of : (source : ℕ) (value : A) → source < image.header.objects → what (original image source) ≡ Some value → Of source value
  first-of source value object is =
      elim (type_at image source) as (λ (o : Option NewObject). type_at image source ≡ o
      → what (option_map_or (λ kind. first_capability kind (offset_of image source)) o Empty) ≡ Some value → Of source value) [
        | None ↦ λ _ clash. absurd (none-some value (sym on_empty ∙ clash))
        | Some kind ↦ λ type here. record { object = object; kind = kind; type = type; is = here }
      ] refl (sym (by-table source _) ∙ is)

  pub source-of : (entry : CapabilityEntry) (value : A) → what (listed_capability image entry) ≡ Some value → Of entry.source value
  source-of entry value is =
      elim (leb_tells image.header.objects entry.source) [
        | inr below ↦ first-of entry.source value below.1 (ap what (sym (chosen false below.0)) ∙ same)
        | inl above ↦ absurd (from-handler (slice_get image.interrupts (interrupt_of image entry.source)) (ap what (sym (chosen true above.0)) ∙ same))
      ]
    where
      same : what (source_capability image entry.source) ≡ Some value
      same = sym (on_limited (source_capability image entry.source) entry.rights entry.payload) ∙ is

      chosen : (b : Bool) → is_handler image entry.source ≡ b → source_capability image entry.source
          ≡ (if b then option_map_or (λ i. InterruptHandler i.line) (slice_get image.interrupts (interrupt_of image entry.source)) Empty
          else original image entry.source)
      chosen b here = ap (λ b. if b then option_map_or (λ i. InterruptHandler i.line) (slice_get image.interrupts (interrupt_of image entry.source)) Empty
          else original image entry.source) here

      from-handler : (o : Option InterruptEntry) → what (option_map_or (λ i. InterruptHandler i.line) o Empty) ≡ Some value → ⊥
      from-handler None clash = none-some value (sym on_empty ∙ clash)
      from-handler (Some i) clash = none-some value (sym (on_handler i.line) ∙ clash)

pub first-names : (kind k : NewObject) (offset o : ℕ) → object_named (first_capability kind offset) ≡ Some (k, o) → (kind ≡ k) × (offset ≡ o)
first-names (NewUntyped b) k offset o is = absurd (none-some (k, o) is)
first-names NewThread k offset o is = let same = same_Some (NewThread, offset) (k, o) is in (ap (λ p. p.0) same, ap (λ p. p.1) same)
first-names NewEndpoint k offset o is = let same = same_Some (NewEndpoint, offset) (k, o) is in (ap (λ p. p.0) same, ap (λ p. p.1) same)
first-names NewNotification k offset o is = let same = same_Some (NewNotification, offset) (k, o) is in (ap (λ p. p.0) same, ap (λ p. p.1) same)
first-names (NewCNode r) k offset o is = let same = same_Some (NewCNode r, offset) (k, o) is in (ap (λ p. p.0) same, ap (λ p. p.1) same)
first-names NewFrame k offset o is = let same = same_Some (NewFrame, offset) (k, o) is in (ap (λ p. p.0) same, ap (λ p. p.1) same)
first-names NewPageTable k offset o is = let same = same_Some (NewPageTable, offset) (k, o) is in (ap (λ p. p.0) same, ap (λ p. p.1) same)
first-names NewRootTable k offset o is = let same = same_Some (NewRootTable, offset) (k, o) is in (ap (λ p. p.0) same, ap (λ p. p.1) same)

pub first-memory : (kind : NewObject) (offset o b : ℕ) → memory_of (first_capability kind offset) ≡ Some (o, b) → (kind ≡ NewUntyped b) × (offset ≡ o)
first-memory (NewUntyped bits) offset o b is =
    let same = same_Some (offset, bits) (o, b) is in (ap (λ (p : ℕ × ℕ). NewUntyped p.1) same, ap (λ (p : ℕ × ℕ). p.0) same)
first-memory NewThread offset o b is = absurd (none-some (o, b) is)
first-memory NewEndpoint offset o b is = absurd (none-some (o, b) is)
first-memory NewNotification offset o b is = absurd (none-some (o, b) is)
first-memory (NewCNode r) offset o b is = absurd (none-some (o, b) is)
first-memory NewFrame offset o b is = absurd (none-some (o, b) is)
first-memory NewPageTable offset o b is = absurd (none-some (o, b) is)
first-memory NewRootTable offset o b is = absurd (none-some (o, b) is)

-- ---- endpoints and notifications

abbrev pub is_queue : NewObject → Bool
is_queue NewEndpoint = true
is_queue NewNotification = true
is_queue _ = false

pub kind-of : (k : NewObject) (o : ℕ) (kind : NewObject) (offset : ℕ) → ◌≡◌ {A = Option (NewObject × ℕ)} (Some (kind, offset)) (Some (k, o)) → kind ≡ k
kind-of k o kind offset is = ap (λ p. p.0) (same_Some (kind, offset) (k, o) is)

-- a capability to one has the rights that are listed
pub queue-rights : (c : Cap) (word payload : ℕ) (k : NewObject) (o : ℕ) → object_named c ≡ Some (k, o) → is_queue k ≡ true
    → rights_of (limited c word payload) ≡ rights word
queue-rights Empty w p k o is queue = absurd (none-some (k, o) is)
queue-rights (Untyped a b u) w p k o is queue = absurd (none-some (k, o) is)
queue-rights (Endpoint a r g) w p k o is queue = refl
queue-rights (Notification a r g) w p k o is queue = refl
queue-rights (CNode a r g) w p k o is queue = absurd (false≢true (ap is_queue (kind-of k o (NewCNode r) a is) ∙ queue))
queue-rights (Frame a r f) w p k o is queue = absurd (false≢true (ap is_queue (kind-of k o NewFrame a is) ∙ queue))
queue-rights (PageTable a f) w p k o is queue = absurd (false≢true (ap is_queue (kind-of k o NewPageTable a is) ∙ queue))
queue-rights (Tcb a) w p k o is queue = absurd (false≢true (ap is_queue (kind-of k o NewThread a is) ∙ queue))
queue-rights (RootTable a) w p k o is queue = absurd (false≢true (ap is_queue (kind-of k o NewRootTable a is) ∙ queue))
queue-rights InterruptControl w p k o is queue = absurd (none-some (k, o) is)
queue-rights (InterruptHandler n) w p k o is queue = absurd (none-some (k, o) is)

-- a bit of what is covered is one of what covers
pub keeps-bit : (l c m : ℕ) → bit_and l c ≡ c → not (bit_and c m == 0) ≡ true → not (bit_and l m == 0) ≡ true
keeps-bit l c m covers set = elim (eqb_tells (bit_and l m) 0) [
  | inr apart ↦ ap not apart.0
  | inl none ↦
      let gone : bit_and c m ≡ 0 =
      ap (λ (n : ℕ). bit_and n m) (sym covers ∙ and_comm l c) ∙ and_assoc m c l ∙ ap (bit_and c) none.1 ∙ and_zero_r c in
      absurd (false≢true (sym (ap not (eq-eqb (bit_and c m) 0 gone)) ∙ set))
]

pub not-frame : (k : NewObject) → is_queue k ≡ true → is_frame_type (Some k) ≡ false
not-frame NewEndpoint is = refl
not-frame NewNotification is = refl
not-frame (NewUntyped b) is = refl
not-frame NewThread is = refl
not-frame (NewCNode r) is = refl
not-frame NewFrame is = absurd (false≢true is)
not-frame NewPageTable is = refl
not-frame NewRootTable is = refl

-- ---- frames

abbrev is_frame_kind : NewObject → Bool
is_frame_kind kind = is_frame_type (Some kind)

other-kind : {A : Type 0} (kind : NewObject) (o offset : ℕ) → ◌≡◌ {A = Option (NewObject × ℕ)} (Some (kind, offset)) (Some (NewFrame, o))
    → is_frame_kind kind ≡ false → A
other-kind kind o offset is other = absurd (let e : true ≡ false = sym (ap is_frame_kind (kind-of NewFrame o kind offset is)) ∙ other in cc)

-- a capability to a frame has the rights that are listed
pub frame-rights : (c : Cap) (word payload o : ℕ) → object_named c ≡ Some (NewFrame, o) → rights_of (limited c word payload) ≡ rights word
frame-rights Empty w p o is = absurd (none-some (NewFrame, o) is)
frame-rights (Untyped a b u) w p o is = absurd (none-some (NewFrame, o) is)
frame-rights (Endpoint a r g) w p o is = refl
frame-rights (Notification a r g) w p o is = refl
frame-rights (CNode a r g) w p o is = other-kind (NewCNode r) o a is refl
frame-rights (Frame a r f) w p o is = refl
frame-rights (PageTable a f) w p o is = other-kind NewPageTable o a is refl
frame-rights (Tcb a) w p o is = other-kind NewThread o a is refl
frame-rights (RootTable a) w p o is = other-kind NewRootTable o a is refl
frame-rights InterruptControl w p o is = absurd (none-some (NewFrame, o) is)
frame-rights (InterruptHandler n) w p o is = absurd (none-some (NewFrame, o) is)
