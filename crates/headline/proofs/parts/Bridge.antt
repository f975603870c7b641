-- A queue that another thread has a capability to, by which it sends, signals, receives or waits, is one that the image lets it change: what it holds
-- it was given, and what it makes lies in its own pools, apart from the image's objects.
use Rattle.std.proofs.Common.{ℕ, ◌≡◌, ◌≢◌, ◌∙◌, ◌⊎◌, ◌==◌, ◌/◌, ◌^◌, ◌<◌, ◌&&◌, ◌||◌, inl, inr, Bool, true, false, not, if◌then◌else◌, Option, Some, None}
use Rattle.std.proofs.Common.{find, bit_and, pow_pos, refl, sym, ap, ap₂, arith}
use lib.Bits.{and_comm, and_zero_r}
use Rattle.std.specs.Prelude.{Contains, IsTrue, slice_get}
use Rattle.std.specs.Option.{option_map_or}
use Rattle.std.proofs.lemmas.Bool.{eq-eqb, false≢true}
use Rattle.std.proofs.lemmas.Bool.Decides.{eqb_tells, leb_tells}
use Rattle.std.proofs.lemmas.Nat.{and_assoc}
use Rattle.std.proofs.lemmas.Option.{none-some, same_Some}
use Rattle.model.specs.declared.capabilities.Cap.{Cap}
use Rattle.model.specs.declared.capabilities.Cap.TheVariants.{Empty, Untyped, Endpoint, Notification, CNode, Frame, PageTable, Tcb, RootTable, InterruptControl}
use Rattle.model.specs.declared.capabilities.Cap.TheVariants.{InterruptHandler}
use Rattle.model.specs.declared.capabilities.TableMapping.{TableMapping}
use Rattle.model.specs.declared.entries.CapabilityEntry.{CapabilityEntry}
use Rattle.model.specs.declared.entries.InterruptEntry.{InterruptEntry}
use Rattle.model.specs.declared.entries.TableEntry.{TableEntry}
use Rattle.model.specs.Acceptance.Authority.{rights_of}
use Rattle.model.specs.Acceptance.ThreadRules.{is_member, reached}
use Rattle.model.specs.Acceptance.WellFormed.{is_frame_type, is_untyped_type}
use Rattle.model.specs.Capabilities.CapabilityKinds.{with_table_mapping}
use Rattle.model.specs.Capabilities.Rights.{may_read, may_write, rights}
use Rattle.model.specs.Images.Described.{limited, listed_capability, original, source_capability, with_table}
use Rattle.model.specs.Images.Image.{Image, Thread}
use Rattle.model.specs.Images.Places.{bits_of, interrupt_of, is_handler, object_at, offset_of, type_at}
use Rattle.model.specs.Kernel.AddressSpaces.{page_size, region_pages}
use Rattle.model.specs.Kernel.Kinds.{object_named}
use Rattle.model.specs.Kernel.Retype.{NewObject, NewUntyped, NewThread, NewEndpoint, NewNotification, NewCNode, NewFrame, NewPageTable, NewRootTable}
use Rattle.model.specs.Kernel.Retype.{first_capability}
use Rattle.model.specs.Kernel.Retype.{object_bits}
use Rattle.model.specs.Kernel.State.{State}
use Rattle.headline.specs.parts.Given.{IsGivenTo, listed, made, pool, handler, IsPoolAround}
use Rattle.headline.specs.parts.Leaving.{ChangesQueue}
use Rattle.headline.specs.parts.Parts.{acknowledges, changes, changes_by, lists, maps}
use Rattle.headline.proofs.parts.Members.{any-at}
use Rattle.headline.proofs.starts.Laws.{contained}
use Rattle.soundness.specs.boot_laws.Standing.{StandApart}

-- ---- what a listed capability names

pub named-limited : (c : Cap) (word payload : ℕ) → object_named (limited c word payload) ≡ object_named c
named-limited Empty w p = refl
named-limited (Untyped a b u) w p = refl
named-limited (Endpoint a r g) w p = refl
named-limited (Notification a r g) w p = refl
named-limited (CNode a r g) w p = refl
named-limited (Frame a r f) w p = refl
named-limited (PageTable a f) w p = refl
named-limited (Tcb a) w p = refl
named-limited (RootTable a) w p = refl
named-limited InterruptControl w p = refl
named-limited (InterruptHandler n) w p = refl

pub named-mapped : (c : Cap) (m : Option TableMapping) → object_named (with_table_mapping c m) ≡ object_named c
named-mapped Empty m = refl
named-mapped (Untyped a b u) m = refl
named-mapped (Endpoint a r g) m = refl
named-mapped (Notification a r g) m = refl
named-mapped (CNode a r g) m = refl
named-mapped (Frame a r f) m = refl
named-mapped (PageTable a f) m = refl
named-mapped (Tcb a) m = refl
named-mapped (RootTable a) m = refl
named-mapped InterruptControl m = refl
named-mapped (InterruptHandler n) m = refl

-- untyped memory apart from what was used of it
abbrev pub memory_of : Cap → Option (ℕ × ℕ)
memory_of (Untyped offset bits watermark) = Some (offset, bits)
memory_of _ = None

pub memory-limited : (c : Cap) (word payload : ℕ) → memory_of (limited c word payload) ≡ memory_of c
memory-limited Empty w p = refl
memory-limited (Untyped a b u) w p = refl
memory-limited (Endpoint a r g) w p = refl
memory-limited (Notification a r g) w p = refl
memory-limited (CNode a r g) w p = refl
memory-limited (Frame a r f) w p = refl
memory-limited (PageTable a f) w p = refl
memory-limited (Tcb a) w p = refl
memory-limited (RootTable a) w p = refl
memory-limited InterruptControl w p = refl
memory-limited (InterruptHandler n) w p = refl

pub memory-mapped : (c : Cap) (m : Option TableMapping) → memory_of (with_table_mapping c m) ≡ memory_of c
memory-mapped Empty m = refl
memory-mapped (Untyped a b u) m = refl
memory-mapped (Endpoint a r g) m = refl
memory-mapped (Notification a r g) m = refl
memory-mapped (CNode a r g) m = refl
memory-mapped (Frame a r f) m = refl
memory-mapped (PageTable a f) m = refl
memory-mapped (Tcb a) m = refl
memory-mapped (RootTable a) m = refl
memory-mapped InterruptControl m = refl
memory-mapped (InterruptHandler n) m = refl

module _ {A : Type 0} (what : Cap → Option A) (on_limited : (c : Cap) (w p : ℕ) → what (limited c w p) ≡ what c)
    (on_mapped : (c : Cap) (m : Option TableMapping) → what (with_table_mapping c m) ≡ what c) (on_empty : what Empty ≡ None)
    (on_handler : (n : ℕ) → what (InterruptHandler n) ≡ None) (image : Image) where
  by-table : (number : ℕ) (c : Cap) → what (with_table image number c) ≡ what c
  by-table number c = elim (find (λ (t : TableEntry). t.table == number) image.tables) as (λ (o : Option TableEntry). what (option_map_or
      (λ t. with_table_mapping c (Some (record { root = offset_of image t.root; region = t.address / page_size / region_pages }))) o c) ≡ what c) [
        | None ↦ refl
        | Some t ↦ on_mapped c _
      ]

  -- an object of the image, and what its first capability is
  pub record Of (source : ℕ) (value : A) : Type 0 where
    pub object : source < image.header.objects
    pub kind : NewObject
    pub type : type_at image source ≡ Some kind
    pub is : what (first_capability kind (offset_of image source)) ≡ Some value

  first-of : (source : ℕ) (value : A) → source < image.header.objects → what (original image source) ≡ Some value → Of source value
  first-of source value object is =
      elim (type_at image source) as (λ (o : Option NewObject). type_at image source ≡ o
      → what (option_map_or (λ kind. first_capability kind (offset_of image source)) o Empty) ≡ Some value → Of source value) [
        | None ↦ λ _ clash. absurd (none-some value (sym on_empty ∙ clash))
        | Some kind ↦ λ type here. record { object = object; kind = kind; type = type; is = here }
      ] refl (sym (by-table source _) ∙ is)

  pub source-of : (entry : CapabilityEntry) (value : A) → what (listed_capability image entry) ≡ Some value → Of entry.source value
  source-of entry value is =
      elim (leb_tells image.header.objects entry.source) [
        | inr below ↦ first-of entry.source value below.1 (ap what (sym (chosen false below.0)) ∙ same)
        | inl above ↦ absurd (from-handler (slice_get image.interrupts (interrupt_of image entry.source)) (ap what (sym (chosen true above.0)) ∙ same))
      ]
    where
      same : what (source_capability image entry.source) ≡ Some value
      same = sym (on_limited (source_capability image entry.source) entry.rights entry.payload) ∙ is

      chosen : (b : Bool) → is_handler image entry.source ≡ b → source_capability image entry.source
          ≡ (if b then option_map_or (λ i. InterruptHandler i.line) (slice_get image.interrupts (interrupt_of image entry.source)) Empty
          else original image entry.source)
      chosen b here = ap (λ b. if b then option_map_or (λ i. InterruptHandler i.line) (slice_get image.interrupts (interrupt_of image entry.source)) Empty
          else original image entry.source) here

      from-handler : (o : Option InterruptEntry) → what (option_map_or (λ i. InterruptHandler i.line) o Empty) ≡ Some value → ⊥
      from-handler None clash = none-some value (sym on_empty ∙ clash)
      from-handler (Some i) clash = none-some value (sym (on_handler i.line) ∙ clash)

pub first-names : (kind k : NewObject) (offset o : ℕ) → object_named (first_capability kind offset) ≡ Some (k, o) → (kind ≡ k) × (offset ≡ o)
first-names (NewUntyped b) k offset o is = absurd (none-some (k, o) is)
first-names NewThread k offset o is = let same = same_Some (NewThread, offset) (k, o) is in (ap (λ p. p.0) same, ap (λ p. p.1) same)
first-names NewEndpoint k offset o is = let same = same_Some (NewEndpoint, offset) (k, o) is in (ap (λ p. p.0) same, ap (λ p. p.1) same)
first-names NewNotification k offset o is = let same = same_Some (NewNotification, offset) (k, o) is in (ap (λ p. p.0) same, ap (λ p. p.1) same)
first-names (NewCNode r) k offset o is = let same = same_Some (NewCNode r, offset) (k, o) is in (ap (λ p. p.0) same, ap (λ p. p.1) same)
first-names NewFrame k offset o is = let same = same_Some (NewFrame, offset) (k, o) is in (ap (λ p. p.0) same, ap (λ p. p.1) same)
first-names NewPageTable k offset o is = let same = same_Some (NewPageTable, offset) (k, o) is in (ap (λ p. p.0) same, ap (λ p. p.1) same)
first-names NewRootTable k offset o is = let same = same_Some (NewRootTable, offset) (k, o) is in (ap (λ p. p.0) same, ap (λ p. p.1) same)

pub first-memory : (kind : NewObject) (offset o b : ℕ) → memory_of (first_capability kind offset) ≡ Some (o, b) → (kind ≡ NewUntyped b) × (offset ≡ o)
first-memory (NewUntyped bits) offset o b is =
    let same = same_Some (offset, bits) (o, b) is in (ap (λ (p : ℕ × ℕ). NewUntyped p.1) same, ap (λ (p : ℕ × ℕ). p.0) same)
first-memory NewThread offset o b is = absurd (none-some (o, b) is)
first-memory NewEndpoint offset o b is = absurd (none-some (o, b) is)
first-memory NewNotification offset o b is = absurd (none-some (o, b) is)
first-memory (NewCNode r) offset o b is = absurd (none-some (o, b) is)
first-memory NewFrame offset o b is = absurd (none-some (o, b) is)
first-memory NewPageTable offset o b is = absurd (none-some (o, b) is)
first-memory NewRootTable offset o b is = absurd (none-some (o, b) is)

-- ---- endpoints and notifications

abbrev is_queue : NewObject → Bool
is_queue NewEndpoint = true
is_queue NewNotification = true
is_queue _ = false

kind-of : (k : NewObject) (o : ℕ) (kind : NewObject) (offset : ℕ) → ◌≡◌ {A = Option (NewObject × ℕ)} (Some (kind, offset)) (Some (k, o)) → kind ≡ k
kind-of k o kind offset is = ap (λ p. p.0) (same_Some (kind, offset) (k, o) is)

-- a capability to one has the rights that are listed
queue-rights : (c : Cap) (word payload : ℕ) (k : NewObject) (o : ℕ) → object_named c ≡ Some (k, o) → is_queue k ≡ true
    → rights_of (limited c word payload) ≡ rights word
queue-rights Empty w p k o is queue = absurd (none-some (k, o) is)
queue-rights (Untyped a b u) w p k o is queue = absurd (none-some (k, o) is)
queue-rights (Endpoint a r g) w p k o is queue = refl
queue-rights (Notification a r g) w p k o is queue = refl
queue-rights (CNode a r g) w p k o is queue = absurd (false≢true (ap is_queue (kind-of k o (NewCNode r) a is) ∙ queue))
queue-rights (Frame a r f) w p k o is queue = absurd (false≢true (ap is_queue (kind-of k o NewFrame a is) ∙ queue))
queue-rights (PageTable a f) w p k o is queue = absurd (false≢true (ap is_queue (kind-of k o NewPageTable a is) ∙ queue))
queue-rights (Tcb a) w p k o is queue = absurd (false≢true (ap is_queue (kind-of k o NewThread a is) ∙ queue))
queue-rights (RootTable a) w p k o is queue = absurd (false≢true (ap is_queue (kind-of k o NewRootTable a is) ∙ queue))
queue-rights InterruptControl w p k o is queue = absurd (none-some (k, o) is)
queue-rights (InterruptHandler n) w p k o is queue = absurd (none-some (k, o) is)

-- a bit of what is covered is one of what covers
pub keeps-bit : (l c m : ℕ) → bit_and l c ≡ c → not (bit_and c m == 0) ≡ true → not (bit_and l m == 0) ≡ true
keeps-bit l c m covers set = elim (eqb_tells (bit_and l m) 0) [
  | inr apart ↦ ap not apart.0
  | inl none ↦
      let gone : bit_and c m ≡ 0 =
      ap (λ (n : ℕ). bit_and n m) (sym covers ∙ and_comm l c) ∙ and_assoc m c l ∙ ap (bit_and c) none.1 ∙ and_zero_r c in
      absurd (false≢true (sym (ap not (eq-eqb (bit_and c m) 0 gone)) ∙ set))
]

-- ---- what is held is listed

pub any-second : (a b c d : Bool) → b ≡ true → (a || b || c || d) ≡ true
any-second true b c d is = refl
any-second false true c d is = refl
any-second false false c d is = absurd (false≢true is)

not-frame : (k : NewObject) → is_queue k ≡ true → is_frame_type (Some k) ≡ false
not-frame NewEndpoint is = refl
not-frame NewNotification is = refl
not-frame (NewUntyped b) is = refl
not-frame NewThread is = refl
not-frame (NewCNode r) is = refl
not-frame NewFrame is = absurd (false≢true is)
not-frame NewPageTable is = refl
not-frame NewRootTable is = refl

module _ (image : Image) (apart : StandApart image) (t : Thread) (object : ℕ) (inside : object < image.header.objects)
    (plain : is_untyped_type (type_at image object) ≡ false) where
  -- the listed capability changes it
  by-entry : (entry : CapabilityEntry) → Contains image.capabilities entry → is_member entry.cnode (reached image t) ≡ true → entry.source ≡ object
      → changes_by image entry ≡ true → changes image t object ≡ true
  unfolding changes
  by-entry entry there member same changing =
      let place = contained image.capabilities entry there in
      any-second (maps image t (λ f. (f.frame == object) && may_write (rights f.rights))) _ (t.header.buffer == object) (acknowledges image t object)
      (any-at (λ c. is_member c.cnode (reached image t) && ((c.source == object) && changes_by image c)) image.capabilities place.0 entry place.1
      (ap₂ (λ (a b : Bool). a && (b && changes_by image entry)) member (eq-eqb entry.source object same) ∙ changing))

  changing : (entry : CapabilityEntry) (k : NewObject) → type_at image entry.source ≡ Some k → is_queue k ≡ true
      → (may_write (rights entry.rights) ≡ true) ⊎ (may_read (rights entry.rights) ≡ true) → changes_by image entry ≡ true
  changing entry k type queue (inl writes) = ap (λ b. b || (not (is_frame_type (type_at image entry.source)) && may_read (rights entry.rights))) writes
  changing entry k type queue (inr reads) =
      ap₂ (λ (a b : Bool). may_write (rights entry.rights) || (not a && b)) (ap is_frame_type type ∙ not-frame k queue) reads
      ∙ last (may_write (rights entry.rights))
    where
      last : (b : Bool) → (b || true) ≡ true
      last true = refl
      last false = refl

  held-listed : (c : Cap) (k : NewObject) → object_named c ≡ Some (k, offset_of image object) → is_queue k ≡ true
      → IsTrue (may_write (rights_of c)) ⊎ IsTrue (may_read (rights_of c)) → IsGivenTo image t c → changes image t object ≡ true
  held-listed c k named queue may (listed entry is covers) =
      let one : ◌≡◌ {A = Option (NewObject × ℕ)} (Some (covers.kind, covers.offset)) (Some (k, offset_of image object)) = sym covers.names ∙ named in
      let full : object_named (listed_capability image entry) ≡ Some (k, offset_of image object) = covers.same ∙ one in
      let of = source-of object_named named-limited named-mapped refl (λ n. refl) image entry (k, offset_of image object) full in
      let first = first-names of.kind k (offset_of image entry.source) (offset_of image object) of.is in
      let same : entry.source ≡ object = elim (eqb_tells entry.source object) [
        | inl here ↦ here.1
        | inr other ↦ absurd (elim (apart.apart entry.source object of.object inside other.1) [
          | inl before ↦ (let size = pow_pos (bits_of (object_at image entry.source)) in let at = first.1 in omega (arith, before, size, at))
          | inr behind ↦ (let size = pow_pos (bits_of (object_at image object)) in let at = first.1 in omega (arith, behind, size, at))
        ])
      ] in
      let right : rights_of (listed_capability image entry) ≡ rights entry.rights =
      queue-rights (source_capability image entry.source) entry.rights entry.payload k (offset_of image object)
      (sym (named-limited (source_capability image entry.source) entry.rights entry.payload) ∙ full) queue in
      by-entry entry is.listed is.member same (changing entry k (of.type ∙ ap (λ (x : NewObject). Some x) first.0) queue (kept right may))
    where
      kept : rights_of (listed_capability image entry) ≡ rights entry.rights → IsTrue (may_write (rights_of c)) ⊎ IsTrue (may_read (rights_of c))
          → (may_write (rights entry.rights) ≡ true) ⊎ (may_read (rights entry.rights) ≡ true)
      kept right (inl writes) = inl (ap may_write (sym right) ∙ keeps-bit (rights_of (listed_capability image entry)).0 (rights_of c).0 1 covers.rights writes)
      kept right (inr reads) = inr (ap may_read (sym right) ∙ keeps-bit (rights_of (listed_capability image entry)).0 (rights_of c).0 2 covers.rights reads)
  held-listed c k named queue may (pool offset bits watermark is around) = absurd (none-some (k, offset_of image object) (sym (ap object_named is) ∙ named))
  held-listed c k named queue may (handler number entry is lists same) = absurd (none-some (k, offset_of image object) (sym (ap object_named same) ∙ named))
  held-listed c k named queue may (made kind offset names around) = absurd (apart-pool around)
    where
      at : offset ≡ offset_of image object
      at = ap (λ p. p.1) (same_Some (kind, offset) (k, offset_of image object) (sym names ∙ named))

      apart-pool : IsPoolAround image t offset (2 ^ object_bits kind) → ⊥
      apart-pool p =
          let u = p.around in
          let of = source-of memory_of memory-limited memory-mapped refl (λ n. refl) image p.entry (u.offset, u.bits) (ap memory_of u.is) in
          let first = first-memory of.kind (offset_of image p.entry.source) u.offset u.bits of.is in
          let differs : p.entry.source ≢ object = λ same.
          false≢true (sym plain ∙ ap (λ (n : ℕ). is_untyped_type (type_at image n)) (sym same) ∙ ap is_untyped_type of.type
          ∙ ap (λ x. is_untyped_type (Some x)) first.0) in
          let large : bits_of (object_at image p.entry.source) ≡ u.bits =
          ap (λ (o : Option NewObject). option_map_or object_bits o 0) (of.type ∙ ap (λ (x : NewObject). Some x) first.0) in
          let power : 2 ^ bits_of (object_at image p.entry.source) ≡ 2 ^ u.bits = ap (λ (n : ℕ). 2 ^ n) large in
          let low = u.begins in
          let high = u.ends in
          let size = pow_pos (object_bits kind) in
          let own = pow_pos (bits_of (object_at image object)) in
          let begin = first.1 in
          let here = at in
          elim (apart.apart p.entry.source object of.object inside differs) [
            | inl before ↦ omega (arith, before, power, low, high, size, begin, here)
            | inr behind ↦ omega (arith, behind, own, low, high, begin, here)
          ]

  pub held-changes : (s : State) (c : Cap) → ChangesQueue (offset_of image object) c → IsGivenTo image t c → changes image t object ≡ true
  held-changes s c by given = elim by.names [
    | inl endpoint ↦ held-listed c NewEndpoint endpoint refl by.may given
    | inr notification ↦ held-listed c NewNotification notification refl by.may given
  ]
