-- Which capabilities are untyped memory: those whose objects are, whatever is mapped, limited or listed.
use Rattle.std.proofs.Common.{ℕ, zero, suc, ◌≡◌, ◌∙◌, ◌==◌, ◌/◌, ◌||◌, inl, inr, Bool, true, false, if◌then◌else◌, find, take, List, [], ◌∷◌, cond, Option}
use Rattle.std.proofs.Common.{Some, None, refl, sym, ap, arith}
use Rattle.std.specs.Prelude.{slice_get}
use Rattle.std.specs.Option.{option_map_or}
use Rattle.std.specs.List.{list_any}
use Rattle.std.proofs.lemmas.Bool.{cases_lt, le-leb, lt-leb, or_parts}
use Rattle.std.proofs.lemmas.List.{get_or_past}
use Rattle.std.proofs.lemmas.Option.{none-some, same_Some}
use Rattle.model.specs.declared.capabilities.Cap.{Cap}
use Rattle.model.specs.declared.capabilities.Cap.TheVariants.{Empty, Untyped, Endpoint, Notification, CNode, Frame, PageTable, Tcb, RootTable, InterruptControl}
use Rattle.model.specs.declared.capabilities.Cap.TheVariants.{InterruptHandler}
use Rattle.model.specs.declared.capabilities.TableMapping.{TableMapping}
use Rattle.model.specs.declared.entries.CapabilityEntry.{CapabilityEntry}
use Rattle.model.specs.declared.entries.InterruptEntry.{InterruptEntry}
use Rattle.model.specs.declared.entries.ObjectEntry.{ObjectEntry}
use Rattle.model.specs.declared.entries.TableEntry.{TableEntry}
use Rattle.format_laws.specs.Fitting.{IsFitting}
use Rattle.soundness.specs.boot_laws.Loading.{Progress, original_so_far}
use Rattle.model.specs.Acceptance.WellFormed.{is_untyped_type, source_type}
use Rattle.model.specs.Capabilities.CapabilityKinds.{is_untyped, with_table_mapping}
use Rattle.model.specs.Images.Described.{limited, listed_capability, original}
use Rattle.model.specs.Images.Image.{Image}
use Rattle.model.specs.Images.Places.{interrupt_of, is_handler, object_at, offset_of, type_at}
use Rattle.model.specs.Kernel.AddressSpaces.{page_size, region_pages}
use Rattle.model.specs.Kernel.Retype.{NewObject, NewUntyped, NewThread, NewEndpoint, NewNotification, NewCNode, NewFrame, NewPageTable, NewRootTable}
use Rattle.model.specs.Kernel.Retype.{first_capability, type_of}

table-untyped : (c : Cap) (m : Option TableMapping) → is_untyped (with_table_mapping c m) ≡ is_untyped c
table-untyped Empty m = refl
table-untyped (Untyped a b d) m = refl
table-untyped (Endpoint a r b) m = refl
table-untyped (Notification a r b) m = refl
table-untyped (CNode a r g) m = refl
table-untyped (Frame a r n) m = refl
table-untyped (PageTable a n) m = refl
table-untyped (Tcb a) m = refl
table-untyped (RootTable a) m = refl
table-untyped InterruptControl m = refl
table-untyped (InterruptHandler a) m = refl

limited-untyped : (c : Cap) (word payload : ℕ) → is_untyped (limited c word payload) ≡ is_untyped c
limited-untyped Empty word payload = refl
limited-untyped (Untyped a b d) word payload = refl
limited-untyped (Endpoint a r b) word payload = refl
limited-untyped (Notification a r b) word payload = refl
limited-untyped (CNode a r g) word payload = refl
limited-untyped (Frame a r n) word payload = refl
limited-untyped (PageTable a n) word payload = refl
limited-untyped (Tcb a) word payload = refl
limited-untyped (RootTable a) word payload = refl
limited-untyped InterruptControl word payload = refl
limited-untyped (InterruptHandler a) word payload = refl

-- the first capability to an object of a type
abbrev pub first_of_type : Option NewObject → ℕ → Cap
first_of_type t offset = option_map_or (λ kind. first_capability kind offset) t Empty

first-untyped : (t : Option NewObject) (offset : ℕ) → is_untyped (first_of_type t offset) ≡ is_untyped_type t
first-untyped None offset = refl
first-untyped (Some (NewUntyped bits)) offset = refl
first-untyped (Some NewThread) offset = refl
first-untyped (Some NewEndpoint) offset = refl
first-untyped (Some NewNotification) offset = refl
first-untyped (Some (NewCNode radix)) offset = refl
first-untyped (Some NewFrame) offset = refl
first-untyped (Some NewPageTable) offset = refl
first-untyped (Some NewRootTable) offset = refl

-- a capability with what a page table's entry maps, if there is one
abbrev pub mapped_by : Image → Option TableEntry → Cap → Cap
mapped_by image found c =
    option_map_or (λ t. with_table_mapping c (Some (record { root = offset_of image t.root; region = t.address / page_size / region_pages }))) found c

mapped-untyped : (image : Image) (found : Option TableEntry) (c : Cap) → is_untyped (mapped_by image found c) ≡ is_untyped c
mapped-untyped image None c = refl
mapped-untyped image (Some t) c = table-untyped c (Some (record { root = offset_of image t.root; region = t.address / page_size / region_pages }))

pub original-untyped : (image : Image) (p : Progress) (number : ℕ) → is_untyped (original_so_far image p number) ≡ is_untyped_type (type_at image number)
original-untyped image p number =
    mapped-untyped image (find (λ t. t.table == number) (take p.tables image.tables)) (first_of_type (type_at image number) (offset_of image number))
    ∙ first-untyped (type_at image number) (offset_of image number)

described-untyped : (image : Image) (number : ℕ) → is_untyped (original image number) ≡ is_untyped_type (type_at image number)
described-untyped image number =
    mapped-untyped image (find (λ t. t.table == number) image.tables) (first_of_type (type_at image number) (offset_of image number))
    ∙ first-untyped (type_at image number) (offset_of image number)

-- nothing that is listed is untyped memory, but for pools
pub listed-untyped : (image : Image) (c : CapabilityEntry) → is_untyped (listed_capability image c) ≡ is_untyped_type (source_type image c.source)
listed-untyped image c =
    limited-untyped _ c.rights c.payload
    ∙ elim (is_handler image c.source)
    as (λ b. is_untyped (if b then option_map_or (λ (i : InterruptEntry). InterruptHandler i.line)
    (slice_get image.interrupts (interrupt_of image c.source)) Empty else original image c.source)
    ≡ is_untyped_type (if b then None else type_at image c.source)) [
      | true ↦ no-untyped (slice_get image.interrupts (interrupt_of image c.source))
      | false ↦ described-untyped image c.source
    ] where
      no-untyped : (found : Option InterruptEntry) → is_untyped (option_map_or (λ (i : InterruptEntry). InterruptHandler i.line) found Empty) ≡ false
      no-untyped None = refl
      no-untyped (Some i) = refl

-- a handler's number is no object's
pub source-untyped : (image : Image) (source : ℕ) → IsFitting image → is_untyped_type (type_at image source) ≡ is_untyped_type (source_type image source)
source-untyped image source fitting = elim (cases_lt source image.header.objects) [
  | inl object ↦ sym (ap (λ b. is_untyped_type (if b then None else type_at image source)) (lt-leb image.header.objects source object))
  | inr handler ↦
      let none : object_at image source ≡ record { untyped = 0; kind = 0; size = 0 } =
      get_or_past image.objects source _ (omega (arith, handler, fitting.objects)) in
      ap (λ (o : ObjectEntry). is_untyped_type (type_of o.kind o.size)) none
      ∙ sym (ap (λ b. is_untyped_type (if b then None else type_at image source)) (le-leb image.header.objects source handler))
]

-- ---- one entry more of a list

pub any-more : {A : Type 0} (test : A → Bool) (xs : List A) (m : ℕ) (x : A) → slice_get xs m ≡ Some x
    → list_any test (take (suc m) xs) ≡ (list_any test (take m xs) || test x)
any-more test [] m x at = absurd (none-some x at)
any-more test (y ∷ ys) zero x at = elim (test y) as (λ b. (b || false) ≡ b) [ true ↦ refl | false ↦ refl ] ∙ ap test (same_Some y x at)
any-more test (y ∷ ys) (suc m) x at = ap (λ b. test y || b) (any-more test ys m x at)
    ∙ elim (test y) as (λ b. (b || (list_any test (take m ys) || test x)) ≡ ((b || list_any test (take m ys)) || test x)) [
      | true ↦ refl
      | false ↦ refl
    ]

pub find-none : {A : Type 0} (test : A → Bool) (xs : List A) → list_any test xs ≡ false → find test xs ≡ None
find-none test [] none = refl
find-none test (y ∷ ys) none =
    let parts = or_parts (test y) (list_any test ys) none in ap (λ b. cond b (Some y) (find test ys)) parts.0 ∙ find-none test ys parts.1

pub find-last : {A : Type 0} (test : A → Bool) (xs : List A) (m : ℕ) (x : A) → slice_get xs m ≡ Some x → list_any test (take m xs) ≡ false → test x ≡ true
    → find test (take (suc m) xs) ≡ Some x
find-last test [] m x at none is = absurd (none-some x at)
find-last test (y ∷ ys) zero x at none is = ap (λ b. cond b (Some y) None) (ap test (same_Some y x at) ∙ is) ∙ at
find-last test (y ∷ ys) (suc m) x at none is =
    let parts = or_parts (test y) (list_any test (take m ys)) none in
    ap (λ b. cond b (Some y) (find test (take (suc m) ys))) parts.0 ∙ find-last test ys m x at parts.1 is

pub find-more : {A : Type 0} (test : A → Bool) (xs : List A) (m : ℕ) (x : A) → slice_get xs m ≡ Some x → test x ≡ false
    → find test (take (suc m) xs) ≡ find test (take m xs)
find-more test [] m x at is = absurd (none-some x at)
find-more test (y ∷ ys) zero x at is = ap (λ b. cond b (Some y) None) (ap test (same_Some y x at) ∙ is)
find-more test (y ∷ ys) (suc m) x at is = ap (λ o. cond (test y) (Some y) o) (find-more test ys m x at is)
