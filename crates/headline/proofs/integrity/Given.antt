-- What a thread was given says where it may write: a frame's capability with write is listed so, or is to a frame in untyped memory of the thread, and
-- untyped memory that it holds lies in untyped memory that is listed.
use Rattle.std.proofs.Common.{ℕ, ◌≡◌, ◌∙◌, ◌==◌, ◌+◌, ◌^◌, ◌<◌, ◌≤◌, ◌&&◌, ◌||◌, Bool, true, false, not, Option, Some, refl, sym, ap, ap₂, arith}
use Rattle.std.specs.Prelude.{Contains}
use Rattle.std.specs.Option.{option_map_or}
use Rattle.std.specs.List.{range_with_len}
use Rattle.std.proofs.lemmas.Bool.{eq-eqb, le-leb, lt-ltb, or_left, or_right}
use Rattle.std.proofs.lemmas.List.Folds.{list_any_at}
use Rattle.std.proofs.lemmas.List.FromFn.{get_or-range_with_len, length-range_with_len}
use Rattle.std.proofs.lemmas.Option.{none-some, same_Some}
use Rattle.model.specs.declared.capabilities.Cap.{Cap}
use Rattle.model.specs.declared.capabilities.Cap.TheVariants.{Empty, Untyped, Endpoint, Notification, CNode, Frame, PageTable, Tcb, RootTable, InterruptControl}
use Rattle.model.specs.declared.capabilities.Cap.TheVariants.{InterruptHandler}
use Rattle.model.specs.declared.capabilities.FrameMapping.{FrameMapping}
use Rattle.model.specs.declared.entries.CapabilityEntry.{CapabilityEntry}
use Rattle.model.specs.declared.rights.Rights.{Rights}
use Rattle.model.specs.Acceptance.Authority.{IsUntypedAround, rights_of}
use Rattle.model.specs.Acceptance.ThreadRules.{is_member, reached}
use Rattle.model.specs.Acceptance.WellFormed.{is_frame_type, is_untyped_type}
use Rattle.model.specs.Capabilities.Rights.{may_read, may_write, rights}
use Rattle.model.specs.Images.Described.{limited, listed_capability, source_capability}
use Rattle.model.specs.Images.Image.{Image, Thread}
use Rattle.model.specs.Images.Places.{bits_of, object_at, offset_of, type_at}
use Rattle.model.specs.Kernel.AddressSpaces.{page_size}
use Rattle.model.specs.Kernel.Kinds.{object_named}
use Rattle.model.specs.Kernel.Retype.{NewObject, NewUntyped, NewThread, NewCNode, NewFrame, NewPageTable, NewRootTable, object_bits}
use Rattle.headline.specs.integrity.Runs.{has_frame_at, has_memory_at, holds_place, may_write_at}
use Rattle.headline.specs.parts.Given.{IsGivenTo, listed, made, pool, handler, IsPoolAround}
use Rattle.headline.specs.parts.Parts.{acknowledges, changes, changes_by, lists, maps}
use Rattle.headline.proofs.parts.Laws.{any-second, first-memory, first-names, keeps-bit, memory-limited, memory-mapped, memory_of, named-limited, named-mapped}
use Rattle.headline.proofs.parts.Laws.{source-of}

-- ---- places

pub holds : (image : Image) (place number : ℕ) → offset_of image number ≤ place → place < offset_of image number + 2 ^ bits_of (object_at image number)
    → holds_place image place number ≡ true
holds image place number low high =
    ap₂ (λ (a b : Bool). a && b) (le-leb (offset_of image number) place low)
    (lt-ltb place (offset_of image number + 2 ^ bits_of (object_at image number)) high)

large : (image : Image) (number : ℕ) (kind : NewObject) → type_at image number ≡ Some kind → bits_of (object_at image number) ≡ object_bits kind
large image number kind type = ap (λ (o : Option NewObject). option_map_or object_bits o 0) type

-- a frame of the image that the thread changes
pub frame-at : (image : Image) (t : Thread) (place number : ℕ) → number < image.header.objects → type_at image number ≡ Some NewFrame
    → changes image t number ≡ true → offset_of image number ≤ place → place < offset_of image number + page_size → has_frame_at image t place ≡ true
unfolding has_frame_at
frame-at image t place number less type changing low high =
    let bits : 2 ^ bits_of (object_at image number) ≡ 4096 = ap (λ (n : ℕ). 2 ^ n) (large image number NewFrame type) in
    let few = length-range_with_len 0 image.header.objects in
    let here = get_or-range_with_len 0 image.header.objects number 0 less ∙ (let same : 0 + number ≡ number = omega arith in same) in
    list_any_at (λ number. is_frame_type (type_at image number) && changes image t number && holds_place image place number)
    (range_with_len 0 image.header.objects) number 0 (omega (arith, few, less))
    (ap (λ (n : ℕ). is_frame_type (type_at image n) && changes image t n && holds_place image place n) here
    ∙ ap (λ (o : Option NewObject). is_frame_type o && changes image t number && holds_place image place number) type
    ∙ ap₂ (λ (a b : Bool). a && b) changing (holds image place number low (omega (arith, high, bits))))

-- ---- untyped memory

pub pool-at : (image : Image) (t : Thread) (first size place : ℕ) → IsPoolAround image t first size → first ≤ place → place < first + size
    → has_memory_at image t place ≡ true
unfolding has_memory_at
pool-at image t first size place p low high =
    let u = p.around in
    let entry = p.entry in
    let there = p.listed.listed in
    let of = source-of memory_of memory-limited memory-mapped refl (λ n. refl) image entry (u.offset, u.bits) (ap memory_of u.is) in
    let is = first-memory of.kind (offset_of image entry.source) u.offset u.bits of.is in
    let type : type_at image entry.source ≡ Some (NewUntyped u.bits) = of.type ∙ ap (λ (k : NewObject). Some k) is.0 in
    let power : 2 ^ bits_of (object_at image entry.source) ≡ 2 ^ u.bits = ap (λ (n : ℕ). 2 ^ n) (large image entry.source (NewUntyped u.bits) type) in
    let begins = u.begins in
    let ends = u.ends in
    let at = is.1 in
    list_any_at
    (λ (c : CapabilityEntry). is_member c.cnode (reached image t) && (is_untyped_type (type_at image c.source) && holds_place image place c.source))
    image.capabilities there.0 entry there.1
    (ap (λ (c : CapabilityEntry). is_member c.cnode (reached image t) && (is_untyped_type (type_at image c.source) && holds_place image place c.source)) there.2
    ∙ ap₂ (λ (a : Bool) (o : Option NewObject). a && (is_untyped_type o && holds_place image place entry.source)) p.listed.member type
    ∙ holds image place entry.source (omega (arith, at, begins, low)) (omega (arith, at, power, high, ends)))

-- what a thread holds as untyped memory
pub memory-given : (image : Image) (t : Thread) (c : Cap) (first size place : ℕ) → IsGivenTo image t c → IsUntypedAround first size c → first ≤ place
    → place < first + size → has_memory_at image t place ≡ true
memory-given image t c first size place given u low high = by given
  where
    none-named : {A : Type 0} (kind : NewObject) (offset : ℕ) → object_named c ≡ Some (kind, offset) → A
    none-named kind offset names = absurd (none-some (kind, offset) (sym (ap object_named u.is) ∙ names))

    by : IsGivenTo image t c → has_memory_at image t place ≡ true
    by (listed entry is covers) = none-named covers.kind covers.offset covers.names
    by (made kind offset names around) = none-named kind offset names
    by (handler number entry is lists same) =
        absurd (let e : Untyped u.offset u.bits u.watermark ≡ InterruptHandler number = sym u.is ∙ same in cc)
    by (pool offset bits watermark is around) =
        let e : Untyped u.offset u.bits u.watermark ≡ Untyped offset bits watermark = sym u.is ∙ is in
        let at : u.offset ≡ offset = cc in
        let wide : u.bits ≡ bits = cc in
        let power : 2 ^ u.bits ≡ 2 ^ bits = ap (λ (n : ℕ). 2 ^ n) wide in
        let begins = u.begins in
        let ends = u.ends in
        pool-at image t offset (2 ^ bits) place around (omega (arith, at, begins, low)) (omega (arith, at, power, high, ends))

-- ---- frames

kind-of : (k : NewObject) (o : ℕ) (kind : NewObject) (offset : ℕ) → ◌≡◌ {A = Option (NewObject × ℕ)} (Some (kind, offset)) (Some (k, o)) → kind ≡ k
kind-of k o kind offset is = ap (λ p. p.0) (same_Some (kind, offset) (k, o) is)

abbrev is_frame_kind : NewObject → Bool
is_frame_kind kind = is_frame_type (Some kind)

other-kind : {A : Type 0} (kind : NewObject) (o offset : ℕ) → ◌≡◌ {A = Option (NewObject × ℕ)} (Some (kind, offset)) (Some (NewFrame, o))
    → is_frame_kind kind ≡ false → A
other-kind kind o offset is other = absurd (let e : true ≡ false = sym (ap is_frame_kind (kind-of NewFrame o kind offset is)) ∙ other in cc)

-- a capability to a frame has the rights that are listed
frame-rights : (c : Cap) (word payload o : ℕ) → object_named c ≡ Some (NewFrame, o) → rights_of (limited c word payload) ≡ rights word
frame-rights Empty w p o is = absurd (none-some (NewFrame, o) is)
frame-rights (Untyped a b u) w p o is = absurd (none-some (NewFrame, o) is)
frame-rights (Endpoint a r g) w p o is = refl
frame-rights (Notification a r g) w p o is = refl
frame-rights (CNode a r g) w p o is = other-kind (NewCNode r) o a is refl
frame-rights (Frame a r f) w p o is = refl
frame-rights (PageTable a f) w p o is = other-kind NewPageTable o a is refl
frame-rights (Tcb a) w p o is = other-kind NewThread o a is refl
frame-rights (RootTable a) w p o is = other-kind NewRootTable o a is refl
frame-rights InterruptControl w p o is = absurd (none-some (NewFrame, o) is)
frame-rights (InterruptHandler n) w p o is = absurd (none-some (NewFrame, o) is)

-- a capability that is listed so changes what it is to
lists-change : (image : Image) (t : Thread) (entry : CapabilityEntry) → Contains image.capabilities entry → is_member entry.cnode (reached image t) ≡ true
    → may_write (rights entry.rights) ≡ true → changes image t entry.source ≡ true
unfolding changes
lists-change image t entry there member writes =
    let object = entry.source in
    let test = λ (c : CapabilityEntry). is_member c.cnode (reached image t) && ((c.source == object) && changes_by image c) in
    any-second (maps image t (λ f. (f.frame == object) && may_write (rights f.rights))) (lists image t (λ c. (c.source == object) && changes_by image c))
    (t.header.buffer == object) (acknowledges image t object)
    (list_any_at test image.capabilities there.0 entry there.1
    (ap test there.2
    ∙ ap₂ (λ (a b : Bool). a && (b && changes_by image entry)) member (eq-eqb entry.source object refl)
    ∙ ap (λ (b : Bool). b || (not (is_frame_type (type_at image entry.source)) && may_read (rights entry.rights))) writes))

-- what a capability to a frame may write, the thread may write by the image
pub frame-given : (image : Image) (t : Thread) (offset : ℕ) (held : Rights) (m : Option FrameMapping) (place : ℕ) → IsGivenTo image t (Frame offset held m)
    → may_write held ≡ true → offset ≤ place → place < offset + page_size → may_write_at image t place ≡ true
frame-given image t offset held m place given writes low high = by given
  where
    by : IsGivenTo image t (Frame offset held m) → may_write_at image t place ≡ true
    by (listed entry is covers) =
        let full : object_named (listed_capability image entry) ≡ Some (NewFrame, offset) = covers.same ∙ sym covers.names in
        let of = source-of object_named named-limited named-mapped refl (λ n. refl) image entry (NewFrame, offset) full in
        let first = first-names of.kind NewFrame (offset_of image entry.source) offset of.is in
        let at = first.1 in
        let right : rights_of (listed_capability image entry) ≡ rights entry.rights =
        frame-rights (source_capability image entry.source) entry.rights entry.payload offset
        (sym (named-limited (source_capability image entry.source) entry.rights entry.payload) ∙ full) in
        let may : may_write (rights entry.rights) ≡ true =
        ap may_write (sym right) ∙ keeps-bit (rights_of (listed_capability image entry)).0 held.0 1 covers.rights writes in
        or_left (has_frame_at image t place) (has_memory_at image t place)
        (frame-at image t place entry.source of.object (of.type ∙ ap (λ (k : NewObject). Some k) first.0) (lists-change image t entry is.listed is.member may)
        (omega (arith, at, low)) (omega (arith, at, high)))
    by (made kind o names around) =
        let same : NewFrame ≡ kind = kind-of kind o NewFrame offset names in
        let at : offset ≡ o = ap (λ p. p.1) (same_Some (NewFrame, offset) (kind, o) names) in
        let size : 4096 ≡ 2 ^ object_bits kind = ap (λ (k : NewObject). 2 ^ object_bits k) same in
        or_right (has_frame_at image t place) (has_memory_at image t place)
        (pool-at image t o (2 ^ object_bits kind) place around (omega (arith, at, low)) (omega (arith, at, high, size)))
    by (pool o bits watermark is around) = absurd (let e : Frame offset held m ≡ Untyped o bits watermark = is in cc)
    by (handler number entry is lists same) = absurd (let e : Frame offset held m ≡ InterruptHandler number = same in cc)
