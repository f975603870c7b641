-- What a thread reaches by what it holds: the queues of which it has a capability, the notifications of its lines, the memory of its pools.
use Rattle.std.proofs.Common.{ℕ, ◌≡◌, ◌∙◌, ◌==◌, ◌+◌, ◌^◌, ◌<◌, ◌≤◌, ◌&&◌, ◌||◌, ◌⊎◌, inl, inr, Bool, true, false, not, bit_and, List, Option, Some, None}
use Rattle.std.proofs.Common.{◌/◌, find, if◌then◌else◌, refl, sym, ap, ap₂, subst, arith}
use Rattle.std.specs.Prelude.{slice_get}
use Rattle.std.specs.Option.{option_map_or}
use Rattle.std.proofs.lemmas.Bool.{cases_order, eq-eqb, false≢true}
use Rattle.std.proofs.lemmas.Bool.Decides.{leb_tells}
use Rattle.std.proofs.lemmas.Option.{none-some, same_Some, slice_get_within}
use Rattle.format_laws.specs.Fitting.{IsFitting}
use Rattle.format_laws.proofs.Laws.{is-fitting}
use Rattle.model.specs.declared.capabilities.Cap.{Cap}
use Rattle.model.specs.declared.capabilities.Cap.TheVariants.{Empty, Untyped, Endpoint, Notification, CNode, Frame, PageTable, Tcb, RootTable}
use Rattle.model.specs.declared.capabilities.Cap.TheVariants.{InterruptControl}
use Rattle.model.specs.declared.capabilities.Cap.TheVariants.{InterruptHandler}
use Rattle.model.specs.declared.capabilities.TableMapping.{TableMapping}
use Rattle.model.specs.declared.entries.TableEntry.{TableEntry}
use Rattle.model.specs.declared.entries.CapabilityEntry.{CapabilityEntry}
use Rattle.model.specs.declared.entries.InterruptEntry.{InterruptEntry}
use Rattle.model.specs.declared.labels.Label.{Label}
use Rattle.model.specs.declared.slot_entries.Entry.{Entry}
use Rattle.model.specs.Acceptance.Accepted.{IsAccepted}
use Rattle.model.specs.Acceptance.Authority.{IsUntypedAround, rights_of}
use Rattle.model.specs.Acceptance.ThreadRules.{is_member, reached}
use Rattle.model.specs.Acceptance.WellFormed.{is_endpoint_type, is_frame_type}
use Rattle.model.specs.Capabilities.CapabilityKinds.{with_table_mapping}
use Rattle.model.specs.Capabilities.Rights.{may_read, may_write, rights}
use Rattle.model.specs.Capabilities.Slots.{capability_at}
use Rattle.model.specs.Images.Described.{limited, listed_capability, numbered, original, source_capability, with_table}
use Rattle.model.specs.Images.Image.{Image, Thread}
use Rattle.model.specs.Images.Places.{interrupt_of, is_handler, offset_of, type_at}
use Rattle.model.specs.Kernel.AddressSpaces.{page_size, region_pages}
use Rattle.model.specs.Kernel.Interrupts.{binding, signal_of}
use Rattle.model.specs.Kernel.Kinds.{object_named}
use Rattle.model.specs.Kernel.Retype.{NewObject, NewUntyped, NewThread, NewEndpoint, NewNotification, NewCNode, NewFrame, NewPageTable, NewRootTable}
use Rattle.model.specs.Kernel.Retype.{first_capability, object_bits}
use Rattle.model.specs.Kernel.State.{State, line_slot}
use Rattle.soundness.proofs.Laws.{numbered-at}
use Rattle.thread_spaces.proofs.Laws.{boot-holds, from-loaded}
use Rattle.headline.specs.facts.Standing.{AllStand}
use Rattle.headline.proofs.Laws.{boot-kept}
use Rattle.headline.specs.parts.Given.{IsGivenTo, listed, made, pool, handler, IsListedFor, IsPoolAround}
use Rattle.headline.specs.parts.Parts.{acknowledges, changes, changes_by, lists, maps, takes, takes_by}
use Rattle.part_laws.proofs.changes.Members.{any-at}
use Rattle.part_laws.proofs.outside.Listed.{first-names, is_queue, keeps-bit, named-limited, named-mapped, not-frame, queue-rights, source-of}
use Rattle.part_laws.proofs.outside.Places.{OwnPool, contained, own-pool, pool-first}

-- ---- queues

-- the right with this bit
abbrev pub has_right : ℕ → ℕ → Bool
has_right bits word = not (bit_and bits word == 0)

-- a capability that the image lists for the thread, to an endpoint or a notification, with this right
pub record QueueListed (image : Image) (t : Thread) (queue : ℕ) (kind : NewObject) (right : ℕ) : Type 0 where
  pub entry : CapabilityEntry
  pub listed : IsListedFor image t entry
  pub inside : entry.source < image.header.objects
  pub type : type_at image entry.source ≡ Some kind
  pub is_one : is_queue kind ≡ true
  pub at : queue ≡ offset_of image entry.source
  pub may : has_right (rights entry.rights).0 right ≡ true

pub queue-listed : (image : Image) (t : Thread) (queue right : ℕ) (c : Cap) (k : NewObject) → object_named c ≡ Some (k, queue) → is_queue k ≡ true
    → has_right (rights_of c).0 right ≡ true → IsGivenTo image t c → QueueListed image t queue k right ⊎ IsPoolAround image t queue 1
queue-listed image t queue right c k named is_one may (listed entry is covers) =
    let one : ◌≡◌ {A = Option (NewObject × ℕ)} (Some (covers.kind, covers.offset)) (Some (k, queue)) = sym covers.names ∙ named in
    let full : object_named (listed_capability image entry) ≡ Some (k, queue) = covers.same ∙ one in
    let of = source-of object_named named-limited named-mapped refl (λ n. refl) image entry (k, queue) full in
    let first = first-names of.kind k (offset_of image entry.source) queue of.is in
    let same : rights_of (listed_capability image entry) ≡ rights entry.rights =
    queue-rights (source_capability image entry.source) entry.rights entry.payload k queue
    (sym (named-limited (source_capability image entry.source) entry.rights entry.payload) ∙ full) is_one in
    inl (record {
      entry = entry;
      listed = is;
      inside = of.object;
      type = of.type ∙ ap (λ (x : NewObject). Some x) first.0;
      is_one = is_one;
      at = sym first.1;
      may = ap (λ r. has_right r.0 right) (sym same) ∙ keeps-bit (rights_of (listed_capability image entry)).0 (rights_of c).0 right covers.rights may;
    })
queue-listed image t queue right c k named is_one may (pool offset bits watermark is around) = absurd (none-some (k, queue) (sym (ap object_named is) ∙ named))
queue-listed image t queue right c k named is_one may (handler number entry is lists same) =
    absurd (none-some (k, queue) (sym (ap object_named same) ∙ named))
queue-listed image t queue right c k named is_one may (made kind offset names around) =
    inr (pool-first image t offset (object_bits kind) queue around
    (ap (λ p. p.1) (same_Some (k, queue) (kind, offset) (sym named ∙ names))))

second-of : (a b c d : Bool) → b ≡ true → (a || b || c || d) ≡ true
second-of true b c d is = refl
second-of false true c d is = refl
second-of false false c d is = absurd (false≢true is)

middle-of : (a b c : Bool) → b ≡ true → (a || b || c) ≡ true
middle-of true b c is = refl
middle-of false true c is = refl
middle-of false false c is = absurd (false≢true is)

or-last : (b : Bool) → (b || true) ≡ true
or-last true = refl
or-last false = refl

-- what it lists so it changes
pub listed-changes : (image : Image) (t : Thread) (queue : ℕ) (kind : NewObject) (right : ℕ) → (right ≡ 1) ⊎ (right ≡ 2)
    → (q : QueueListed image t queue kind right) → changes image t q.entry.source ≡ true
unfolding changes
listed-changes image t queue kind right which q =
    let place = contained image.capabilities q.entry q.listed.listed in
    let object = q.entry.source in
    second-of (maps image t (λ f. f.frame == object && may_write (rights f.rights))) _ (t.header.buffer == object) (acknowledges image t object)
    (any-at (λ c. is_member c.cnode (reached image t) && (c.source == object && changes_by image c)) image.capabilities place.0 q.entry place.1
    (ap₂ (λ (a b : Bool). a && (b && changes_by image q.entry)) q.listed.member (eq-eqb object object refl) ∙ changing which))
  where
    changing : (right ≡ 1) ⊎ (right ≡ 2) → changes_by image q.entry ≡ true
    changing (inl writes) =
        ap (λ b. b || not (is_frame_type (type_at image q.entry.source)) && may_read (rights q.entry.rights))
        (subst (λ (r : ℕ). has_right (rights q.entry.rights).0 r ≡ true) writes q.may)
    changing (inr reads) =
        ap₂ (λ (a b : Bool). may_write (rights q.entry.rights) || not a && b) (ap is_frame_type q.type ∙ not-frame kind q.is_one)
        (subst (λ (r : ℕ). has_right (rights q.entry.rights).0 r ≡ true) reads q.may)
        ∙ or-last (may_write (rights q.entry.rights))

-- and takes, if it may read, or it is an endpoint
pub listed-takes : (image : Image) (t : Thread) (queue : ℕ) (kind : NewObject) (right : ℕ) (q : QueueListed image t queue kind right)
    → (right ≡ 2) ⊎ ((right ≡ 1) × (kind ≡ NewEndpoint)) → takes image t q.entry.source ≡ true
unfolding takes
listed-takes image t queue kind right q which =
    let place = contained image.capabilities q.entry q.listed.listed in
    let object = q.entry.source in
    middle-of (maps image t (λ f. f.frame == object)) _ (t.header.buffer == object)
    (any-at (λ c. is_member c.cnode (reached image t) && (c.source == object && takes_by image c)) image.capabilities place.0 q.entry place.1
    (ap₂ (λ (a b : Bool). a && (b && takes_by image q.entry)) q.listed.member (eq-eqb object object refl) ∙ taking which))
  where
    taking : (right ≡ 2) ⊎ ((right ≡ 1) × (kind ≡ NewEndpoint)) → takes_by image q.entry ≡ true
    taking (inl reads) =
        ap (λ b. b || is_endpoint_type (type_at image q.entry.source) && may_write (rights q.entry.rights))
        (subst (λ (r : ℕ). has_right (rights q.entry.rights).0 r ≡ true) reads q.may)
    taking (inr writes) =
        ap₂ (λ (a b : Bool). may_read (rights q.entry.rights) || a && b)
        (ap is_endpoint_type (q.type ∙ ap (λ (k : NewObject). Some k) writes.1))
        (subst (λ (r : ℕ). has_right (rights q.entry.rights).0 r ≡ true) writes.0 q.may)
        ∙ or-last (may_read (rights q.entry.rights))

-- ---- memory

-- untyped memory that a thread was given is a pool
pub memory-pool : (image : Image) (t : Thread) (c : Cap) (first size place : ℕ) → IsGivenTo image t c → IsUntypedAround first size c → first ≤ place
    → place < first + size → OwnPool image t place
memory-pool image t c first size place given u low high = by given
  where
    none-named : {A : Type 0} (kind : NewObject) (offset : ℕ) → object_named c ≡ Some (kind, offset) → A
    none-named kind offset names = absurd (none-some (kind, offset) (sym (ap object_named u.is) ∙ names))

    by : IsGivenTo image t c → OwnPool image t place
    by (listed entry is covers) = none-named covers.kind covers.offset covers.names
    by (made kind offset names around) = none-named kind offset names
    by (handler number entry is lists same) =
        absurd (let e : Untyped u.offset u.bits u.watermark ≡ InterruptHandler number = sym u.is ∙ same in cc)
    by (pool offset bits watermark is around) =
        let e : Untyped u.offset u.bits u.watermark ≡ Untyped offset bits watermark = sym u.is ∙ is in
        let at : u.offset ≡ offset = cc in
        let wide : u.bits ≡ bits = cc in
        let power : 2 ^ u.bits ≡ 2 ^ bits = ap (λ (n : ℕ). 2 ^ n) wide in
        let begins = u.begins in
        let ends = u.ends in
        own-pool image t offset (2 ^ bits) place around (omega (arith, at, begins, low)) (omega (arith, at, power, high, ends))

-- ---- lines

-- a handler that the image lists for the thread
pub record LineListed (image : Image) (t : Thread) (number : ℕ) : Type 0 where
  pub entry : CapabilityEntry
  pub listed : IsListedFor image t entry
  pub place : ℕ
  pub line : InterruptEntry
  pub at : slice_get image.interrupts place ≡ Some line
  pub source : entry.source ≡ image.header.objects + place
  pub is : line.line ≡ number

-- what is a handler apart from rights, is one
limited-handler : (c : Cap) (word payload number : ℕ) → limited c word payload ≡ InterruptHandler number → c ≡ InterruptHandler number
limited-handler Empty w p n is = is
limited-handler (Untyped a b u) w p n is = is
limited-handler (Endpoint a r g) w p n is = absurd (let e : Endpoint a (rights w) p ≡ InterruptHandler n = is in cc)
limited-handler (Notification a r g) w p n is = absurd (let e : Notification a (rights w) p ≡ InterruptHandler n = is in cc)
limited-handler (CNode a r g) w p n is = absurd (let e : CNode a r p ≡ InterruptHandler n = is in cc)
limited-handler (Frame a r f) w p n is = absurd (let e : Frame a (rights w) f ≡ InterruptHandler n = is in cc)
limited-handler (PageTable a f) w p n is = is
limited-handler (Tcb a) w p n is = is
limited-handler (RootTable a) w p n is = is
limited-handler InterruptControl w p n is = is
limited-handler (InterruptHandler m) w p n is = is

abbrev as_handler : Cap → Option ℕ
as_handler (InterruptHandler n) = Some n
as_handler _ = None

mapped-handler : (c : Cap) (m : Option TableMapping) → as_handler (with_table_mapping c m) ≡ as_handler c
mapped-handler Empty m = refl
mapped-handler (Untyped a b u) m = refl
mapped-handler (Endpoint a r g) m = refl
mapped-handler (Notification a r g) m = refl
mapped-handler (CNode a r g) m = refl
mapped-handler (Frame a r f) m = refl
mapped-handler (PageTable a f) m = refl
mapped-handler (Tcb a) m = refl
mapped-handler (RootTable a) m = refl
mapped-handler InterruptControl m = refl
mapped-handler (InterruptHandler n) m = refl

first-handler : (kind : NewObject) (offset : ℕ) → as_handler (first_capability kind offset) ≡ None
first-handler (NewUntyped b) offset = refl
first-handler NewThread offset = refl
first-handler NewEndpoint offset = refl
first-handler NewNotification offset = refl
first-handler (NewCNode r) offset = refl
first-handler NewFrame offset = refl
first-handler NewPageTable offset = refl
first-handler NewRootTable offset = refl

-- no object's capability is a handler
original-none : (image : Image) (source : ℕ) → as_handler (original image source) ≡ None
original-none image source =
    by-table (option_map_or (λ kind. first_capability kind (offset_of image source)) (type_at image source) Empty) ∙ by-kind (type_at image source)
  where
    by-table : (c : Cap) → as_handler (with_table image source c) ≡ as_handler c
    by-table c = elim (find (λ (t : TableEntry). t.table == source) image.tables) as (λ (o : Option TableEntry). as_handler (option_map_or
        (λ t. with_table_mapping c (Some (record { root = offset_of image t.root; region = t.address / page_size / region_pages }))) o c) ≡ as_handler c) [
          | None ↦ refl
          | Some t ↦ mapped-handler c _
        ]

    by-kind : (o : Option NewObject) → as_handler (option_map_or (λ kind. first_capability kind (offset_of image source)) o Empty) ≡ None
    by-kind None = refl
    by-kind (Some kind) = first-handler kind (offset_of image source)

pub line-listed : (image : Image) (t : Thread) (entry : CapabilityEntry) (number : ℕ) → IsListedFor image t entry
    → listed_capability image entry ≡ InterruptHandler number → LineListed image t number
line-listed image t entry number is lists =
    elim (leb_tells image.header.objects entry.source) [
      | inr below ↦ absurd (none-some number (sym (original-none image entry.source) ∙ ap as_handler (sym (chosen false below.0) ∙ same)))
      | inl above ↦ by (slice_get image.interrupts (interrupt_of image entry.source)) refl above.1 (sym (chosen true above.0) ∙ same)
    ]
  where
    same : source_capability image entry.source ≡ InterruptHandler number
    same = limited-handler (source_capability image entry.source) entry.rights entry.payload number lists

    chosen : (b : Bool) → is_handler image entry.source ≡ b → source_capability image entry.source
        ≡ (if b then option_map_or (λ i. InterruptHandler i.line) (slice_get image.interrupts (interrupt_of image entry.source)) Empty
        else original image entry.source)
    chosen b here = ap (λ b. if b then option_map_or (λ i. InterruptHandler i.line) (slice_get image.interrupts (interrupt_of image entry.source)) Empty
        else original image entry.source) here

    by : (o : Option InterruptEntry) → slice_get image.interrupts (interrupt_of image entry.source) ≡ o → image.header.objects ≤ entry.source
        → option_map_or (λ (i : InterruptEntry). InterruptHandler i.line) o Empty ≡ InterruptHandler number → LineListed image t number
    by None at above clash = absurd (let e : Empty ≡ InterruptHandler number = clash in cc)
    by (Some i) at above here = record {
      entry = entry;
      listed = is;
      place = interrupt_of image entry.source;
      line = i;
      at = at;
      source = omega (arith, above);
      is = let e : InterruptHandler i.line ≡ InterruptHandler number = here in cc;
    }

-- whoever holds a handler was given it
pub handler-listed : (image : Image) (t : Thread) (c : Cap) (number : ℕ) → c ≡ InterruptHandler number → IsGivenTo image t c → LineListed image t number
handler-listed image t c number is (listed entry there covers) =
    absurd (none-some (covers.kind, covers.offset) (sym (ap object_named is) ∙ covers.names))
handler-listed image t c number is (made kind offset names around) = absurd (none-some (kind, offset) (sym (ap object_named is) ∙ names))
handler-listed image t c number is (pool offset bits watermark same around) =
    absurd (let e : InterruptHandler number ≡ Untyped offset bits watermark = sym is ∙ same in cc)
handler-listed image t c number is (handler n entry there lists same) =
    line-listed image t entry number there
    (lists ∙ (let e : InterruptHandler n ≡ InterruptHandler number = sym same ∙ is in e))

last-of : (a b c d : Bool) → d ≡ true → (a || b || c || d) ≡ true
last-of true b c d is = refl
last-of false true c d is = refl
last-of false false true d is = refl
last-of false false false d is = is

-- and changes what its line signals
pub line-changes : (image : Image) (t : Thread) (number : ℕ) (l : LineListed image t number) → changes image t l.line.notification ≡ true
unfolding changes
line-changes image t number l =
    let object = l.line.notification in
    let place = contained image.capabilities l.entry l.listed.listed in
    let held : lists image t (λ c. c.source == image.header.objects + l.place) ≡ true =
    any-at (λ c. is_member c.cnode (reached image t) && c.source == image.header.objects + l.place) image.capabilities place.0 l.entry place.1
    (ap₂ (λ (a b : Bool). a && b) l.listed.member (eq-eqb l.entry.source (image.header.objects + l.place) l.source)) in
    last-of (maps image t (λ f. f.frame == object && may_write (rights f.rights))) (lists image t (λ c. c.source == object && changes_by image c))
    (t.header.buffer == object) (acknowledges image t object)
    (any-at (λ i. (i.1).notification == object && lists image t (λ c. c.source == image.header.objects + i.0)) (numbered image.interrupts) l.place
    (l.place, l.line) (numbered-at image.interrupts l.place l.line l.at)
    (ap₂ (λ (a b : Bool). a && b) (eq-eqb object object refl) held))

module _ (bytes : List ℕ) (image : Image) (accepted : IsAccepted bytes image) (s : State) (labels : List Label) (all : AllStand image s labels) where
  -- a line is bound to what the image says
  pub line-bound : (place : ℕ) (i : InterruptEntry) → slice_get image.interrupts place ≡ Some i
      → binding s i.line ≡ Some (record { notification = offset_of image i.notification; badge = i.badge })
  line-bound place i at =
      let fits = accepted.spelled.fits in
      let fitting = is-fitting image fits in
      let few = (fitting.interrupt place i at).line in
      let less : place < image.header.interrupts = subst (λ (n : ℕ). place < n) fitting.interrupts (slice_get_within image.interrupts place i at) in
      ap (λ (radix : ℕ). signal_of (capability_at s.slots (line_slot radix i.line))) all.boot_radix
      ∙ ap (λ (e : Option Entry). signal_of (option_map_or (λ x. x.capability) e Empty))
      (boot-kept image fits accepted.formed s labels all (line_slot image.header.boot_radix i.line) (omega (arith, few))
      ∙ from-loaded image (line_slot image.header.boot_radix i.line) _ fitting ((boot-holds image fits accepted.formed).binding place i less at))

-- two lines of one number are one
pub one-line : (image : Image) → IsFitting image → (p q : ℕ) (i j : InterruptEntry) → slice_get image.interrupts p ≡ Some i
    → slice_get image.interrupts q ≡ Some j → i.line ≡ j.line → i ≡ j
one-line image fitting p q i j first second same = elim (cases_order p q) [
  | inl here ↦ same_Some i j (sym first ∙ ap (slice_get image.interrupts) here ∙ second)
  | inr (inl below) ↦ absurd (let less = fitting.lines_rise p q i j below first second in omega (arith, less, same))
  | inr (inr above) ↦ absurd (let less = fitting.lines_rise q p j i above second first in omega (arith, less, same))
]
