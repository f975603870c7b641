-- Which object of the image lies around a place, and in whose pool a place is.
use Rattle.std.proofs.Common.{ℕ, zero, suc, ◌≡◌, ◌∙◌, ◌==◌, ◌+◌, ◌^◌, ◌<◌, ◌≤◌, ◌&&◌, ◌||◌, ◌⊎◌, inl, inr, Bool, true, false, List, [], ◌∷◌, take}
use Rattle.std.proofs.Common.{if◌then◌else◌, Option, Some, None, pow_pos, refl, sym, ap, subst, arith}
use Rattle.std.specs.Prelude.{Contains, nat_lt, slice_get}
use Rattle.std.specs.Option.{option_map_or}
use Rattle.std.specs.List.{list_any}
use Rattle.std.proofs.lemmas.Bool.{and_parts, cases_order, eq-eqb, eqb-true, false≢true, lt-leb, ltb-true, ne_eqb, or_parts}
use Rattle.std.proofs.lemmas.Bool.Decides.{eqb_tells}
use Rattle.std.proofs.lemmas.Option.{none-some, same_Some, slice_get-get_or}
use Rattle.format_laws.proofs.Laws.{is-fitting}
use Rattle.model.proofs.SlotChanges.{bounds-within}
use Rattle.model.specs.declared.entries.CapabilityEntry.{CapabilityEntry}
use Rattle.model.specs.declared.entries.FrameEntry.{FrameEntry}
use Rattle.model.specs.Acceptance.Accepted.{IsAccepted}
use Rattle.model.specs.Acceptance.Authority.{IsOwnSlot}
use Rattle.model.specs.Acceptance.NotedKernel.{slots_of_cnode, stands_in}
use Rattle.model.specs.Acceptance.ThreadRules.{is_member, reached}
use Rattle.model.specs.Acceptance.WellFormed.{is_endpoint_type, is_frame_type, is_listed_before, is_thread_type, is_untyped_type}
use Rattle.model.specs.Acceptance.WellFormed.{may_have, radix_of, source_type}
use Rattle.model.specs.Capabilities.Rights.{may_read, may_write, rights}
use Rattle.model.specs.Images.Described.{Numbered, numbered_threads}
use Rattle.model.specs.Images.Image.{Image, Thread, no_buffer}
use Rattle.model.specs.Images.Places.{bits_of, cnode_slot, object_at, offset_of, type_at}
use Rattle.model.specs.Kernel.Retype.{NewObject, NewUntyped, NewThread, NewEndpoint, NewNotification, NewCNode, NewFrame, NewPageTable, NewRootTable}
use Rattle.model.specs.Kernel.Retype.{object_bits}
use Rattle.soundness.specs.boot_laws.Standing.{StandApart}
use Rattle.soundness.proofs.Laws.{are-formed, buffer-kept, frame-type, source-untyped, stand-apart}
use Rattle.thread_spaces.proofs.Laws.{member-any}
use Rattle.headline.proofs.Laws.{is-listed, one-owner}
use Rattle.headline.specs.parts.Given.{IsListedFor, IsPoolAround}
use Rattle.headline.specs.parts.Parts.{lists, maps, takes, takes_by}
use Rattle.part_laws.proofs.changes.Members.{some-passes}
use Rattle.part_laws.proofs.outside.Listed.{first-memory, memory-limited, memory-mapped, memory_of, source-of}

-- ---- objects

-- the place is one of the object's bytes
pub record CoveredBy (image : Image) (place object : ℕ) : Type 0 where
  pub inside : object < image.header.objects
  pub low : offset_of image object ≤ place
  pub high : place < offset_of image object + 2 ^ bits_of (object_at image object)

pub covered-first : (image : Image) (object offset : ℕ) → object < image.header.objects → offset ≡ offset_of image object → CoveredBy image offset object
covered-first image object offset less at = record {
  inside = less;
  low = omega (arith, at);
  high = let size = pow_pos (bits_of (object_at image object)) in omega (arith, size, at);
}

pub one-object : (image : Image) → StandApart image → (place a b : ℕ) → CoveredBy image place a → CoveredBy image place b → a ≡ b
one-object image apart place a b first second = elim (eqb_tells a b) [
  | inl here ↦ here.1
  | inr other ↦
      let low = first.low in
      let high = first.high in
      let from = second.low in
      let end = second.high in
      elim (apart.apart a b first.inside second.inside other.1) [
        | inl before ↦ absurd (omega (arith, before, high, from))
        | inr behind ↦ absurd (omega (arith, behind, end, low))
      ]
]

-- ---- pools

pub record OwnPool (image : Image) (t : Thread) (place : ℕ) : Type 0 where
  pub entry : CapabilityEntry
  pub listed : IsListedFor image t entry
  pub untyped : is_untyped_type (type_at image entry.source) ≡ true
  pub covers : CoveredBy image place entry.source

pub own-pool : (image : Image) (t : Thread) (first size place : ℕ) → IsPoolAround image t first size → first ≤ place → place < first + size
    → OwnPool image t place
own-pool image t first size place p low high =
    let u = p.around in
    let of = source-of memory_of memory-limited memory-mapped refl (λ n. refl) image p.entry (u.offset, u.bits) (ap memory_of u.is) in
    let is = first-memory of.kind (offset_of image p.entry.source) u.offset u.bits of.is in
    let type : type_at image p.entry.source ≡ Some (NewUntyped u.bits) = of.type ∙ ap (λ (k : NewObject). Some k) is.0 in
    let power : 2 ^ bits_of (object_at image p.entry.source) ≡ 2 ^ u.bits = ap (λ (o : Option NewObject). 2 ^ option_map_or object_bits o 0) type in
    let begins = u.begins in
    let ends = u.ends in
    let at = is.1 in
    record {
      entry = p.entry;
      listed = p.listed;
      untyped = ap is_untyped_type type;
      covers = record { inside = of.object; low = omega (arith, at, begins, low); high = omega (arith, at, power, high, ends) };
    }

-- a pool around a piece is around its first byte
pub pool-first : (image : Image) (t : Thread) (first bits place : ℕ) → IsPoolAround image t first (2 ^ bits) → place ≡ first → IsPoolAround image t place 1
pool-first image t first bits place p at = record {
  entry = p.entry;
  listed = p.listed;
  around = record {
    offset = p.around.offset;
    bits = p.around.bits;
    watermark = p.around.watermark;
    is = p.around.is;
    begins = let low = p.around.begins in omega (arith, low, at);
    ends = let high = p.around.ends in let size = pow_pos bits in omega (arith, high, size, at);
  };
}

-- all before a place in a list fail
pub before-fails : {A : Type 0} (test : A → Bool) (xs : List A) (n k : ℕ) (x : A) → list_any test (take n xs) ≡ false → k < n → slice_get xs k ≡ Some x
    → test x ≡ false
before-fails test xs zero k x none less at = absurd (omega (arith, less))
before-fails test [] (suc n) k x none less at = absurd (none-some x at)
before-fails test (y ∷ ys) (suc n) zero x none less at =
    ap test (sym (same_Some y x at)) ∙ (or_parts (test y) (list_any test (take n ys)) none).0
before-fails test (y ∷ ys) (suc n) (suc k) x none less at =
    before-fails test ys n k x (or_parts (test y) (list_any test (take n ys)) none).1 (omega (arith, less)) at

-- what a list contains has a place in it
pub contained : {A : Type 0} (xs : List A) (x : A) → Contains xs x → (k : ℕ) × (slice_get xs k ≡ Some x)
contained xs x there = (there.0, slice_get-get_or xs there.0 x there.1 ∙ ap (λ y. Some y) there.2)

-- an index of a CNode is one of its slots
in-cnode : (radix : Option ℕ) (index : ℕ) → option_map_or (λ r. nat_lt index (2 ^ r)) radix false ≡ true → index < option_map_or (λ r. 2 ^ r) radix 0
in-cnode None index is = absurd (false≢true is)
in-cnode (Some r) index is = ltb-true index (2 ^ r) is

module _ (bytes : List ℕ) (image : Image) (accepted : IsAccepted bytes image) where
  -- untyped memory is listed once
  once : (i j : ℕ) (c d : CapabilityEntry) → slice_get image.capabilities i ≡ Some c → slice_get image.capabilities j ≡ Some d → c.source ≡ d.source
      → is_untyped_type (type_at image d.source) ≡ true → i < j → ⊥
  once i j c d first second same untyped less =
      let kept = (are-formed image accepted.formed).capability j d second in
      let source : is_untyped_type (source_type image d.source) ≡ true =
      sym (source-untyped image d.source (is-fitting image accepted.spelled.fits)) ∙ untyped in
      let none : is_listed_before image j d.source ≡ false = sym (ap (λ b. b && is_listed_before image j d.source) source) ∙ kept.once in
      false≢true (sym (before-fails (λ (e : CapabilityEntry). e.source == d.source) image.capabilities j i c none less first)
      ∙ eq-eqb c.source d.source same)

  -- the slot that lists a capability is the thread's own
  pub entry-own : (t : Thread) (entry : CapabilityEntry) → IsListedFor image t entry → IsOwnSlot image t (cnode_slot image entry.cnode entry.index)
  entry-own t entry is =
      let place = contained image.capabilities entry is.listed in
      let kept = (are-formed image accepted.formed).capability place.0 entry place.1 in
      let inside : entry.index < slots_of_cnode image entry.cnode = in-cnode (radix_of (type_at image entry.cnode)) entry.index kept.slot in
      member-any (stands_in image (cnode_slot image entry.cnode entry.index)) (reached image t) entry.cnode is.member
      (bounds-within (cnode_slot image entry.cnode 0) (slots_of_cnode image entry.cnode) (cnode_slot image entry.cnode entry.index) (omega arith)
      (omega (arith, inside)))

  same-entry : (p q : CapabilityEntry) → Contains image.capabilities p → Contains image.capabilities q → p.source ≡ q.source
      → is_untyped_type (type_at image p.source) ≡ true → is_untyped_type (type_at image q.source) ≡ true → p ≡ q
  same-entry p q first second same one two =
      let a = contained image.capabilities p first in
      let b = contained image.capabilities q second in
      elim (cases_order a.0 b.0) [
        | inl here ↦ same_Some p q (sym a.1 ∙ ap (slice_get image.capabilities) here ∙ b.1)
        | inr (inl below) ↦ absurd (once a.0 b.0 p q a.1 b.1 same two below)
        | inr (inr above) ↦ absurd (once b.0 a.0 q p b.1 a.1 (sym same) one above)
      ]

  -- a place is in one thread's pools alone
  pub pool-owner : (t u : Numbered) (place : ℕ) → Contains (numbered_threads image) t → Contains (numbered_threads image) u
      → OwnPool image t.thread place → OwnPool image u.thread place → t ≡ u
  pool-owner t u place first second here there =
      let apart = stand-apart image accepted.spelled.fits accepted.formed in
      let source = one-object image apart place here.entry.source there.entry.source here.covers there.covers in
      let same : here.entry ≡ there.entry =
      same-entry here.entry there.entry here.listed.listed there.listed.listed source here.untyped there.untyped in
      one-owner image accepted.spelled.fits accepted.formed t u (cnode_slot image here.entry.cnode here.entry.index) first second
      (entry-own t.thread here.entry here.listed)
      (subst (λ (e : CapabilityEntry). IsOwnSlot image u.thread (cnode_slot image e.cnode e.index)) (sym same) (entry-own u.thread there.entry there.listed))

-- ---- what is taken is neither untyped memory nor a thread

pub either-true : (a b : Bool) → (a || b) ≡ true → (a ≡ true) ⊎ (b ≡ true)
either-true true b is = inl refl
either-true false b is = inr is

abbrev pub IsPlain : Option NewObject → Type 0
IsPlain kind = (is_untyped_type kind ≡ false) × (is_thread_type kind ≡ false)

frame-plain : (kind : Option NewObject) → kind ≡ Some NewFrame → IsPlain kind
frame-plain kind is = (ap is_untyped_type is, ap is_thread_type is)

-- untyped memory has no rights, and a thread is no source
entry-plain : (kind : Option NewObject) (bits payload : ℕ) → may_have kind bits payload ≡ true → is_thread_type kind ≡ false
    → (may_read (rights bits) || is_endpoint_type kind && may_write (rights bits)) ≡ true → IsPlain kind
entry-plain None bits payload held no_thread taken = (refl, refl)
entry-plain (Some NewEndpoint) bits payload held no_thread taken = (refl, refl)
entry-plain (Some NewNotification) bits payload held no_thread taken = (refl, refl)
entry-plain (Some NewFrame) bits payload held no_thread taken = (refl, refl)
entry-plain (Some (NewCNode radix)) bits payload held no_thread taken = (refl, refl)
entry-plain (Some NewPageTable) bits payload held no_thread taken = (refl, refl)
entry-plain (Some NewRootTable) bits payload held no_thread taken = (refl, refl)
entry-plain (Some NewThread) bits payload held no_thread taken = absurd (false≢true (sym no_thread))
entry-plain (Some (NewUntyped size)) bits payload held no_thread taken =
    let none : bits ≡ 0 = eqb-true bits 0 (and_parts (bits == 0) (payload == 0) held).0 in
    absurd (false≢true (sym (ap (λ (n : ℕ). may_read (rights n) || false && may_write (rights n)) none) ∙ taken))

module _ (bytes : List ℕ) (image : Image) (accepted : IsAccepted bytes image) (t : Numbered) (listed : Contains (numbered_threads image) t) (object : ℕ)
    (inside : object < image.header.objects) where
  by-map : maps image t.thread (λ f. f.frame == object) ≡ true → IsPlain (type_at image object)
  by-map is =
      let of = some-passes (λ (f : FrameEntry). f.root == t.thread.header.root && f.frame == object) image.frames is in
      let same : of.entry.frame ≡ object =
      eqb-true of.entry.frame object (and_parts (of.entry.root == t.thread.header.root) (of.entry.frame == object) of.is).1 in
      let kept = (are-formed image accepted.formed).frame of.place of.entry of.at in
      frame-plain (type_at image object)
      (frame-type (type_at image object) (ap (λ (n : ℕ). is_frame_type (type_at image n)) (sym same) ∙ kept.frame))

  by-list : lists image t.thread (λ c. c.source == object && takes_by image c) ≡ true → IsPlain (type_at image object)
  by-list is =
      let of = some-passes (λ (c : CapabilityEntry). is_member c.cnode (reached image t.thread) && (c.source == object && takes_by image c))
      image.capabilities is in
      let c = of.entry in
      let rest = (and_parts (is_member c.cnode (reached image t.thread)) (c.source == object && takes_by image c) of.is).1 in
      let parts = and_parts (c.source == object) (takes_by image c) rest in
      let same : c.source ≡ object = eqb-true c.source object parts.0 in
      let kept = (are-formed image accepted.formed).capability of.place c of.at in
      let kind : source_type image c.source ≡ type_at image object =
      ap (source_type image) same ∙ ap (λ b. if b then None else type_at image object) (lt-leb image.header.objects object inside) in
      entry-plain (type_at image object) c.rights c.payload (ap (λ (k : Option NewObject). may_have k c.rights c.payload) (sym kind) ∙ kept.held)
      (ap is_thread_type (sym kind) ∙ kept.no_thread)
      (ap (λ (n : ℕ). may_read (rights c.rights) || is_endpoint_type (type_at image n) && may_write (rights c.rights)) (sym same) ∙ parts.1)

  by-buffer : (t.thread.header.buffer == object) ≡ true → IsPlain (type_at image object)
  by-buffer is =
      let same : t.thread.header.buffer ≡ object = eqb-true t.thread.header.buffer object is in
      let few = (is-fitting image accepted.spelled.fits).header.objects in
      let at = is-listed image t listed in
      let kept = buffer-kept image at.number t.thread ((are-formed image accepted.formed).thread at.number t.thread at.listed)
      (ne_eqb t.thread.header.buffer no_buffer (λ none. omega (arith, none, same, few, inside))) in
      frame-plain (type_at image object)
      (frame-type (type_at image object) (ap (λ (n : ℕ). is_frame_type (type_at image n)) (sym same) ∙ kept.frame))

  pub taken-plain : takes image t.thread object ≡ true → IsPlain (type_at image object)
  unfolding takes
  taken-plain is =
      elim (either-true (maps image t.thread (λ f. f.frame == object) || lists image t.thread (λ c. c.source == object && takes_by image c))
      (t.thread.header.buffer == object) is) [
        | inr buffer ↦ by-buffer buffer
        | inl rest ↦ elim (either-true (maps image t.thread (λ f. f.frame == object)) (lists image t.thread (λ c. c.source == object && takes_by image c))
            rest) [
              | inl mapped ↦ by-map mapped
              | inr held ↦ by-list held
            ]
      ]
