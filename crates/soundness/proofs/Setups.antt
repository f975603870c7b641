-- Setting up: capabilities without a parent, and the bytes of frames.
use Rattle.std.proofs.Common.{ℕ, ◌≡◌, ◌≢◌, ◌∙◌, ◌==◌, ◌&&◌, ◌+◌, ◌-◌, ◌%◌, ◌^◌, ◌<◌, ◌≤◌, inl, inr, Bool, true, false, not, is_some, nat_le, nat_lt}
use Rattle.std.proofs.Common.{if◌then◌else◌, get_or, length, List, Option, Some, None, option_map, refl, sym, ap, subst, arith}
use Rattle.std.specs.Prelude.{All, slice_index}
use Rattle.std.specs.Option.{option_map_or}
use Rattle.std.proofs.lemmas.Bool.{and_parts, cases_lt, eqb-true, leb-true, ltb-false, ltb-true, not-true}
use Rattle.std.proofs.lemmas.Bool.Decides.{eqb_tells}
use Rattle.std.proofs.lemmas.List.{get_or_past}
use Rattle.std.proofs.lemmas.List.Elements.{All-get_or}
use Rattle.std.proofs.Math.Pow.{pow_mono}
use Rattle.std.proofs.lemmas.Nat.{pow_pos}
use Rattle.model.proofs.Derivations.{derivation-inserted}
use Rattle.model.proofs.SlotChanges.{capability_of, entry-other, entry-same, full-not-empty, parent_of}
use Rattle.model.specs.declared.capabilities.Cap.{Cap}
use Rattle.model.specs.declared.capabilities.Cap.TheVariants.{Empty, Untyped, Endpoint, Notification, CNode, Frame, PageTable, Tcb, RootTable, InterruptControl}
use Rattle.model.specs.declared.capabilities.Cap.TheVariants.{InterruptHandler}
use Rattle.model.specs.declared.capabilities.TableMapping.{TableMapping}
use Rattle.model.specs.declared.slot_entries.Entry.{Entry}
use Rattle.model.specs.Capabilities.CapabilityKinds.{frame_mapping, table_mapping}
use Rattle.model.specs.Capabilities.CapabilityWords.{IsCapability}
use Rattle.model.specs.Capabilities.Slots.{Descendant, child, deeper, IsDerivation, IsFull, Slots, capability_at, empty_entry, inserted, is_empty, is_full}
use Rattle.model.specs.Capabilities.Slots.{is_within, parent_at}
use Rattle.model.specs.Kernel.AddressSpaces.{page_size}
use Rattle.model.specs.Kernel.Kinds.{AreApart, Names, Piece, kind_at, object_named, piece_of, used_of}
use Rattle.model.specs.Kernel.Retype.{NewObject, object_bits}
use Rattle.model.specs.Kernel.Setup.{fill, is_frame_object, is_free_boot_slot, may_be_untyped, memory_end, put_control, put_in_boot_slot, put_untyped}
use Rattle.model.specs.Kernel.Setup.{with_first_bytes}
use Rattle.model.specs.Kernel.Soundness.{IsSound, MemoryIsSound, Lies, apart, same, within, around}
use Rattle.model.specs.Kernel.State.{State, boot_area_end, holds_some, with_slots}
use Rattle.soundness.proofs.Bytes.{bytes-whole}
use Rattle.soundness.proofs.Carried.{CarriesMappings, full-near, full-unless, held-at, mappings-carried, shape-carried, slots-carried, threads-carried}
use Rattle.soundness.proofs.Inserted.{empty-open}
use Rattle.soundness.proofs.Pieces.{named-piece}
use Rattle.soundness.proofs.Places.{IsPlain, MayHold, of_boot_cnode, full-may_hold, plain-may_hold, plain-open}

-- ---- a capability without a parent

-- what is asked of it: it names no object, and its memory lies apart from all other
pub record Roots (s : State) (slot : ℕ) (capability : Cap) : Type 0 where
  pub empty : s.slots slot ≡ Some empty_entry
  pub valid : IsCapability capability
  pub filled : is_empty capability ≡ false
  pub object : object_named capability ≡ None
  pub frame : frame_mapping capability ≡ None
  pub table : table_mapping capability ≡ None
  pub no_table : (offset : ℕ) (m : Option TableMapping) → capability ≢ PageTable offset m
  pub may : MayHold s slot capability
  pub inside : (p : Piece) → piece_of capability ≡ Some p → (boot_area_end s.boot_radix ≤ p.first) × (p.first + p.size ≤ 2 ^ s.memory_bits)
  pub alone : (p q : Piece) (x : ℕ) → piece_of capability ≡ Some p → piece_of (capability_at s.slots x) ≡ Some q → AreApart p q

module _ (s : State) (slot : ℕ) (capability : Cap) (sound : IsSound s) (roots : Roots s slot capability) where
  abbrev old : Slots
  old = s.slots

  new : Slots
  new = inserted s.slots slot capability None

  held-here : new slot ≡ Some (record { capability = capability; parent = None })
  unfolding new
  held-here = entry-same s.slots slot (Some (record { capability = capability; parent = None }))

  held-other : (x : ℕ) → x ≢ slot → new x ≡ old x
  unfolding new
  held-other x other = entry-other s.slots slot (Some (record { capability = capability; parent = None })) x other

  either : (P : ℕ → Type 0) → P slot → ((x : ℕ) → x ≢ slot → P x) → (x : ℕ) → P x
  either P at other x = elim (eqb_tells x slot) [ inl here ↦ subst P (sym here.1) at | inr apart_x ↦ other x apart_x.1 ]

  not-full : (x : ℕ) → IsFull old x → x ≢ slot
  not-full x full e = full-not-empty s.slots x slot full roots.empty e

  tree : IsDerivation new
  unfolding new
  tree =
      derivation-inserted s.slots slot capability None sound.slots.derivation roots.empty roots.valid
      (λ e. let clash : false ≡ true = sym roots.filled ∙ ap is_empty e in cc) (λ p e. let clash : None ≡ Some p = e in absurd cc)
      (λ p e. let clash : None ≡ Some p = e in absurd cc)

  parent-still : (x up : ℕ) → parent_at old x ≡ Some up → parent_at new x ≡ Some up
  parent-still x up is = ap parent_of (held-other x (not-full x (sound.slots.derivation.child_full x up is))) ∙ is

  descends-still : (root x : ℕ) → Descendant old root x → Descendant new root x
  descends-still root x (child _ is) = child x (parent-still x root is)
  descends-still root x (deeper _ up is below) = deeper x up (parent-still x up is) (descends-still root up below)

  capability-here : capability_at new slot ≡ capability
  capability-here = ap capability_of held-here

  capability-other : (x : ℕ) → x ≢ slot → capability_at new x ≡ capability_at old x
  capability-other x other = ap capability_of (held-other x other)

  lies-both : (a b : ℕ) (p q : Piece) → capability_at new a ≡ capability_at old a → capability_at new b ≡ capability_at old b
      → Lies old a b p q → Lies new a b p q
  lies-both a b p q one other (apart is) = apart is
  lies-both a b p q one other (same k o first_named second_named) = same k o (ap object_named one ∙ first_named) (ap object_named other ∙ second_named)
  lies-both a b p q one other (within used is inside below) = within used (ap used_of other ∙ is) inside (descends-still b a below)
  lies-both a b p q one other (around used is inside below) = around used (ap used_of one ∙ is) inside (descends-still a b below)

  no-object : (x : ℕ) (k : NewObject) (o : ℕ) → x ≡ slot → Names k o (capability_at new x) → ⊥
  no-object x k o at names =
      let e : ◌≡◌ {A = Option (NewObject × ℕ)} None (Some (k, o)) = sym roots.object ∙ ap object_named (sym capability-here)
      ∙ ap (λ (y : ℕ). object_named (capability_at new y)) (sym at) ∙ names in cc

  here-piece : (x : ℕ) (p : Piece) → x ≡ slot → piece_of (capability_at new x) ≡ Some p → piece_of capability ≡ Some p
  here-piece x p at is = ap piece_of (sym capability-here) ∙ ap (λ (y : ℕ). piece_of (capability_at new y)) (sym at) ∙ is

  memory : MemoryIsSound (with_slots s new)
  memory = record {
    inside = λ x p is. elim (eqb_tells x slot) [
      | inl here ↦ roots.inside p (here-piece x p here.1 is)
      | inr other ↦ sound.memory.inside x p (ap piece_of (sym (capability-other x other.1)) ∙ is)
    ];
    lies = λ a b p q differ one other. elim (eqb_tells a slot) [
      | inl here ↦ apart (roots.alone p q b (here-piece a p here.1 one) (ap piece_of (sym (capability-other b (λ e. differ (here.1 ∙ sym e)))) ∙ other))
      | inr a_other ↦ elim (eqb_tells b slot) [
        | inl here ↦ apart (elim (roots.alone q p a (here-piece b q here.1 other) (ap piece_of (sym (capability-other a a_other.1)) ∙ one))
            [ inl before ↦ inr before | inr behind ↦ inl behind ])
        | inr b_other ↦
            lies-both a b p q (capability-other a a_other.1) (capability-other b b_other.1)
            (sound.memory.lies a b p q differ (ap piece_of (sym (capability-other a a_other.1)) ∙ one)
            (ap piece_of (sym (capability-other b b_other.1)) ∙ other))
      ]
    ];
    named = λ x k o is. elim (eqb_tells x slot) [
      | inl here ↦ absurd (no-object x k o here.1 is)
      | inr other ↦ sound.memory.named x k o (ap object_named (sym (capability-other x other.1)) ∙ is)
    ];
    live = λ o k is.
        let name = sound.memory.live o k is in
        let other = not-full name.0 (full-unless (capability_at old name.0) object_named (k, o) refl name.1) in
        (name.0, ap object_named (capability-other name.0 other) ∙ name.1);
    bytes = sound.memory.bytes;
    small = sound.memory.small;
  }

  maps : CarriesMappings old new (λ x. x)
  maps = record {
    frame = λ x m. either (λ x. frame_mapping (capability_at new x) ≡ Some m → frame_mapping (capability_at old x) ≡ Some m)
        (λ is. let clash : None ≡ Some m = sym roots.frame ∙ ap frame_mapping (sym capability-here) ∙ is in absurd cc)
        (λ x other is. ap frame_mapping (sym (capability-other x other)) ∙ is) x;
    table = either (λ x. table_mapping (capability_at new x) ≡ table_mapping (capability_at old x))
        (ap table_mapping capability-here ∙ roots.table ∙ sym (ap (λ (o : Option Entry). table_mapping (capability_of o)) roots.empty))
        (λ x other. ap table_mapping (capability-other x other));
    page_table = λ x offset m. either (λ x. capability_at new x ≡ PageTable offset m → capability_at old x ≡ PageTable offset m)
        (λ is. absurd (roots.no_table offset m (sym capability-here ∙ is))) (λ x other is. sym (capability-other x other) ∙ is) x;
    one_frame = λ a b m n twin one other. twin;
    one_table = λ a b offset m twin is. twin;
  }

  open-still : (x : ℕ) → is_some (new x) ≡ is_some (old x)
  open-still = either (λ x. is_some (new x) ≡ is_some (old x)) (ap is_some held-here ∙ sym (ap is_some roots.empty))
      (λ x other. ap is_some (held-other x other))

  may-still : (x : ℕ) → IsFull new x → MayHold s x (capability_at new x)
  may-still = either (λ x. IsFull new x → MayHold s x (capability_at new x)) (λ _. subst (MayHold s slot) (sym capability-here) roots.may)
      (λ x other full. subst (MayHold s x) (sym (capability-other x other))
      (full-may_hold s sound.slots x (subst (λ (c : Cap). not (is_empty c) ≡ true) (capability-other x other) full)))

  pub rooted-sound : IsSound (with_slots s (inserted s.slots slot capability None))
  unfolding new
  rooted-sound =
      let slots = slots-carried s new sound.slots tree open-still may-still in
      let shape = shape-carried s new sound.shape in
      record {
        shape = shape;
        slots = slots;
        memory = memory;
        mappings = mappings-carried s new (λ x. x) sound.mappings (λ x full. full-near (with_slots s new) shape slots memory x full) (λ x _. (x, refl)) maps;
        threads = threads-carried s new sound.threads;
      }

-- ---- boot slots

record IsFreeSlot (s : State) (slot : ℕ) (capability : Cap) (t : State) : Type 0 where
  free : is_free_boot_slot s slot ≡ true
  is : with_slots s (inserted s.slots slot capability None) ≡ t

put-parts : (s : State) (slot : ℕ) (capability : Cap) (t : State) → put_in_boot_slot s slot capability ≡ Some t → IsFreeSlot s slot capability t
put-parts s slot capability t is =
    elim (is_free_boot_slot s slot) as (λ b. is_free_boot_slot s slot ≡ b →
    (if b then Some (with_slots s (inserted s.slots slot capability None)) else None) ≡ Some t → IsFreeSlot s slot capability t) [
      | true ↦ λ free so. record { free = free; is = cc so }
      | false ↦ λ _ so. let e : None ≡ Some t = so in absurd cc
    ] refl is

free-plain : (s : State) (slot : ℕ) → is_free_boot_slot s slot ≡ true → IsPlain s slot × (is_full s.slots slot ≡ false)
free-plain s slot free =
    let parts = and_parts (nat_lt slot (2 ^ s.boot_radix)) (not (is_full s.slots slot)) free in
    (of_boot_cnode (ltb-true slot (2 ^ s.boot_radix) parts.0), not-true (is_full s.slots slot) parts.1)

free-empty : (s : State) (slot : ℕ) → IsSound s → is_free_boot_slot s slot ≡ true → s.slots slot ≡ Some empty_entry
free-empty s slot sound free =
    let parts = free-plain s slot free in empty-open s.slots slot sound.slots.derivation (plain-open s sound.slots slot parts.0) parts.1

-- ---- interrupt control

pub control-whole : (s t : State) (slot : ℕ) → IsSound s → put_control s slot ≡ Some t → IsSound t
unfolding put_control
control-whole s t slot whole is =
    let parts = put-parts s slot InterruptControl t is in
    let free = IsFreeSlot.free parts in
    subst IsSound (IsFreeSlot.is parts) (rooted-sound s slot InterruptControl whole (record {
      empty = free-empty s slot whole free;
      valid = tt;
      filled = refl;
      object = refl;
      frame = refl;
      table = refl;
      no_table = λ offset m e. let clash : InterruptControl ≡ PageTable offset m = e in cc;
      may = plain-may_hold s whole.memory slot InterruptControl (free-plain s slot free).0;
      inside = λ p e. let clash : None ≡ Some p = e in absurd cc;
      alone = λ p q x e. let clash : None ≡ Some p = e in absurd cc;
    }))

-- ---- untyped memory

piece-full : (c : Cap) (q : Piece) → piece_of c ≡ Some q → not (is_empty c) ≡ true
piece-full c q is = full-unless c piece_of q refl is

record IsUntypedPlace (s : State) (offset bits : ℕ) : Type 0 where
  least : 4 ≤ bits
  most : bits ≤ 24
  aligned : offset % 2 ^ bits ≡ 0
  inside : offset + 2 ^ bits ≤ 2 ^ s.memory_bits
  behind : boot_area_end s.boot_radix ≤ offset
  last : holds_some s (λ capability. nat_lt offset (memory_end capability)) ≡ false

untyped-place : (s : State) (offset bits : ℕ) → may_be_untyped s offset bits ≡ true → IsUntypedPlace s offset bits
untyped-place s offset bits is =
    let others = holds_some s (λ capability. nat_lt offset (memory_end capability)) in
    let a = nat_le 4 bits in
    let b = nat_le bits 24 in
    let c = offset % 2 ^ bits == 0 in
    let d = nat_le (offset + 2 ^ bits) (2 ^ s.memory_bits) in
    let e = nat_le (boot_area_end s.boot_radix) offset in
    let five = and_parts (a && b && c && d && e) (not others) is in
    let four = and_parts (a && b && c && d) e five.0 in
    let three = and_parts (a && b && c) d four.0 in
    let two = and_parts (a && b) c three.0 in
    let one = and_parts a b two.0 in
    record {
      least = leb-true 4 bits one.0;
      most = leb-true bits 24 one.1;
      aligned = eqb-true (offset % 2 ^ bits) 0 two.1;
      inside = leb-true (offset + 2 ^ bits) (2 ^ s.memory_bits) three.1;
      behind = leb-true (boot_area_end s.boot_radix) offset four.1;
      last = not-true others five.1;
    }

-- no other memory reaches beyond where it begins
ends-before : (s : State) (offset x : ℕ) (q : Piece) → IsSound s → holds_some s (λ capability. nat_lt offset (memory_end capability)) ≡ false
    → piece_of (capability_at s.slots x) ≡ Some q → q.first + q.size ≤ offset
ends-before s offset x q sound last is =
    let c = capability_at s.slots x in
    let end : memory_end c ≡ q.first + q.size = ap (λ (o : Option Piece). option_map_or (λ (p : Piece). p.first + p.size) o 0) is in
    elim (nat_lt offset (memory_end c)) as (λ b. nat_lt offset (memory_end c) ≡ b → q.first + q.size ≤ offset) [
      | true ↦ λ more.
          let there = held-at s (λ capability. nat_lt offset (memory_end capability)) x (full-near s sound.shape sound.slots sound.memory x (piece-full c q is))
          more in
          absurd (let clash : true ≡ false = sym there ∙ last in cc)
      | false ↦ λ less. let below = ltb-false offset (memory_end c) less in omega (arith, below, end)
    ] refl

untyped-whole : (s t : State) (slot offset bits : ℕ) → IsSound s → may_be_untyped s offset bits ≡ true
    → put_in_boot_slot s slot (Untyped offset bits 0) ≡ Some t → IsSound t
untyped-whole s t slot offset bits whole fits is =
    let parts = put-parts s slot (Untyped offset bits 0) t is in
    let free = IsFreeSlot.free parts in
    let place = untyped-place s offset bits fits in
    let own : Piece = record { first = offset; size = 2 ^ bits } in
    let inside = IsUntypedPlace.inside place in
    let one = pow_pos bits in
    let most : 2 ^ s.memory_bits ≤ 2 ^ 24 = pow_mono whole.shape.most_bits in
    subst IsSound (IsFreeSlot.is parts) (rooted-sound s slot (Untyped offset bits 0) whole (record {
      empty = free-empty s slot whole free;
      valid = ((IsUntypedPlace.aligned place, omega (arith, inside, one, most)), IsUntypedPlace.least place, IsUntypedPlace.most place, omega arith);
      filled = refl;
      object = refl;
      frame = refl;
      table = refl;
      no_table = λ o m e. let clash : Untyped offset bits 0 ≡ PageTable o m = e in cc;
      may = plain-may_hold s whole.memory slot (Untyped offset bits 0) (free-plain s slot free).0;
      inside = λ p e.
          let f : own ≡ p = cc e in
          subst (λ (p : Piece). (boot_area_end s.boot_radix ≤ p.first) × (p.first + p.size ≤ 2 ^ s.memory_bits)) f
          (IsUntypedPlace.behind place, IsUntypedPlace.inside place);
      alone = λ p q x e other.
          let f : own ≡ p = cc e in
          subst (λ (p : Piece). AreApart p q) f (inr (ends-before s offset x q whole (IsUntypedPlace.last place) other));
    }))

untyped-fits : (s t : State) (slot offset bits : ℕ) → put_untyped s slot offset bits ≡ Some t
    → (may_be_untyped s offset bits ≡ true) × (put_in_boot_slot s slot (Untyped offset bits 0) ≡ Some t)
unfolding put_untyped
untyped-fits s t slot offset bits is =
    elim (may_be_untyped s offset bits) as (λ b. may_be_untyped s offset bits ≡ b →
    (if b then put_in_boot_slot s slot (Untyped offset bits 0) else None) ≡ Some t
    → (may_be_untyped s offset bits ≡ true) × (put_in_boot_slot s slot (Untyped offset bits 0) ≡ Some t)) [
      | true ↦ λ fits so. (fits, so)
      | false ↦ λ _ so. let e : None ≡ Some t = so in absurd cc
    ] refl is

pub put_untyped-whole : (s t : State) (slot offset bits : ℕ) → IsSound s → put_untyped s slot offset bits ≡ Some t → IsSound t
put_untyped-whole s t slot offset bits whole is =
    let fits = untyped-fits s t slot offset bits is in untyped-whole s t slot offset bits whole fits.0 fits.1

-- an object has a capability, and so ends before it
pub behind-objects : (s t : State) (slot offset bits place : ℕ) (kind : NewObject) → IsSound s → put_untyped s slot offset bits ≡ Some t
    → kind_at s place ≡ Some kind → place + 2 ^ object_bits kind ≤ offset
behind-objects s t slot offset bits place kind whole is there =
    let fits = untyped-fits s t slot offset bits is in
    let name = whole.memory.live place kind there in
    ends-before s offset name.0 (record { first = place; size = 2 ^ object_bits kind }) whole (IsUntypedPlace.last (untyped-place s offset bits fits.0))
    (named-piece (capability_at s.slots name.0) (kind, place) name.1)

-- ---- filling

byte-there : (b : Bool) (byte : ℕ) (o : Option ℕ) → is_some (if b then option_map (λ _. byte) o else o) ≡ is_some o
byte-there true byte None = refl
byte-there true byte (Some _) = refl
byte-there false byte o = refl

byte-small : (b : Bool) (put byte : ℕ) (o : Option ℕ) → put < 2 ^ 8 → ((n : ℕ) → o ≡ Some n → n < 2 ^ 8)
    → (if b then option_map (λ _. put) o else o) ≡ Some byte → byte < 2 ^ 8
byte-small true put byte None less was is = let e : None ≡ Some byte = is in absurd cc
byte-small true put byte (Some n) less was is = let e : put ≡ byte = cc is in subst (λ (n : ℕ). n < 2 ^ 8) e less
byte-small false put byte o less was is = was byte is

list-small : (bytes : List ℕ) (index : ℕ) → All (λ byte. byte < 2 ^ 8) bytes → get_or bytes index 0 < 2 ^ 8
list-small bytes index less = elim (cases_lt index (length bytes)) [
  | inl inside ↦ All-get_or (λ (n : ℕ). n < 2 ^ 8) bytes index 0 inside less
  | inr outside ↦ let e = get_or_past bytes index 0 outside in omega (arith, e)
]

pub filled-whole : (s : State) (offset : ℕ) (bytes : List ℕ) → IsSound s → All (λ byte. byte < 2 ^ 8) bytes → IsSound (with_first_bytes s offset bytes)
filled-whole s offset bytes whole small =
    bytes-whole s (λ place. if is_within offset (length bytes) place then option_map (λ _. slice_index bytes (place - offset)) (s.bytes place) else
    s.bytes place) whole
    (λ place. byte-there (is_within offset (length bytes) place) (slice_index bytes (place - offset)) (s.bytes place))
    (λ place byte is.
    byte-small (is_within offset (length bytes) place) (slice_index bytes (place - offset)) byte (s.bytes place) (list-small bytes (place - offset) small)
    (whole.memory.small place) is)

pub fill-whole : (s t : State) (offset : ℕ) (bytes : List ℕ) → IsSound s → All (λ byte. byte < 2 ^ 8) bytes → fill s offset bytes ≡ Some t → IsSound t
unfolding fill
fill-whole s t offset bytes whole small is =
    elim (is_frame_object (s.objects offset) && nat_le (length bytes) page_size)
    as (λ b. (if b then Some (with_first_bytes s offset bytes) else None) ≡ Some t → IsSound t) [
      | true ↦ λ so. let e : with_first_bytes s offset bytes ≡ t = cc so in subst IsSound e (filled-whole s offset bytes whole small)
      | false ↦ λ so. let e : None ≡ Some t = so in absurd cc
    ] is
