-- What the neighbours of a slot show of the object that it names.
use Rattle.std.proofs.Common.{ℕ, ◌≡◌, ◌∙◌, ◌==◌, ◌<◌, ◌⊎◌, ◌||◌, inl, inr, not, Bool, true, false, Option, Some, None, refl, sym, ap, arith}
use Rattle.std.proofs.lemmas.Bool.Decides.{eqb_tells}
use Rattle.std.proofs.lemmas.Bool.{eq-eqb}
use Rattle.std.specs.Option.{option_map_or}
use Rattle.model.specs.Capabilities.CapabilityKinds.{object_of}
use Rattle.model.specs.Capabilities.Slots.{IsFull, Slots, capability_at, is_empty, is_full}
use Rattle.model.specs.declared.capabilities.Cap.{Cap}
use Rattle.model.specs.declared.capabilities.Cap.TheVariants.{Empty, Untyped, Endpoint, Notification, CNode, Frame, PageTable, Tcb, RootTable, InterruptControl}
use Rattle.model.specs.declared.capabilities.Cap.TheVariants.{InterruptHandler}
use Rattle.slots.proofs.Laws.{another-beside, next-another, previous-another}
use Rattle.slots.specs.Kin.{IsShared, object_at}
use Rattle.slots.specs.preorder.Preorder.{rows_of, slots_of}
use Rattle.slots.specs.preorder.Runs.{HasKey}
use Rattle.packed_slots.specs.Sharing.{has_like_neighbour, is_named_at}
use Rattle.packed_slots.specs.Packing.{IsPacked, Packed, packed_rows, packed_slots}
use Rattle.packed_slots.specs.Words.{words_in}
use Rattle.packed_slots.proofs.PackedFacts.{full-row}

pub named-so : (o : Option ℕ) (offset : ℕ) → option_map_or (λ named. named == offset) o false ≡ true → o ≡ Some offset
named-so None offset is = absurd (let clash : false ≡ true = is in cc)
named-so (Some x) offset is = elim (eqb_tells x offset) [
  | inl here ↦ ap Some here.1
  | inr off ↦ absurd (let clash : false ≡ true = sym off.0 ∙ is in cc)
]

pub so-named : (o : Option ℕ) (offset : ℕ) → o ≡ Some offset → option_map_or (λ named. named == offset) o false ≡ true
so-named o offset is = ap (λ o. option_map_or (λ named. named == offset) o false) is ∙ eq-eqb offset offset refl

pub at-found : (slots : Slots) (offset : ℕ) (found : Option ℕ) → is_named_at slots offset found ≡ true → (s : ℕ) × (found ≡ Some s)
    × (object_at slots s ≡ Some offset)
at-found slots offset None is = absurd (let clash : false ≡ true = is in cc)
at-found slots offset (Some s) is = (s, refl, named-so (object_at slots s) offset is)

pub found-at : (slots : Slots) (offset : ℕ) (found : Option ℕ) → HasKey (object_at slots) offset found → is_named_at slots offset found ≡ true
found-at slots offset None has = absurd has
found-at slots offset (Some s) has = so-named (object_at slots s) offset has

pub either : (a b : Bool) → (a || b) ≡ true → (a ≡ true) ⊎ (b ≡ true)
either true b is = inl refl
either false b is = inr is

pub or-left : (a b : Bool) → a ≡ true → (a || b) ≡ true
or-left a b is = ap (λ x. x || b) is

pub or-right : (a b : Bool) → b ≡ true → (a || b) ≡ true
or-right true b is = refl
or-right false b is = is

-- what names an object is full
pub named-full : (capability : Cap) (offset : ℕ) → object_of capability ≡ Some offset → is_empty capability ≡ false
named-full Empty offset is = absurd (let clash : None ≡ Some offset = is in cc)
named-full (Untyped _ _ _) offset is = refl
named-full (Endpoint _ _ _) offset is = refl
named-full (Notification _ _ _) offset is = refl
named-full (CNode _ _ _) offset is = refl
named-full (Frame _ _ _) offset is = refl
named-full (PageTable _ _) offset is = refl
named-full (Tcb _) offset is = refl
named-full (RootTable _) offset is = refl
named-full InterruptControl offset is = refl
named-full (InterruptHandler _) offset is = refl

with-offset : (p : Packed) (slot offset : ℕ) → object_at (packed_slots p) slot ≡ Some offset
    → has_like_neighbour p slot ≡ (is_named_at (packed_slots p) offset ((words_in p.memory).previous slot)
    || is_named_at (packed_slots p) offset ((words_in p.memory).next slot))
with-offset p slot offset is =
    ap (λ (o : Option ℕ). option_map_or (λ offset. is_named_at (packed_slots p) offset ((words_in p.memory).previous slot)
    || is_named_at (packed_slots p) offset ((words_in p.memory).next slot)) o false) is

pub shared-so : (p : Packed) (slot : ℕ) → IsPacked p → IsFull (packed_slots p) slot → has_like_neighbour p slot ≡ true → IsShared (packed_slots p) slot
shared-so p slot is full like =
    let w = words_in p.memory in
    let rows = packed_rows p in
    let linked = is.packed.linked in
    let there : 0 < rows_of rows slot = omega (arith, full-row w p.open_slots p.first rows slot is.packed full) in
    elim (object_at (packed_slots p) slot) as (λ o. object_at (packed_slots p) slot ≡ o → IsShared (packed_slots p) slot) [
      | None ↦ λ none. absurd (let clash : false ≡ true =
          sym (ap (λ (o : Option ℕ). option_map_or (λ offset. is_named_at (packed_slots p) offset (w.previous slot)
          || is_named_at (packed_slots p) offset (w.next slot)) o false) none) ∙ like in cc)
      | Some offset ↦ λ own.
          elim (either (is_named_at (packed_slots p) offset (w.previous slot)) (is_named_at (packed_slots p) offset (w.next slot))
          (sym (with-offset p slot offset own) ∙ like)) [
            | inl before ↦
                let found = at-found (packed_slots p) offset (w.previous slot) before in
                record {
                  offset = offset;
                  own = own;
                  other = found.0;
                  apart =
                      (previous-another (slots_of rows) w.next w.previous slot found.0 linked.chain linked.once there found.1).1;
                  names = found.2;
                }
            | inr behind ↦
                let found = at-found (packed_slots p) offset (w.next slot) behind in
                record {
                  offset = offset;
                  own = own;
                  other = found.0;
                  apart =
                      (next-another (slots_of rows) w.next w.previous None slot found.0 linked.chain linked.once there found.1).1;
                  names = found.2;
                }
          ]
    ] refl

pub alone-so : (p : Packed) (slot : ℕ) → IsPacked p → IsFull (packed_slots p) slot → has_like_neighbour p slot ≡ false → IsShared (packed_slots p) slot → ⊥
alone-so p slot is full none shared =
    let w = words_in p.memory in
    let rows = packed_rows p in
    let slots = packed_slots p in
    let there : 0 < rows_of rows slot = omega (arith, full-row w p.open_slots p.first rows slot is.packed full) in
    let full' : is_full slots shared.other ≡ true = ap (λ b. not b) (named-full (capability_at slots shared.other) shared.offset shared.names) in
    let found : 0 < rows_of rows shared.other = omega (arith, full-row w p.open_slots p.first rows shared.other is.packed full') in
    let before = is_named_at slots shared.offset (w.previous slot) in
    let behind = is_named_at slots shared.offset (w.next slot) in
    let like : has_like_neighbour p slot ≡ true =
    with-offset p slot shared.offset shared.own
    ∙ elim (another-beside (object_at slots) shared.offset (slots_of rows) w.next w.previous None slot shared.other is.packed.linked.chain is.packed.runs there
    shared.own found shared.apart shared.names) [
      | inl has ↦ or-left before behind (found-at slots shared.offset (w.previous slot) has)
      | inr has ↦ or-right before behind (found-at slots shared.offset (w.next slot) has)
    ] in
    absurd (let clash : true ≡ false = sym like ∙ none in cc)
