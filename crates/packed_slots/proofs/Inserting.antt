-- A capability is put into an empty slot.
use Rattle.std.proofs.Common.{ℕ, ◌≡◌, ◌≢◌, ◌∙◌, ◌==◌, ◌+◌, ◌<◌, ◌≤◌, inl, inr, Bool, true, false, not, if◌then◌else◌, Option, Some, None, List, [], ◌∷◌, refl}
use Rattle.std.proofs.Common.{sym, ap, subst, arith}
use Rattle.std.proofs.lemmas.Bool.Decides.{eqb_tells}
use Rattle.std.proofs.lemmas.Bool.{eq-eqb, ne_eqb}
use Rattle.model.proofs.Derivations.{derivation-inserted}
use Rattle.model.proofs.FieldsLemmas.{fields_of_words}
use Rattle.model.proofs.SlotChanges.{capability_of, entry-other, entry-same, full-capability}
use Rattle.model.specs.Capabilities.CapabilityFields.{fields_of}
use Rattle.model.specs.Capabilities.CapabilityKinds.{object_of}
use Rattle.model.specs.Capabilities.CapabilityWords.{IsCapability, words_of}
use Rattle.model.specs.Capabilities.Orders.{first_of}
use Rattle.model.specs.Capabilities.Slots.{IsFull, Slots, depth_of, empty_entry, inserted, is_empty, is_full}
use Rattle.model.specs.Kernel.State.{put}
use Rattle.model.specs.Shared.Lists.{times_in}
use Rattle.model.specs.declared.capabilities.Cap.{Cap}
use Rattle.model.specs.declared.capabilities.Cap.TheVariants.{Empty}
use Rattle.model.specs.declared.slot_entries.Entry.{Entry}
use Rattle.slots.proofs.Laws.{chain-first, chain-put_after, deep-first, deep-put_behind, first-others, first-own, put-others, put-own, rises-first}
use Rattle.slots.proofs.Laws.{rises-put_behind, runs-first, runs-put_behind, runs-same, slots-put_behind, times-put_after, times-put_after_own}
use Rattle.slots.specs.Kin.{IsKin, IsUnnamed, object_at}
use Rattle.slots.specs.preorder.Chains.{IsChain, IsLinked, Links, put_after, put_at}
use Rattle.slots.specs.preorder.Preorder.{Row, first_row, parents_of, put_behind, rows_of, slots_of}
use Rattle.slots.specs.preorder.Runs.{AreRuns, MayFollow, NoneHas}
use Rattle.packed_slots.specs.Packing.{IsPackedAs, is_open_in, slots_as}
use Rattle.packed_slots.specs.Words.{Words, capability_in}
use Rattle.packed_slots.proofs.PackedFacts.{as-closed, as-open, full-row, no-row, open-from, packs}

pub put-here : {A : Type 0} (f : ℕ → A) (s x : ℕ) (v : A) → x ≡ s → put f s v x ≡ v
put-here f s x v here = ap (λ b. if b then v else f x) (eq-eqb x s here)

pub put-off : {A : Type 0} (f : ℕ → A) (s x : ℕ) (v : A) → x ≢ s → put f s v x ≡ f x
put-off f s x v off = ap (λ b. if b then v else f x) (ne_eqb x s off)

pub none-clash : {A : Type 0} (s : ℕ) → None ≡ Some s → A
none-clash s is = absurd (let clash : None ≡ Some s = is in cc)

-- an empty slot holds no capability
pub empty-not-full : (slots : Slots) (s : ℕ) → slots s ≡ Some empty_entry → is_full slots s ≡ false
empty-not-full slots s is = ap (λ e. not (is_empty (capability_of e))) is

-- ---- whatever the new links are

-- what is known of a capability, its words, and the slot that it is put into
pub record IsPut (w : Words) (o : List Bool) (first : Option ℕ) (rows : List Row) (slot : ℕ) (capability : Cap) (head tail : ℕ) : Type 0 where
  pub packed : IsPackedAs w o first rows
  pub empty : slots_as w o rows slot ≡ Some empty_entry
  pub valid : IsCapability capability
  pub some : capability ≢ Empty
  pub words : head ∷ tail ∷ [] ≡ words_of capability

-- the new rows have the slot and its parent more
pub record AreMore (rows more : List Row) (slot : ℕ) (parent : Option ℕ) : Type 0 where
  pub own : parents_of more slot ≡ parent
  pub others : (s : ℕ) → s ≢ slot → parents_of more s ≡ parents_of rows s
  pub once : rows_of more slot ≡ 1
  pub times : (s : ℕ) → s ≢ slot → rows_of more s ≡ rows_of rows s

abbrev pub with_more : Words → ℕ → ℕ → ℕ → ℕ → Links → Links → Words
with_more w slot head tail depth next previous = record {
  head = put w.head slot head;
  tail = put w.tail slot tail;
  next = next;
  depth = put w.depth slot depth;
  previous = previous;
}

module _ (w : Words) (o : List Bool) (first : Option ℕ) (rows more : List Row) (slot : ℕ) (capability : Cap) (head tail depth : ℕ) (parent : Option ℕ)
    (next previous : Links) (is : IsPut w o first rows slot capability head tail) (are : AreMore rows more slot parent) where
  abbrev new : Words
  new = with_more w slot head tail depth next previous

  own-capability : capability_in new slot ≡ capability
  own-capability =
      ap (λ h. fields_of h (new.tail slot)) (put-here w.head slot slot head refl) ∙ ap (fields_of head) (put-here w.tail slot slot tail refl)
      ∙ fields_of_words (head ∷ tail ∷ []) capability is.valid is.words

  other-capability : (s : ℕ) → s ≢ slot → capability_in new s ≡ capability_in w s
  other-capability s off = ap (λ h. fields_of h (new.tail s)) (put-off w.head slot s head off) ∙ ap (fields_of (w.head s)) (put-off w.tail slot s tail off)

  put-at : (s : ℕ) → slots_as new o more s ≡ inserted (slots_as w o rows) slot capability parent s
  put-at s =
      let slots = slots_as w o rows in
      let held : Entry = record { capability = capability; parent = parent } in
      elim (eqb_tells s slot) [
        | inl here ↦
            ap (slots_as new o more) here.1
            ∙ as-open new o more slot (open-from w o rows slot empty_entry is.empty)
            ∙ ap (λ (c : Cap). Some (record { capability = c; parent = parents_of more slot })) own-capability
            ∙ ap (λ (p : Option ℕ). Some (record { capability = capability; parent = p })) are.own
            ∙ sym (ap (inserted slots slot capability parent) here.1 ∙ entry-same slots slot (Some held))
        | inr off ↦
            elim (is_open_in o s) as (λ b. is_open_in o s ≡ b → slots_as new o more s ≡ slots s) [
              | true ↦ λ there.
                  as-open new o more s there
                  ∙ ap (λ (c : Cap). Some (record { capability = c; parent = parents_of more s })) (other-capability s off.1)
                  ∙ ap (λ (p : Option ℕ). Some (record { capability = capability_in w s; parent = p })) (are.others s off.1)
                  ∙ sym (as-open w o rows s there)
              | false ↦ λ gone. as-closed new o more s gone ∙ sym (as-closed w o rows s gone)
            ] refl
            ∙ sym (entry-other slots slot (Some held) s off.1)
      ]

  full-own : is_full (inserted (slots_as w o rows) slot capability parent) slot ≡ true
  full-own =
      ap (λ e. not (is_empty (capability_of e))) (entry-same (slots_as w o rows) slot (Some (record { capability = capability; parent = parent })))
      ∙ full-capability capability is.some

  full-other : (s : ℕ) → s ≢ slot → is_full (inserted (slots_as w o rows) slot capability parent) s ≡ is_full (slots_as w o rows) s
  full-other s off =
      ap (λ e. not (is_empty (capability_of e))) (entry-other (slots_as w o rows) slot (Some (record { capability = capability; parent = parent })) s off)

  put-lists : (s : ℕ) → rows_of more s ≡ (if is_full (inserted (slots_as w o rows) slot capability parent) s then 1 else 0)
  put-lists s = elim (eqb_tells s slot) [
    | inl here ↦ ap (rows_of more) here.1 ∙ are.once
        ∙ sym (ap (λ b. if b then 1 else 0) (ap (is_full (inserted (slots_as w o rows) slot capability parent)) here.1 ∙ full-own))
    | inr off ↦ are.times s off.1 ∙ is.packed.listed s ∙ sym (ap (λ b. if b then 1 else 0) (full-other s off.1))
  ]

  put-whole : (s : ℕ) → is_open_in o s ≡ true → new.head s ∷ new.tail s ∷ [] ≡ words_of (capability_in new s)
  put-whole s there = elim (eqb_tells s slot) [
    | inl here ↦
        ap (λ h. h ∷ new.tail s ∷ []) (put-here w.head slot s head here.1) ∙ ap (λ t. head ∷ t ∷ []) (put-here w.tail slot s tail here.1)
        ∙ is.words ∙ ap words_of (sym (ap (capability_in new) here.1 ∙ own-capability))
    | inr off ↦
        ap (λ h. h ∷ new.tail s ∷ []) (put-off w.head slot s head off.1) ∙ ap (λ t. w.head s ∷ t ∷ []) (put-off w.tail slot s tail off.1)
        ∙ is.packed.whole s there ∙ ap words_of (sym (other-capability s off.1))
  ]

  put-blank : (s : ℕ) → is_open_in o s ≡ true → is_full (inserted (slots_as w o rows) slot capability parent) s ≡ false → new.depth s ≡ 0
  put-blank s there empty = elim (eqb_tells s slot) [
    | inl here ↦ absurd (let clash : true ≡ false = sym full-own ∙ ap (is_full (inserted (slots_as w o rows) slot capability parent)) (sym here.1) ∙ empty in
        cc)
    | inr off ↦ put-off w.depth slot s depth off.1 ∙ is.packed.blank s there (sym (full-other s off.1) ∙ empty)
  ]

  pub put-slots : slots_as new o more ≡ inserted (slots_as w o rows) slot capability parent
  put-slots = λ i s. put-at s i

  pub put-packs : (first' : Option ℕ) → IsLinked next previous (put w.depth slot depth) more → first' ≡ first_of (slots_of more)
      → ((p : ℕ) → parent ≡ Some p → IsFull (slots_as w o rows) p) → ((p : ℕ) → parent ≡ Some p → depth_of (slots_as w o rows) p < 255)
      → AreRuns (object_at (inserted (slots_as w o rows) slot capability parent)) (slots_of more) → IsPackedAs new o first' more
  put-packs first' linked begins full room runs =
      packs new o first' more (inserted (slots_as w o rows) slot capability parent) put-slots linked begins put-lists put-whole put-blank
      (derivation-inserted (slots_as w o rows) slot capability parent is.packed.derivation is.empty is.valid is.some full room) runs

-- ---- the objects that are named

object-own : (slots : Slots) (slot : ℕ) (capability : Cap) (parent : Option ℕ) → object_at (inserted slots slot capability parent) slot ≡ object_of capability
object-own slots slot capability parent = ap (λ e. object_of (capability_of e))
    (entry-same slots slot (Some (record { capability = capability; parent = parent })))

object-beside : (slots : Slots) (slot : ℕ) (capability : Cap) (parent : Option ℕ) (s : ℕ) → s ≢ slot →
    object_at (inserted slots slot capability parent) s ≡ object_at slots s
object-beside slots slot capability parent s off = ap (λ e. object_of (capability_of e))
    (entry-other slots slot (Some (record { capability = capability; parent = parent })) s off)

-- the object is new among the rows
unnamed-rows : (slots : Slots) (rows : List Row) (slot : ℕ) (capability : Cap) (parent : Option ℕ) → rows_of rows slot ≡ 0 → IsUnnamed slots capability
    → (key : ℕ) → object_at (inserted slots slot capability parent) slot ≡ Some key →
    NoneHas (object_at (inserted slots slot capability parent)) key (slots_of rows)
unnamed-rows slots rows slot capability parent none unnamed key own s there has =
    unnamed key s (sym (object-own slots slot capability parent) ∙ own)
    (sym (object-beside slots slot capability parent s (λ same. absurd (omega (arith, there, ap (rows_of rows) same, none)))) ∙ has)

runs-kept : (slots : Slots) (rows : List Row) (slot : ℕ) (capability : Cap) (parent : Option ℕ) → rows_of rows slot ≡ 0 →
    AreRuns (object_at slots) (slots_of rows)
    → AreRuns (object_at (inserted slots slot capability parent)) (slots_of rows)
runs-kept slots rows slot capability parent none runs =
    runs-same (object_at slots) (object_at (inserted slots slot capability parent)) (slots_of rows)
    (λ s there. object-beside slots slot capability parent s (λ same. absurd (omega (arith, there, ap (rows_of rows) same, none)))) runs

runs-behind : (slots : Slots) (rows : List Row) (at slot : ℕ) (capability : Cap) → rows_of rows slot ≡ 0 → 0 < rows_of rows at →
    IsKin slots capability (Some at)
    → AreRuns (object_at slots) (slots_of rows) → AreRuns (object_at (inserted slots slot capability (Some at))) (slots_of (put_behind at slot rows))
runs-behind slots rows at slot capability none there kin runs =
    let keys = object_at (inserted slots slot capability (Some at)) in
    let own = object-own slots slot capability (Some at) in
    let above : keys at ≡ object_at slots at = object-beside slots slot capability (Some at) at
    (λ same. absurd (omega (arith, there, ap (rows_of rows) same, none))) in
    let may : MayFollow keys at slot (slots_of rows) = elim kin [
      | inl same ↦ inl (own ∙ same ∙ sym above)
      | inr new ↦ inr (above ∙ new.0, unnamed-rows slots rows slot capability (Some at) none new.1)
    ] in
    runs-put_behind rows keys at slot may (runs-kept slots rows slot capability (Some at) none runs)

-- ---- after its parent

pub none-row : (w : Words) (o : List Bool) (first : Option ℕ) (rows : List Row) (slot : ℕ) → IsPackedAs w o first rows →
    slots_as w o rows slot ≡ Some empty_entry → rows_of rows slot ≡ 0
none-row w o first rows slot packed empty = no-row w o first rows slot packed (empty-not-full (slots_as w o rows) slot empty)

pub not-in : (rows : List Row) (slot s : ℕ) → rows_of rows slot ≡ 0 → 0 < rows_of rows s → s ≢ slot
not-in rows slot s none there same = absurd (omega (arith, there, ap (rows_of rows) same, none))

first-put : (xs : List ℕ) (at slot : ℕ) → first_of (put_after at slot xs) ≡ first_of xs
first-put [] at slot = refl
first-put (x ∷ rest) at slot =
    elim (x == at) as (λ b. first_of (if b then x ∷ slot ∷ rest else x ∷ put_after at slot rest) ≡ Some x) [ true ↦ refl | false ↦ refl ]

pub first-behind : (xs : List ℕ) (at slot : ℕ) → first_of (put_after at slot xs) ≡ first_of xs
first-behind = first-put

abbrev pub behind_words : Words → ℕ → ℕ → ℕ → ℕ → ℕ → Words
behind_words w at slot head tail depth =
    with_more w slot head tail depth (put (put w.next at (Some slot)) slot (w.next at)) (put (put_at w.previous (w.next at) (Some slot)) slot (Some at))

pub behind-chain : (w : Words) (xs : List ℕ) (at slot : ℕ) → IsChain w.next w.previous None xs → ((s : ℕ) → times_in xs s ≤ 1) → times_in xs slot ≡ 0 →
    0 < times_in xs at
    → IsChain (put (put w.next at (Some slot)) slot (w.next at)) (put (put_at w.previous (w.next at) (Some slot)) slot (Some at)) None (put_after at slot xs)
behind-chain w xs at slot chain once none there =
    chain-put_after xs w.next w.previous None at slot chain once (λ same. none-clash slot same) (λ b same. none-clash b same) none there

behind-linked : (w : Words) (rows : List Row) (at slot : ℕ) → IsLinked w.next w.previous w.depth rows → rows_of rows slot ≡ 0 → 0 < rows_of rows at
    → IsLinked (put (put w.next at (Some slot)) slot (w.next at)) (put (put_at w.previous (w.next at) (Some slot)) slot (Some at))
    (put w.depth slot (w.depth at + 1)) (put_behind at slot rows)
behind-linked w rows at slot linked none there = record {
  chain = subst (IsChain (put (put w.next at (Some slot)) slot (w.next at)) (put (put_at w.previous (w.next at) (Some slot)) slot (Some at)) None)
      (sym (slots-put_behind rows at slot))
      (behind-chain w (slots_of rows) at slot linked.chain linked.once none there);
  deep = deep-put_behind rows w.depth (put w.depth slot (w.depth at + 1)) at slot linked.deep
      (λ s is. put-off w.depth slot s (w.depth at + 1) (not-in rows slot s none is)) (put-here w.depth slot slot (w.depth at + 1) refl);
  rises = rises-put_behind rows 0 at slot linked.rises;
  once = λ s. elim (eqb_tells s slot) [
    | inl here ↦ omega (
      arith,
      ap (λ l. times_in l s) (slots-put_behind rows at slot),
      ap (times_in (put_after at slot (slots_of rows))) here.1,
      times-put_after_own (slots_of rows) at slot there,
      none,
    )
    | inr off ↦ omega (arith, ap (λ l. times_in l s) (slots-put_behind rows at slot), times-put_after (slots_of rows) at slot s off.1, linked.once s)
  ];
}

behind-more : (rows : List Row) (at slot : ℕ) (w : Words) → IsLinked w.next w.previous w.depth rows → rows_of rows slot ≡ 0 → 0 < rows_of rows at
    → AreMore rows (put_behind at slot rows) slot (Some at)
behind-more rows at slot w linked none there = record {
  own = put-own rows (λ i. None) at slot there none;
  others = λ s off. put-others rows 0 (λ i. None) at slot s linked.rises off;
  once = let e : rows_of (put_behind at slot rows) slot ≡ 1 =
      omega (arith, ap (λ l. times_in l slot) (slots-put_behind rows at slot), times-put_after_own (slots_of rows) at slot there, none) in e;
  times = λ s off. ap (λ l. times_in l s) (slots-put_behind rows at slot) ∙ times-put_after (slots_of rows) at slot s off;
}

pub behind-slots : (w : Words) (o : List Bool) (first : Option ℕ) (rows : List Row) (at slot : ℕ) (capability : Cap) (head tail : ℕ) →
    IsPut w o first rows slot capability head tail
    → IsFull (slots_as w o rows) at
    → slots_as (behind_words w at slot head tail (w.depth at + 1)) o (put_behind at slot rows) ≡ inserted (slots_as w o rows) slot capability (Some at)
behind-slots w o first rows at slot capability head tail is full =
    put-slots w o first rows (put_behind at slot rows) slot capability head tail (w.depth at + 1) (Some at)
    (put (put w.next at (Some slot)) slot (w.next at)) (put (put_at w.previous (w.next at) (Some slot)) slot (Some at)) is
    (behind-more rows at slot w is.packed.linked (none-row w o first rows slot is.packed is.empty) (omega (arith, full-row w o first rows at is.packed full)))

pub behind-packs : (w : Words) (o : List Bool) (first : Option ℕ) (rows : List Row) (at slot : ℕ) (capability : Cap) (head tail : ℕ) →
    IsPut w o first rows slot capability head tail
    → IsFull (slots_as w o rows) at → depth_of (slots_as w o rows) at < 255 → IsKin (slots_as w o rows) capability (Some at)
    → IsPackedAs (behind_words w at slot head tail (w.depth at + 1)) o first (put_behind at slot rows)
behind-packs w o first rows at slot capability head tail is full room kin =
    let none = none-row w o first rows slot is.packed is.empty in
    let there : 0 < rows_of rows at = omega (arith, full-row w o first rows at is.packed full) in
    put-packs w o first rows (put_behind at slot rows) slot capability head tail (w.depth at + 1) (Some at)
    (put (put w.next at (Some slot)) slot (w.next at)) (put (put_at w.previous (w.next at) (Some slot)) slot (Some at)) is
    (behind-more rows at slot w is.packed.linked none there)
    first (behind-linked w rows at slot is.packed.linked none there)
    (is.packed.begins ∙ sym (ap first_of (slots-put_behind rows at slot) ∙ first-put (slots_of rows) at slot))
    (λ p same. subst (IsFull (slots_as w o rows)) (let e : at ≡ p = cc in e) full)
    (λ p same. subst (λ (x : ℕ). depth_of (slots_as w o rows) x < 255) (let e : at ≡ p = cc in e) room)
    (runs-behind (slots_as w o rows) rows at slot capability none there kin is.packed.runs)

-- ---- in front of all

abbrev pub first_words : Words → Option ℕ → ℕ → ℕ → ℕ → Words
first_words w first slot head tail = with_more w slot head tail 0 (put w.next slot first) (put (put_at w.previous first (Some slot)) slot None)

first-more : (rows : List Row) (slot : ℕ) (w : Words) → IsLinked w.next w.previous w.depth rows → rows_of rows slot ≡ 0 →
    AreMore rows (first_row slot ∷ rows) slot None
first-more rows slot w linked none = record {
  own = first-own rows slot;
  others = λ s off. first-others rows slot s linked.rises off;
  once = ap (λ b. if b then rows_of rows slot + 1 else rows_of rows slot) (eq-eqb slot slot refl) ∙ ap (λ n. n + 1) none;
  times = λ s off. ap (λ b. if b then rows_of rows s + 1 else rows_of rows s) (ne_eqb slot s (λ same. off (sym same)));
}

first-linked : (w : Words) (rows : List Row) (slot : ℕ) (first : Option ℕ) → IsLinked w.next w.previous w.depth rows → first ≡ first_of (slots_of rows) →
    rows_of rows slot ≡ 0
    → IsLinked (put w.next slot first) (put (put_at w.previous first (Some slot)) slot None) (put w.depth slot 0) (first_row slot ∷ rows)
first-linked w rows slot first linked begins none =
    let more = first-more rows slot w linked none in
    record {
      chain = subst (λ (f : Option ℕ). IsChain (put w.next slot f) (put (put_at w.previous f (Some slot)) slot None) None (slot ∷ slots_of rows)) (sym begins)
          (chain-first (slots_of rows) w.next w.previous slot linked.chain linked.once none);
      deep = deep-first rows w.depth (put w.depth slot 0) slot linked.deep (λ s is. put-off w.depth slot s 0 (not-in rows slot s none is))
          (put-here w.depth slot slot 0 refl);
      rises = rises-first rows slot linked.rises;
      once = λ s. elim (eqb_tells s slot) [
        | inl here ↦ omega (arith, ap (rows_of (first_row slot ∷ rows)) here.1, more.once)
        | inr off ↦ omega (arith, more.times s off.1, linked.once s)
      ];
    }

pub first-slots : (w : Words) (o : List Bool) (first : Option ℕ) (rows : List Row) (slot : ℕ) (capability : Cap) (head tail : ℕ) →
    IsPut w o first rows slot capability head tail
    → slots_as (first_words w first slot head tail) o (first_row slot ∷ rows) ≡ inserted (slots_as w o rows) slot capability None
first-slots w o first rows slot capability head tail is =
    put-slots w o first rows (first_row slot ∷ rows) slot capability head tail 0 None (put w.next slot first)
    (put (put_at w.previous first (Some slot)) slot None) is
    (first-more rows slot w is.packed.linked (none-row w o first rows slot is.packed is.empty))

pub first-packs : (w : Words) (o : List Bool) (first : Option ℕ) (rows : List Row) (slot : ℕ) (capability : Cap) (head tail : ℕ) →
    IsPut w o first rows slot capability head tail
    → IsKin (slots_as w o rows) capability None → IsPackedAs (first_words w first slot head tail) o (Some slot) (first_row slot ∷ rows)
first-packs w o first rows slot capability head tail is kin =
    let none = none-row w o first rows slot is.packed is.empty in
    put-packs w o first rows (first_row slot ∷ rows) slot capability head tail 0 None (put w.next slot first)
    (put (put_at w.previous first (Some slot)) slot None) is
    (first-more rows slot w is.packed.linked none) (Some slot) (first-linked w rows slot first is.packed.linked is.packed.begins none) refl
    (λ p same. none-clash p same) (λ p same. none-clash p same)
    (runs-first (object_at (inserted (slots_as w o rows) slot capability None)) slot (slots_of rows)
    (unnamed-rows (slots_as w o rows) rows slot capability None none kin)
    (runs-kept (slots_as w o rows) rows slot capability None none is.packed.runs))
