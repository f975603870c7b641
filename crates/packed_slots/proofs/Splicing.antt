-- A slot is taken out, and its descendants become one less deep.
use Rattle.std.proofs.Common.{ℕ, ◌≡◌, ◌≢◌, ◌∙◌, ◌==◌, ◌+◌, ◌<◌, ◌≤◌, inl, inr, Bool, true, false, not, cond, if◌then◌else◌, Option, Some, None, List, [], ◌∷◌}
use Rattle.std.proofs.Common.{length, refl, sym, ap, subst, arith}
use Rattle.std.specs.Option.{option_map}
use Rattle.std.proofs.lemmas.Bool.Decides.{eqb_tells}
use Rattle.std.proofs.lemmas.Bool.{eq-eqb, ne_eqb}
use Rattle.model.proofs.Depths.{adopted_parent}
use Rattle.model.proofs.Derivations.{derivation-spliced}
use Rattle.model.proofs.Orders.{order-spliced, times-filter, without-absent}
use Rattle.model.specs.Capabilities.CapabilityKinds.{object_of}
use Rattle.model.proofs.SlotChanges.{capability-adopted, capability_of, entry-other, entry-same, full-spliced}
use Rattle.model.specs.Capabilities.CapabilityFields.{fields_of}
use Rattle.model.specs.Capabilities.CapabilityWords.{words_of}
use Rattle.model.specs.Capabilities.Orders.{first_of}
use Rattle.model.specs.Capabilities.Slots.{Slots, adopted, empty_entry, is_full, is_within, parent_at, spliced, with_parent}
use Rattle.model.specs.Shared.Lists.{times_in, without}
use Rattle.model.specs.declared.capabilities.Cap.{Cap}
use Rattle.slots.proofs.Laws.{chain-same, chain-without, deep-same, deep-taken_out, low-beside, none-without, previous-in, rises-taken_out, runs-same}
use Rattle.slots.proofs.Laws.{runs-taken_out, slots-taken_out, taken-out}
use Rattle.slots.specs.preorder.Chains.{IsChain, IsLinked, Links, lowered_depths, put_at}
use Rattle.slots.specs.Kin.{object_at}
use Rattle.slots.specs.preorder.Preorder.{Row, parents_of, rows_of, slots_of, taken_out}
use Rattle.packed_slots.specs.Packing.{IsPackedAs, is_open_in, slots_as}
use Rattle.packed_slots.specs.Words.{Words, capability_in, first_without}
use Rattle.packed_slots.proofs.PackedFacts.{adopted-as, as-closed, as-open, full-row, no-row, open-full, packs, parent-as, within-here, within-off, zero-empty}
use Rattle.packed_slots.proofs.PackedFacts.{zero-whole}
use Rattle.packed_slots.proofs.WordWrites.{zeroed}

-- ---- lists without a slot

pub times-without : (xs : List ℕ) (gone : ℕ) → times_in (without gone xs) gone ≡ 0
times-without xs gone = times-filter (λ t. not (t == gone)) xs gone ∙ ap (λ b. if not b then times_in xs gone else 0) (eq-eqb gone gone refl)

pub times-without_other : (xs : List ℕ) (gone s : ℕ) → s ≢ gone → times_in (without gone xs) s ≡ times_in xs s
times-without_other xs gone s off = times-filter (λ t. not (t == gone)) xs s ∙ ap (λ b. if not b then times_in xs s else 0) (ne_eqb s gone off)

pub stays-off : (xs : List ℕ) (gone s : ℕ) → 0 < times_in (without gone xs) s → s ≢ gone
stays-off xs gone s there same = absurd (omega (arith, there, ap (times_in (without gone xs)) same, times-without xs gone))

pub first-without : (xs : List ℕ) (next previous : Links) (gone : ℕ) → IsChain next previous None xs → ((s : ℕ) → times_in xs s ≤ 1) → 0 < times_in xs gone
    → first_of (without gone xs) ≡ first_without (previous gone) (next gone) (first_of xs)
first-without [] next previous gone chain once there = absurd (omega (arith, there))
first-without (x ∷ rest) next previous gone chain once there =
    let few = without gone rest in
    elim (eqb_tells x gone) [
      | inl here ↦
          let none : times_in rest gone ≡ 0 = omega (arith, once gone, ap (λ b. if b then times_in rest gone + 1 else times_in rest gone) here.0) in
          ap (λ b. first_of (cond (not b) (x ∷ few) few)) here.0 ∙ ap first_of (without-absent gone rest none)
          ∙ sym chain.1 ∙ ap next here.1
          ∙ sym (ap (λ o. first_without o (next gone) (Some x)) (ap previous (sym here.1) ∙ chain.0))
      | inr other ↦
          ap (λ b. first_of (cond (not b) (x ∷ few) few)) other.0
          ∙ elim (previous-in rest next previous (Some x) gone chain.2
          (omega (arith, there, ap (λ b. if b then times_in rest gone + 1 else times_in rest gone) other.0))) [
            | inl front ↦ sym (ap (λ o. first_without o (next gone) (Some x)) front)
            | inr some ↦ sym (ap (λ o. first_without o (next gone) (Some x)) some.is)
          ]
    ]

-- ---- a slot is unlinked and zeroed, with other depths for the others

abbrev pub unlinked_words : Words → ℕ → Words
unlinked_words w gone = zeroed (record w {
  next = put_at w.next (w.previous gone) (w.next gone);
  previous = put_at w.previous (w.next gone) (w.previous gone);
}) gone 1

pub zeroed-off : {A : Type 0} (f : ℕ → A) (z : A) (gone s : ℕ) → s ≢ gone → (if is_within gone 1 s then z else f s) ≡ f s
zeroed-off f z gone s off = ap (λ b. if b then z else f s) (within-off gone s off)

pub zeroed-here : {A : Type 0} (f : ℕ → A) (z : A) (gone s : ℕ) → s ≡ gone → (if is_within gone 1 s then z else f s) ≡ z
zeroed-here f z gone s here = ap (λ b. if b then z else f s) (within-here gone s here)

pub capability-off : (w : Words) (gone s : ℕ) → s ≢ gone → capability_in (unlinked_words w gone) s ≡ capability_in w s
capability-off w gone s off =
    ap (λ h. fields_of h ((unlinked_words w gone).tail s)) (zeroed-off w.head 0 gone s off) ∙ ap (fields_of (w.head s)) (zeroed-off w.tail 0 gone s off)

pub capability-gone : (w : Words) (gone s : ℕ) → s ≡ gone → capability_in (unlinked_words w gone) s ≡ fields_of 0 0
capability-gone w gone s here =
    ap (λ h. fields_of h ((unlinked_words w gone).tail s)) (zeroed-here w.head 0 gone s here) ∙ ap (fields_of 0) (zeroed-here w.tail 0 gone s here)

-- the words of a slot are those of its capability still
pub whole-unlinked : (w : Words) (o : List Bool) (gone : ℕ) → ((s : ℕ) → is_open_in o s ≡ true → w.head s ∷ w.tail s ∷ [] ≡ words_of (capability_in w s))
    → (s : ℕ) → is_open_in o s ≡ true → (unlinked_words w gone).head s ∷ (unlinked_words w gone).tail s ∷ [] ≡ words_of
    (capability_in (unlinked_words w gone) s)
whole-unlinked w o gone whole s there = elim (eqb_tells s gone) [
  | inl here ↦ zero-whole ((unlinked_words w gone).head s) ((unlinked_words w gone).tail s) (zeroed-here w.head 0 gone s here.1)
      (zeroed-here w.tail 0 gone s here.1)
  | inr off ↦
      ap (λ h. h ∷ (unlinked_words w gone).tail s ∷ []) (zeroed-off w.head 0 gone s off.1) ∙ ap (λ t. w.head s ∷ t ∷ []) (zeroed-off w.tail 0 gone s off.1)
      ∙ whole s there ∙ ap words_of (sym (capability-off w gone s off.1))
]

-- and what is linked stays so
pub linked-unlinked : (w : Words) (xs ys : List ℕ) (gone : ℕ) → IsChain w.next w.previous None xs → ((s : ℕ) → times_in xs s ≤ 1) → 0 < times_in xs gone
    → ys ≡ without gone xs → IsChain (unlinked_words w gone).next (unlinked_words w gone).previous None ys
linked-unlinked w xs ys gone chain once there order =
    let next' = put_at w.next (w.previous gone) (w.next gone) in
    let previous' = put_at w.previous (w.next gone) (w.previous gone) in
    subst (IsChain (unlinked_words w gone).next (unlinked_words w gone).previous None) (sym order)
    (chain-same (without gone xs) next' previous' (unlinked_words w gone).next (unlinked_words w gone).previous None
    (chain-without xs w.next w.previous None gone chain once (λ b same. absurd (let clash : None ≡ Some b = same in cc)) there)
    (λ z is. zeroed-off next' None gone z (stays-off xs gone z is))
    (λ z is. zeroed-off previous' None gone z (stays-off xs gone z is)))

-- ---- splicing

abbrev pub lowered_words : Words → ℕ → ℕ → Words
lowered_words w gone n = record w { depth = lowered_depths w.next (w.depth gone) n (w.next gone) w.depth }

module _ (w : Words) (o : List Bool) (first : Option ℕ) (rows : List Row) (gone n : ℕ) (packed : IsPackedAs w o first rows)
    (full : is_full (slots_as w o rows) gone ≡ true) (few : length rows ≤ n) where
  abbrev slots : Slots
  slots = slots_as w o rows

  abbrev left : List Row
  left = taken_out gone rows

  abbrev new : Words
  new = unlinked_words (lowered_words w gone n) gone

  there : 0 < rows_of rows gone
  there = omega (arith, full-row w o first rows gone packed full)

  order : slots_of left ≡ without gone (slots_of rows)
  order = slots-taken_out rows gone (packed.linked.once gone)

  none-left : rows_of left gone ≡ 0
  none-left = ap (λ l. times_in l gone) order ∙ times-without (slots_of rows) gone

  spliced-at : (s : ℕ) → slots_as new o left s ≡ spliced slots gone s
  spliced-at s =
      let above = parent_at slots gone in
      elim (eqb_tells s gone) [
        | inl here ↦
            as-open new o left s (ap (is_open_in o) here.1 ∙ open-full w o rows gone full)
            ∙ ap (λ (c : Cap). Some (record { capability = c; parent = parents_of left s }))
            (capability-gone (lowered_words w gone n) gone s here.1 ∙ zero-empty)
            ∙ ap (λ (p : Option ℕ). Some (record empty_entry { parent = p })) (ap (parents_of left) here.1 ∙ none-without left (λ i. None) gone none-left)
            ∙ sym (ap (spliced slots gone) here.1 ∙ entry-same (with_parent slots gone above) gone (Some empty_entry))
        | inr off ↦
            elim (is_open_in o s) as (λ b. is_open_in o s ≡ b → slots_as new o left s ≡ with_parent slots gone above s) [
              | true ↦ λ is.
                  as-open new o left s is
                  ∙ ap (λ (c : Cap). Some (record { capability = c; parent = parents_of left s })) (capability-off (lowered_words w gone n) gone s off.1)
                  ∙ ap (λ (p : Option ℕ). Some (record { capability = capability_in w s; parent = p }))
                  (taken-out rows gone s packed.linked.rises off.1 (packed.linked.once gone)
                  ∙ ap (λ u. adopted_parent gone u (parents_of rows s)) (sym (parent-as w o first rows gone packed)))
                  ∙ ap Some (sym (adopted-as gone above (capability_in w s) (parents_of rows s)))
                  ∙ ap (option_map (adopted gone above)) (sym (as-open w o rows s is))
              | false ↦ λ is. as-closed new o left s is ∙ ap (option_map (adopted gone above)) (sym (as-closed w o rows s is))
            ] refl
            ∙ sym (entry-other (with_parent slots gone above) gone (Some empty_entry) s off.1)
      ]

  spliced-is : slots_as new o left ≡ spliced slots gone
  spliced-is = λ i s. spliced-at s i

  spliced-linked : IsLinked new.next new.previous new.depth left
  spliced-linked = record {
    chain = linked-unlinked (lowered_words w gone n) (slots_of rows) (slots_of left) gone packed.linked.chain packed.linked.once there order;
    deep = deep-same left (lowered_words w gone n).depth new.depth
        (deep-taken_out rows w.next w.previous None w.depth gone n packed.linked.chain packed.linked.deep packed.linked.once there few)
        (λ s is. zeroed-off (lowered_words w gone n).depth 0 gone s (stays-off (slots_of rows) gone s (subst (λ (l : List ℕ). 0 < times_in l s) order is)));
    rises = rises-taken_out rows 0 gone packed.linked.rises;
    once = λ s. elim (eqb_tells s gone) [
      | inl here ↦ omega (arith, ap (rows_of left) here.1, none-left)
      | inr off ↦ omega (arith, ap (λ l. times_in l s) order, times-without_other (slots_of rows) gone s off.1, packed.linked.once s)
    ];
  }

  spliced-blank : (s : ℕ) → is_open_in o s ≡ true → is_full (spliced slots gone) s ≡ false → new.depth s ≡ 0
  spliced-blank s is empty = elim (eqb_tells s gone) [
    | inl here ↦ zeroed-here (lowered_words w gone n).depth 0 gone s here.1
    | inr off ↦
        let was : is_full slots s ≡ false = sym (full-spliced slots gone s off.1) ∙ empty in
        zeroed-off (lowered_words w gone n).depth 0 gone s off.1
        ∙ low-beside rows w.next w.previous None w.depth (w.depth gone) n gone s packed.linked.chain there (no-row w o first rows s packed was)
        ∙ packed.blank s is was
  ]

  object-left : (s : ℕ) → 0 < rows_of left s → object_at (spliced slots gone) s ≡ object_at slots s
  object-left s is =
      let off : s ≢ gone = λ same. absurd (omega (arith, is, ap (rows_of left) same, none-left)) in
      ap (λ e. object_of (capability_of e)) (entry-other (with_parent slots gone (parent_at slots gone)) gone (Some empty_entry) s off)
      ∙ ap object_of (capability-adopted gone (parent_at slots gone) (slots s))

  spliced-packs : IsPackedAs new o (first_without (w.previous gone) (w.next gone) first) left
  spliced-packs =
      packs new o (first_without (w.previous gone) (w.next gone) first) left (spliced slots gone) spliced-is spliced-linked
      (ap (first_without (w.previous gone) (w.next gone)) packed.begins
      ∙ sym (first-without (slots_of rows) w.next w.previous gone packed.linked.chain packed.linked.once there) ∙ ap first_of (sym order))
      (λ s. ap (λ l. times_in l s) order ∙ order-spliced slots (slots_of rows) gone packed.listed s)
      (whole-unlinked (lowered_words w gone n) o gone packed.whole)
      spliced-blank
      (derivation-spliced slots gone packed.derivation full)
      (runs-same (object_at slots) (object_at (spliced slots gone)) (slots_of left) object-left
      (runs-taken_out rows (object_at slots) gone (packed.linked.once gone) packed.runs))

pub splice-slots : (w : Words) (o : List Bool) (first : Option ℕ) (rows : List Row) (gone n : ℕ) → IsPackedAs w o first rows →
    is_full (slots_as w o rows) gone ≡ true
    → length rows ≤ n → slots_as (unlinked_words (lowered_words w gone n) gone) o (taken_out gone rows) ≡ spliced (slots_as w o rows) gone
splice-slots w o first rows gone n packed full few = spliced-is w o first rows gone n packed full few

pub splice-packs : (w : Words) (o : List Bool) (first : Option ℕ) (rows : List Row) (gone n : ℕ) → IsPackedAs w o first rows →
    is_full (slots_as w o rows) gone ≡ true
    → length rows ≤ n → IsPackedAs (unlinked_words (lowered_words w gone n) gone) o (first_without (w.previous gone) (w.next gone) first) (taken_out gone rows)
splice-packs w o first rows gone n packed full few = spliced-packs w o first rows gone n packed full few
